-- The chain of a user of a sound book holds its entries and no other record, by falling index.
use Prim.Native.Nat.{ℕ}
use mathlib.Core.Path.{◌≡◌, subst}
use mathlib.Core.Bool.{true}
use mathlib.Core.Logic.{◌⊎◌}
use mathlib.Core.List.{List}
use Rattle.book_rules.specs.Book.{used, is_user, is_entry, owner_of, next_of, first_entry_of}
use Rattle.book_rules.proofs.Faultless.{Faultless}
use Rattle.book_rules.specs.Chains.{entries_of}
use Rattle.chains.proofs.Lists.{◌∈◌, All, Falling}
use Rattle.chains.proofs.Chain.{chain-holds-only, chain-falling, chain-complete, falls-closed}
use Rattle.book_rules.proofs.RecordKinds.{entry-index}
use Rattle.chains.proofs.Links.{Owned, entry-owner, first_entry, entries-fall}
use Rattle.chains.proofs.Pointers.{entry-pointed}

module _ (b : List ℕ) (f : Faultless b) where
  pub entries-only : (i : ℕ) → is_user b i ≡ true → All (Owned b i) (entries_of b i)
  unfolding entries_of
  entries-only i u =
      chain-holds-only (Owned b i) (next_of b) (falls-closed (Owned b i) (next_of b) (entries-fall b f i)) (first_entry_of b i) (first_entry b f i u)

  pub entries-falling : (i : ℕ) → is_user b i ≡ true → Falling (entries_of b i)
  unfolding entries_of
  entries-falling i u = chain-falling (Owned b i) (next_of b) (entries-fall b f i) (first_entry_of b i) (first_entry b f i u)

  owned-pointed : (i e : ℕ) → Owned b i e → (first_entry_of b i ≡ e) ⊎ ((j : ℕ) × (Owned b i j × (next_of b j ≡ e)))
  owned-pointed i e o =
      subst (λ k. (first_entry_of b k ≡ e) ⊎ ((j : ℕ) × (Owned b k j × (next_of b j ≡ e)))) o.owner (entry-pointed b f e o.entry)

  pub entries-complete : (i e : ℕ) → is_entry b e ≡ true → owner_of b e ≡ i → e ∈ entries_of b i
  unfolding entries_of
  entries-complete i e h o =
      let user = subst (λ k. is_user b k ≡ true) o (entry-owner b f e h).0 in
      chain-complete (Owned b i) (next_of b) (entries-fall b f i) (first_entry_of b i) (used b) (first_entry b f i user) (λ k p. entry-index b k p.entry) (owned-pointed i) e
      (record { entry = h; owner = o })
