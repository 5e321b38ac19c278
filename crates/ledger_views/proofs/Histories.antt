-- What a booking leaves of the histories: a user whose record stays keeps its chain and its entries; the user booked keeps its
-- older entries.
use Prim.Native.Nat.{ℕ, ◌≤◌}
use mathlib.Core.Path.{◌≡◌, refl, ap, ◌∙◌}
use mathlib.Core.Bool.{true}
use mathlib.Core.List.{List, [], ◌∷◌}
use Rattle.book_layout.specs.Fields.{get, record_at, first_entry_field, user_kind}
use Rattle.book_records.specs.Records.{account_in}
use Rattle.book_records.specs.Entries.{Entry, entry_in}
use Rattle.book_rules.specs.Book.{is_user, is_entry, next_of, first_entry_of, account_at}
use Rattle.book_rules.specs.Chains.{chain_from, entries_of}
use Rattle.book_rules.proofs.RecordKinds.{kind-index, entry-index}
use Rattle.book_rules.proofs.Faultless.{Faultless}
use Rattle.chains.proofs.Lists.{All, all_map}
use Rattle.chains.proofs.Chain.{On, falls-closed, chain_same, chain-cons}
use Rattle.chains.proofs.Links.{Owned, first_entry, entries-fall}
use Rattle.chains.proofs.Entries.{entries-only}
use Rattle.call_keeps.proofs.Frame.{Frame}
use Rattle.ledger_views.specs.Views.{entries_in}

abbrev pub IsEntry : List ℕ → ℕ → Type 0
IsEntry b e = is_entry b e ≡ true

pub are-entries : (b : List ℕ) → Faultless b → (i : ℕ) → is_user b i ≡ true → All (IsEntry b) (entries_of b i)
are-entries b g i u = all_map (Owned b i) (IsEntry b) (entries_of b i) (λ e o. o.entry) (entries-only b g i u)

module _ (b b' : List ℕ) (k : ℕ) (f : Frame b b' k) where
  -- old entries say what they said
  entries-stay : (es : List ℕ) → All (IsEntry b) es → entries_in b' es ≡ entries_in b es
  unfolding entries_in
  entries-stay [] a = refl
  entries-stay (e ∷ es) a = rw (f.entry e a.0, entries-stay es a.1)

  module _ (g : Faultless b) (i : ℕ) (u : is_user b i ≡ true) where
    -- a chain from an old entry stays
    old-chain : (e : ℕ) → On (Owned b i) e → chain_from (next_of b') e ≡ chain_from (next_of b) e
    old-chain e o =
        chain_same (Owned b i) (next_of b) (falls-closed (Owned b i) (next_of b) (entries-fall b g i)) (next_of b')
        (λ j p. let place = entry-index b j p.entry in f.next j place.0 place.1) e o

    pub entries-kept : first_entry_of b' i ≡ first_entry_of b i → entries_in b' (entries_of b' i) ≡ entries_in b (entries_of b i)
    unfolding entries_of
    entries-kept same =
        let chain = ap (chain_from (next_of b')) same ∙ old-chain (first_entry_of b i) (first_entry b g i u) in
        ap (entries_in b') chain ∙ entries-stay (entries_of b i) (are-entries b g i u)

    -- a user that is not the one booked
    pub first-kept : (i ≡ k → ⊥) → first_entry_of b' i ≡ first_entry_of b i
    unfolding first_entry_of
    first-kept other = let place = kind-index b user_kind i u in ap (get first_entry_field) (f.others i place.0 place.1.0 other)

    pub account-kept : (i ≡ k → ⊥) → account_at b' i ≡ account_at b i
    account-kept other = let place = kind-index b user_kind i u in ap account_in (f.others i place.0 place.1.0 other)

    -- a new entry at the front of the user's chain
    module _ (g' : Faultless b') (new : ℕ) (lo : 1 ≤ new) (first : first_entry_of b' i ≡ new) (next : next_of b' new ≡ first_entry_of b i) (owned : Owned b' i new) where
      entries-added : entries_of b' i ≡ new ∷ entries_of b i
      unfolding entries_of
      entries-added =
          ap (chain_from (next_of b')) first
          ∙ chain-cons (Owned b' i) (next_of b') (entries-fall b' g' i) new lo owned
          ∙ ap (λ (e : ℕ). new ∷ chain_from (next_of b') e) next
          ∙ ap (λ (es : List ℕ). new ∷ es) (old-chain (first_entry_of b i) (first_entry b g i u))

      pub entry-joins : entries_in b' (entries_of b' i) ≡ entry_in (record_at b' new) ∷ entries_in b (entries_of b i)
      unfolding entries_in
      entry-joins = ap (entries_in b') entries-added ∙ ap (λ (es : List Entry). entry_in (record_at b' new) ∷ es) (entries-stay (entries_of b i) (are-entries b g i u))
