-- The links of a sound book, as facts: where the head, a user and an entry point to.
use Prim.Native.Nat.{ℕ, ◌<◌}
use mathlib.Core.Path.{◌≡◌, ◌∙◌}
use mathlib.Core.Bool.{true, ◌&&◌, ◌||◌}
use mathlib.Core.Logic.{◌⊎◌, ⊎_map}
use mathlib.Core.List.{List}
use lib.Dec.{eqb, ltb}
use borrow.Author.Tests.{eqb-true, ltb-true}
use Rattle.units.proofs.Bools.{and_left, and_right, or_cases}
use Rattle.book_layout.specs.Fields.{all_zero, unnamed_of_head, record_at}
use Rattle.book_rules.specs.Book.{first_user, is_user, is_entry, owner_of, next_of, first_entry_of, user_next_fits, first_entry_fits, entry_next_fits, good_head}
use Rattle.book_rules.proofs.Faultless.{Faultless, EntryLinks, owner-before}
use Rattle.chains.proofs.Chain.{Falls}

-- an entry of the user at index i
pub record Owned (b : List ℕ) (i e : ℕ) : Type 0 where
  pub entry : is_entry b e ≡ true
  pub owner : owner_of b e ≡ i

module _ (b : List ℕ) (f : Faultless b) where
  -- "its first user is neither 0 nor a user below u"
  pub first-user : (first_user b ≡ 0) ⊎ (is_user b (first_user b) ≡ true)
  unfolding good_head
  first-user =
      ⊎_map (eqb-true (first_user b) 0) (λ u. u)
      (or_cases (eqb (first_user b) 0) (is_user b (first_user b)) (and_left (eqb (first_user b) 0 || is_user b (first_user b)) (all_zero unnamed_of_head (record_at b 0)) f.head))

  -- "A user's next is 0 or a user with a smaller index"
  pub user-next : (i : ℕ) → is_user b i ≡ true → (next_of b i ≡ 0) ⊎ ((is_user b (next_of b i) ≡ true) × (next_of b i < i))
  unfolding user_next_fits
  user-next i u =
      ⊎_map (eqb-true (next_of b i) 0)
      (λ h. (and_left (is_user b (next_of b i)) (ltb (next_of b i) i) h, ltb-true (next_of b i) i (and_right (is_user b (next_of b i)) (ltb (next_of b i) i) h)))
      (or_cases (eqb (next_of b i) 0) (is_user b (next_of b i) && ltb (next_of b i) i) (f.user i u).next)

  -- "its first entry is 0 or an entry it owns"
  pub first_entry : (i : ℕ) → is_user b i ≡ true → (first_entry_of b i ≡ 0) ⊎ Owned b i (first_entry_of b i)
  unfolding first_entry_fits
  first_entry i u =
      let e = first_entry_of b i in
      ⊎_map (eqb-true e 0)
      (λ h. record { entry = and_left (is_entry b e) (eqb (owner_of b e) i) h; owner = eqb-true (owner_of b e) i (and_right (is_entry b e) (eqb (owner_of b e) i) h) })
      (or_cases (eqb e 0) (is_entry b e && eqb (owner_of b e) i) (f.user i u).first)

  pub entry-links : (e : ℕ) → is_entry b e ≡ true → EntryLinks b e
  entry-links e h =
      (f.entry e h).links

  -- "An entry's next is 0 or an entry of the same owner with a smaller index"
  pub entry_next : (e : ℕ) → is_entry b e ≡ true → (next_of b e ≡ 0) ⊎ (Owned b (owner_of b e) (next_of b e) × (next_of b e < e))
  unfolding entry_next_fits
  entry_next e h =
      let n = next_of b e in
      let same = eqb (owner_of b n) (owner_of b e) in
      let owned = is_entry b n && same in
      let links : owned ≡ true → Owned b (owner_of b e) n = λ o.
      record { entry = and_left (is_entry b n) same o; owner = eqb-true (owner_of b n) (owner_of b e) (and_right (is_entry b n) same o) } in
      ⊎_map (eqb-true n 0) (λ t. (links (and_left owned (ltb n e) t), ltb-true n e (and_right owned (ltb n e) t)))
      (or_cases (eqb n 0) (owned && ltb n e) (entry-links e h).next)

  -- "its owner is a user with a smaller index"
  pub entry-owner : (e : ℕ) → is_entry b e ≡ true → (is_user b (owner_of b e) ≡ true) × (owner_of b e < e)
  entry-owner e h = owner-before b e (entry-links e h).owner

  -- the same as steps of a chain
  pub users-fall : Falls (λ i. is_user b i ≡ true) (next_of b)
  users-fall = user-next

  pub entries-fall : (i : ℕ) → Falls (Owned b i) (next_of b)
  entries-fall i e o =
      ⊎_map (λ z. z) (λ p. (record { entry = p.0.entry; owner = p.0.owner ∙ o.owner }, p.1)) (entry_next e o.entry)
