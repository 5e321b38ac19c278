-- Each pointer of a good record is 0 or an index below u, so that nothing points to u or above it.
use Prim.Native.Nat.{ℕ, ◌≤◌, ◌<◌}
use mathlib.Core.Path.{◌≡◌, ◌∙◌}
use mathlib.Core.Bool.{Bool, true, ◌&&◌, ◌||◌}
use mathlib.Core.List.{List}
use mathlib.Core.Logic.{⊎_elim}
use native.Mathlib.Decide.{dec_lt}
use native.Mathlib.Omega.{arith}
use borrow.Author.Tests.{eqb-true}
use lib.Dec.{eqb, ltb}
use Rattle.book_layout.specs.Fields.{record_at, all_zero, unnamed_of_head, user_kind}
use Rattle.units.proofs.Bools.{and_left, or_cases}
use Rattle.units.proofs.Folds.{sum-none}
use Rattle.book_rules.specs.Book.{used, first_user, is_user, is_entry, next_of, first_entry_of, owner_of, good_head, user_next_fits, first_entry_fits, entry_next_fits, pointers_from, pointers_to}
use Rattle.book_rules.proofs.Faults.{used-within}
use Rattle.book_rules.proofs.Hits.{hits-other}
use Rattle.book_rules.proofs.RecordKinds.{kind-index, entry-index}
use Rattle.book_rules.proofs.Faultless.{Faultless, EntryLinks}
use Rattle.call_keeps.proofs.Pointers.{from-head, from-user, from-entry}

module _ (b : List ℕ) (g : Faultless b) where
  some-used : 1 ≤ used b
  some-used = (used-within b g.used-fits).0

  -- a link to 0 or to a record below u
  link-below : (p : ℕ) (t : Bool) → (eqb p 0 || t) ≡ true → (t ≡ true → p < used b) → p < used b
  link-below p t h below = ⊎_elim (λ e. omega (arith, eqb-true p 0 e, some-used)) below (or_cases (eqb p 0) t h)

  first-user-below : first_user b < used b
  unfolding good_head
  first-user-below =
      link-below (first_user b) (is_user b (first_user b)) (and_left (eqb (first_user b) 0 || is_user b (first_user b)) (all_zero unnamed_of_head (record_at b 0)) g.head)
      (λ e. (kind-index b user_kind (first_user b) e).1.0)

  user-next-below : (j : ℕ) → is_user b j ≡ true → next_of b j < used b
  unfolding user_next_fits
  user-next-below j h =
      link-below (next_of b j) (is_user b (next_of b j) && ltb (next_of b j) j) (g.user j h).next
      (λ e. (kind-index b user_kind (next_of b j) (and_left (is_user b (next_of b j)) (ltb (next_of b j) j) e)).1.0)

  first-entry-below : (j : ℕ) → is_user b j ≡ true → first_entry_of b j < used b
  unfolding first_entry_fits
  first-entry-below j h =
      link-below (first_entry_of b j) (is_entry b (first_entry_of b j) && eqb (owner_of b (first_entry_of b j)) j) (g.user j h).first
      (λ e. (entry-index b (first_entry_of b j) (and_left (is_entry b (first_entry_of b j)) (eqb (owner_of b (first_entry_of b j)) j) e)).1)

  entry-next-below : (j : ℕ) → EntryLinks b j → next_of b j < used b
  unfolding entry_next_fits
  entry-next-below j e =
      link-below (next_of b j) ((is_entry b (next_of b j) && eqb (owner_of b (next_of b j)) (owner_of b j)) && ltb (next_of b j) j) e.next
      (λ t.
      (entry-index b (next_of b j)
      (and_left (is_entry b (next_of b j)) (eqb (owner_of b (next_of b j)) (owner_of b j))
      (and_left (is_entry b (next_of b j) && eqb (owner_of b (next_of b j)) (owner_of b j)) (ltb (next_of b j) j) t))).1)

  -- a record is a user or an entry
  pub by-role : (P : Type 0) (j : ℕ) → 1 ≤ j → j < used b → (is_user b j ≡ true → P) → (is_entry b j ≡ true → P) → P
  by-role P j lo hi user entry = ⊎_elim user entry (or_cases (is_user b j) (is_entry b j) (g.known j lo hi))

  from-below : (k j : ℕ) → used b ≤ k → 1 ≤ j → j < used b → pointers_from b k j ≡ 0
  from-below k j above lo hi =
      by-role (pointers_from b k j ≡ 0) j lo hi
      (λ u.
      let next = hits-other (next_of b j) k (omega (arith, user-next-below j u)) in
      let first = hits-other (first_entry_of b j) k (omega (arith, first-entry-below j u)) in
      omega (arith, from-user b k j lo (kind-index b user_kind j u).1.1))
      (λ e. from-entry b k j e ∙ hits-other (next_of b j) k (omega (arith, entry-next-below j (g.entry j e).links)))

  -- nothing points to u or above it
  pub none-points : (k : ℕ) → used b ≤ k → pointers_to b k ≡ 0
  unfolding pointers_to
  none-points k above = sum-none (used b) (pointers_from b k) (λ j hi. by_place j hi (dec_lt 0 j))
    where
      by_place : (j : ℕ) → j < used b → Dec (0 < j) → pointers_from b k j ≡ 0
      by_place j hi (yes lo) = from-below k j above lo hi
      by_place j hi (no n) =
          let head : j ≡ 0 = omega (arith, n) in
          rw head (from-head b k ∙ hits-other (first_user b) k (omega (arith, first-user-below)))
