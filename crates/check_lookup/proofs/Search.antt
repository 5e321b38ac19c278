-- The search from the last record down: what is left behind does not bear the number.
use Prim.Native.Nat.{ℕ, zero, suc, ◌-◌, ◌≤◌, ◌<◌}
use mathlib.Core.Path.{◌≡◌, refl, sym, ap, ◌∙◌}
use mathlib.Core.Bool.{Bool, true, false, cond, ◌&&◌, true≢false}
use mathlib.Core.List.{List}
use native.Mathlib.Omega.{arith}
use borrow.Author.Tests.{ne_eqb}
use lib.Dec.{eqb}
use Rattle.units.specs.declared.RecordIndex.{RecordIndex}
use Rattle.units.specs.Units.{record_index}
use Rattle.units.proofs.Bools.{and_left}
use Rattle.book_rules.specs.Book.{used, is_user, number_of}
use Rattle.book_rules.specs.Find.{find_below, find_user}
use Rattle.book_rules.proofs.Find.{found_none}
use Rattle.check_lookup.specs.Found.{found_user}
use native.Mathlib.Decide.{ℕ_discrete}
use Rattle.std.proofs.Common.{Option, Some, None, unwrap_or, is_some}

pub record Searched (b : List ℕ) (n left : ℕ) : Type 0 where
  pub below : left ≤ used b
  pub same : find_user b n ≡ find_below b n left

pub search-begins : (b : List ℕ) (n left : ℕ) → left ≡ used b → Searched b n left
unfolding find_user
search-begins b n left e = record { below = omega (arith, e); same = sym (ap (find_below b n) e) }

module _ (b : List ℕ) (n left : ℕ) (s : Searched b n left) (more : 1 < left) (t : Bool)
    (is : t ≡ (is_user b (left - 1) && eqb (number_of b (left - 1)) n)) where
  one_less : left ≡ suc (left - 1)
  one_less = omega arith

  by-test : find_below b n left ≡ cond t (left - 1) (find_below b n (left - 1))
  unfolding find_below
  by-test = ap (find_below b n) one_less ∙ ap (λ x. cond x (left - 1) (find_below b n (left - 1))) (sym is)

  pub found_here : t ≡ true → Some (record_index (left - 1)) ≡ found_user b n
  unfolding found_user
  found_here h =
      let here : find_user b n ≡ left - 1 = s.same ∙ by-test ∙ rw h in
      rw (here, ne_eqb (left - 1) 0 (omega arith))

  pub search-on : t ≡ false → Searched b n (left - 1)
  search-on h = record { below = omega (arith, s.below); same = s.same ∙ by-test ∙ rw h }

pub found_nowhere : (b : List ℕ) (n left : ℕ) → Searched b n left → left ≤ 1 → None ≡ found_user b n
unfolding found_user
found_nowhere b n left s l = rw (s.same, found_none b n left l)

-- the record that is found, or the head where none is
found-or-none : (b : List ℕ) (n : ℕ) → unwrap_or (found_user b n) (record_index 0) ≡ record_index (find_user b n)
unfolding found_user
found-or-none b n = by_value (ℕ_discrete (find_user b n) 0)
  where
    by_value : Dec (find_user b n ≡ 0) → unwrap_or (cond (eqb (find_user b n) 0) None (Some (record_index (find_user b n)))) (record_index 0) ≡ record_index (find_user b n)
    by_value (yes z) = rw z
    by_value (no some) = rw (ne_eqb (find_user b n) 0 some)

none-found : (b : List ℕ) (n : ℕ) → find_user b n ≡ 0 → found_user b n ≡ None
unfolding found_user
none-found b n z = rw z

-- where no record is found the search ends at the head
pub found-nobody : (b : List ℕ) (n : ℕ) → None ≡ found_user b n → find_user b n ≡ 0
found-nobody b n none = sym (ap (λ (i : RecordIndex). i.0) (ap (λ (o : Option RecordIndex). unwrap_or o (record_index 0)) none ∙ found-or-none b n))

-- what is found is a user
below-user : (b : List ℕ) (n k : ℕ) → (find_below b n k ≡ 0 → ⊥) → is_user b (find_below b n k) ≡ true
unfolding find_below
below-user b n zero some = absurd (some refl)
below-user b n (suc k) some = by_value (is_user b k && eqb (number_of b k) n) refl (below-user b n k) some
  where
    by_value : (t : Bool) → (is_user b k && eqb (number_of b k) n) ≡ t → ((find_below b n k ≡ 0 → ⊥) → is_user b (find_below b n k) ≡ true)
        → (cond t k (find_below b n k) ≡ 0 → ⊥) → is_user b (cond t k (find_below b n k)) ≡ true
    by_value true e rest some = and_left (is_user b k) (eqb (number_of b k) n) e
    by_value false e rest some = rest some

module _ (b : List ℕ) (n : ℕ) (i : RecordIndex) (found : Some i ≡ found_user b n) where
  pub found-index : i ≡ record_index (find_user b n)
  found-index = ap (λ (o : Option RecordIndex). unwrap_or o (record_index 0)) found ∙ found-or-none b n

  pub found-is-user : is_user b i.0 ≡ true
  unfolding find_user
  found-is-user =
      let some : find_user b n ≡ 0 → ⊥ = λ z. true≢false (ap is_some (found ∙ none-found b n z)) in
      rw found-index (below-user b n (used b) some)

-- for searches: the record that is found is the user's, or there is none
pub ruleset found = (found-index, found-is-user, found-nobody)
