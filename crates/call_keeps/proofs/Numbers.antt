-- The number of a user: what it says that a number is new, that it is found and that it is free.
use Prim.Native.Nat.{ℕ, zero, suc, ◌<◌}
use mathlib.Core.Path.{◌≡◌, refl, sym, ap, subst, ◌∙◌}
use mathlib.Core.Bool.{Bool, true, false, not, ◌&&◌, true≢false}
use mathlib.Core.List.{List}
use native.Mathlib.Omega.{arith}
use borrow.Author.Tests.{eqb-true, eq-eqb, not-true}
use lib.Dec.{eqb}
use Rattle.book_layout.specs.Fields.{user_kind}
use Rattle.units.specs.Folds.{any_below}
use Rattle.units.proofs.Bools.{and_left, and_right}
use Rattle.units.proofs.Folds.{none-at, none_of, below_suc}
use Rattle.book_rules.specs.Book.{used, is_user, number_of, number_is_new}
use Rattle.book_rules.proofs.RecordKinds.{kind-index}
use Rattle.book_rules.specs.Find.{find_below, find_user}

-- the record j is the user with this number
abbrev bears : List ℕ → ℕ → ℕ → Bool
bears b number j = is_user b j && eqb (number_of b j) number

not-borne : (b : List ℕ) (number j : ℕ) → bears b number j ≡ false → is_user b j ≡ true → number_of b j ≡ number → ⊥
not-borne b number j h u e = true≢false (sym both ∙ h)
  where
    both : bears b number j ≡ true
    both = rw (u, eq-eqb (number_of b j) number e)

borne-not : (b : List ℕ) (number j : ℕ) → (is_user b j ≡ true → number_of b j ≡ number → ⊥) → bears b number j ≡ false
borne-not b number j h = by_value (bears b number j) refl
  where
    by_value : (t : Bool) → bears b number j ≡ t → bears b number j ≡ false
    by_value true e = absurd (h (and_left (is_user b j) (eqb (number_of b j) number) e) (eqb-true (number_of b j) number (and_right (is_user b j) (eqb (number_of b j) number) e)))
    by_value false e = e

-- "no user with a smaller index has its number"
pub new_apart : (b : List ℕ) (i : ℕ) → number_is_new b i ≡ true → (j : ℕ) → j < i → is_user b j ≡ true → number_of b j ≡ number_of b i → ⊥
unfolding number_is_new
new_apart b i h j l = not-borne b (number_of b i) j (none-at i (bears b (number_of b i)) (not-true (any_below i (bears b (number_of b i))) h) j l)

pub apart-new : (b : List ℕ) (i : ℕ) → ((j : ℕ) → j < i → is_user b j ≡ true → number_of b j ≡ number_of b i → ⊥) → number_is_new b i ≡ true
unfolding number_is_new
apart-new b i h = ap not (none_of i (bears b (number_of b i)) (λ j l. borne-not b (number_of b i) j (h j l)))

-- one more record to look at
find-here : (b : List ℕ) (number n : ℕ) → bears b number n ≡ true → find_below b number (suc n) ≡ n
unfolding find_below
find-here b number n h = rw h

find-lower : (b : List ℕ) (number n : ℕ) → bears b number n ≡ false → find_below b number (suc n) ≡ find_below b number n
unfolding find_below
find-lower b number n h = rw h

-- what is found is a user with the number
pub record Found (b : List ℕ) (number i : ℕ) : Type 0 where
  pub user : is_user b i ≡ true
  pub number_is : number_of b i ≡ number

found_below : (b : List ℕ) (number n : ℕ) → (find_below b number n ≡ 0 → ⊥) → Found b number (find_below b number n)
unfolding find_below
found_below b number zero h = absurd (h refl)
found_below b number (suc n) h = by_value (bears b number n) refl (found_below b number n)
  where
    by_value : (t : Bool) → bears b number n ≡ t → ((find_below b number n ≡ 0 → ⊥) → Found b number (find_below b number n)) → Found b number (find_below b number (suc n))
    by_value true e lower =
        subst (Found b number) (sym (find-here b number n e))
        (record { user = and_left (is_user b n) (eqb (number_of b n) number) e; number_is = eqb-true (number_of b n) number (and_right (is_user b n) (eqb (number_of b n) number) e) })
    by_value false e lower =
        subst (Found b number) (sym (find-lower b number n e)) (lower (λ z. h (find-lower b number n e ∙ z)))

-- where nothing is found no user has the number
none_below : (b : List ℕ) (number n : ℕ) → find_below b number n ≡ 0 → (j : ℕ) → j < n → is_user b j ≡ true → number_of b j ≡ number → ⊥
none_below b number zero e = λ j l. let z : ⊥ = omega arith in absurd z
none_below b number (suc n) e = by_value (bears b number n) refl (none_below b number n)
  where
    by_value : (t : Bool) → bears b number n ≡ t → (find_below b number n ≡ 0 → (j : ℕ) → j < n → is_user b j ≡ true → number_of b j ≡ number → ⊥)
        → (j : ℕ) → j < suc n → is_user b j ≡ true → number_of b j ≡ number → ⊥
    by_value true t lower =
        let place = kind-index b user_kind n (and_left (is_user b n) (eqb (number_of b n) number) t) in
        absurd (omega (arith, find-here b number n t, place.0))
    by_value false t lower =
        below_suc (λ j. is_user b j ≡ true → number_of b j ≡ number → ⊥) n (lower (sym (find-lower b number n t) ∙ e)) (not-borne b number n t)

pub found : (b : List ℕ) (number : ℕ) → (find_user b number ≡ 0 → ⊥) → Found b number (find_user b number)
unfolding find_user
found b number h = found_below b number (used b) h

pub none_found : (b : List ℕ) (number : ℕ) → find_user b number ≡ 0 → (j : ℕ) → is_user b j ≡ true → number_of b j ≡ number → ⊥
unfolding find_user
none_found b number e j h = none_below b number (used b) e j (kind-index b user_kind j h).1.0 h
