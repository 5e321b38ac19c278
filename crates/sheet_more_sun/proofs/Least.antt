-- The least number below n that passes a test, and least energies at a price.
use Rattle.std.specs.Prelude.{Option, Some, None}
use Prim.Native.Nat.{ℕ, ◌<◌}
use mathlib.Core.Path.{◌≡◌, sym, ap, subst, ◌∙◌}
use mathlib.Core.Bool.{Bool, false, cond}
use mathlib.Core.Logic.{◌⊎◌, inl, inr}
use native.Mathlib.Omega.{arith}
use Rattle.units.specs.Units.{kwh}
use Rattle.units.specs.Folds.{any_below, first_below}
use Rattle.units.proofs.Folds.{any_of, none_of, First, first_below_lem, first-is}
use Rattle.units.specs.declared.Kwh.{Kwh}
use Rattle.sheet_more_sun.specs.MoreSun.{least_below, more_sun, additions, covers_cost}
use Rattle.sheet_more_sun.specs.Laws.{IsLeast, AnswersLeast}

-- the answer that is least is the one that is searched for
pub least-is : (n : ℕ) (test : ℕ → Bool) (r : Option Kwh) → IsLeast n test r → r ≡ least_below n test
unfolding least_below
least-is n test (Some x) h =
    rw (any_of n test x.0 h.0 h.1.0) (ap (λ (k : ℕ). Some (kwh k)) (first-is n test x.0 h.0 h.1.0 h.1.1))
least-is n test None h = rw (none_of n test h)

-- and conversely
is-least : (n : ℕ) (test : ℕ → Bool) → IsLeast n test (least_below n test)
unfolding least_below
is-least n test = by-search (first_below_lem n test)
  where
    here : (r : Option Kwh) → IsLeast n test r → IsLeast n test (cond (any_below n test) (Some (kwh (first_below n test))) None)
    here r h = subst (IsLeast n test) (least-is n test r h) h

    by-search : First n test ⊎ ((i : ℕ) → i < n → test i ≡ false)
        → IsLeast n test (cond (any_below n test) (Some (kwh (first_below n test))) None)
    by-search (inl f) = here (Some (kwh f.at)) (f.below, (f.here, f.before))
    by-search (inr none) = here None none

pub answers-least : AnswersLeast
unfolding more_sun
answers-least s d m band = is-least (additions s m band) (covers_cost s d m band)

-- tests that agree have the same least number
pub least-same : (n : ℕ) (p q : ℕ → Bool) → ((x : ℕ) → x < n → p x ≡ q x) → (r : Option Kwh) → IsLeast n p r → IsLeast n q r
least-same n p q same (Some x) h = (h.0, (sym (same x.0 h.0) ∙ h.1.0, λ y l. sym (same y (omega (arith, h.0))) ∙ h.1.1 y l))
least-same n p q same None h = λ y l. sym (same y l) ∙ h y l
