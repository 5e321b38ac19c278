-- What the exported function says, and that what it says is the least.
use Prim.Native.Nat.{ℕ, ◌-◌, ◌<◌}
use mathlib.Core.Path.{◌≡◌, sym, ap, ◌∙◌}
use mathlib.Core.Bool.{Bool, true, false}
use mathlib.Core.List.{List}
use native.Mathlib.Omega.{arith}
use Rattle.std.specs.Prelude.{Option, Some, None}
use Rattle.refusals.specs.declared.Position.{Position}
use Rattle.sheet.specs.YearSheet.{sheet_user}
use Rattle.call_rules.specs.Refusals.{user_at}
use Rattle.units.specs.declared.Kwh.{Kwh}
use Rattle.sheet_more_sun.specs.MoreSun.{additions}
use Rattle.sheet_more_sun.specs.Laws.{IsLeast}
use Rattle.sheet_more_sun.proofs.Least.{answers-least}
use Rattle.call_more_sun.specs.Asked.{addition_answered}
use Rattle.ssp.specs.declared.Sun.{Sun}
use Rattle.ssp.specs.Flat.{position_of}
use Rattle.ssp.specs.FlatSun.{found_in, added_in, flat_sun}
use Rattle.ssp.proofs.Contract.{more-sun-says}
use Rattle.theorem_ssp.specs.MoreSun.{reaches_for, AdditionFits, LeastAnswered}

-- a least addition, by its two numbers
module _ (n : ℕ) (test : ℕ → Bool) where
  is_found : (x : Option Kwh) → IsLeast n test x → found_in x ≡ 1 → (added_in x < n) × ((test (added_in x) ≡ true) × ((y : ℕ) → y < added_in x → test y ≡ false))
  is_found (Some x) h e = h
  is_found None h e = let z : ⊥ = omega (arith, e) in absurd z

  is_none : (x : Option Kwh) → IsLeast n test x → found_in x ≡ 0 → (y : ℕ) → y < n → test y ≡ false
  is_none (Some x) h e = let z : ⊥ = omega (arith, e) in absurd z
  is_none None h e = h

module _ (b s : List ℕ) (month band : ℕ) (p : Position) (r : Sun) (flat : r ≡ flat_sun r.refusal r.«record» p (addition_answered b s month band r.refusal)) (accepted : r.refusal ≡ 0) where
  abbrev answer : Option Kwh
  answer = addition_answered b s month band r.refusal

  found-is : r.found ≡ found_in answer
  unfolding flat_sun
  found-is = ap (λ (x : Sun). x.found) flat

  added_is : r.added ≡ added_in answer
  unfolding flat_sun
  added_is = ap (λ (x : Sun). x.added) flat

  least : IsLeast (additions s (month - 1) (band - 1)) (reaches_for b s month band) answer
  unfolding addition_answered
  least = rw accepted (answers-least s (user_at b (sheet_user s)).details (month - 1) (band - 1))

  found : r.found ≡ 1 → AdditionFits s month band r.added × ((reaches_for b s month band r.added ≡ true) × ((y : ℕ) → y < r.added → reaches_for b s month band y ≡ false))
  found e =
      let h = is_found (additions s (month - 1) (band - 1)) (reaches_for b s month band) answer least (sym found-is ∙ e) in
      rw added_is (omega (arith, h.0), h.1)

  none : r.found ≡ 0 → (y : ℕ) → AdditionFits s month band y → reaches_for b s month band y ≡ false
  none e y within = is_none (additions s (month - 1) (band - 1)) (reaches_for b s month band) answer least (sym found-is ∙ e) y (omega (arith, within))

pub least-answered : LeastAnswered
least-answered =
    record {
      found =
          λ κs a r s p zero. found a.0.now a.1.0.now a.1.1.0 a.1.1.1.0 (position_of r.month r.place) r (more-sun-says κs a r s p).1.1 zero;
      none =
          λ κs a r s p zero. none a.0.now a.1.0.now a.1.1.0 a.1.1.1.0 (position_of r.month r.place) r (more-sun-says κs a r s p).1.1 zero;
    }
