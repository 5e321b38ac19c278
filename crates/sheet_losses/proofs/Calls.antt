-- The call: what it answers and leaves, refused and accepted.
use Rattle.std.proofs.Common.{ℕ, zero, suc, ◌<◌, ◌≤◌, ◌≡◌, Bool, true, false, cond, not, List, ◌++◌, length, refl, ap, ap₂, ◌∙◌, arith, Ok, Err}
use borrow.Author.Tests.{ne_eqb, le-ltb, lt-ltb}
use lib.Dec.{ltb}
use Rattle.codec.specs.Bytes.{bytes_of, stored}
use Rattle.refusals.specs.Refusals.{refusal_in}
use Rattle.refusals.specs.declared.Position.{Position}
use Rattle.refusals.specs.declared.Refusal.{Refusal}
use Rattle.refusals.specs.declared.Refusal.TheVariants.{SheetForm, FactorAboveLimit, AboveLimit}
use Rattle.sheet.specs.YearSheet.{sheet_length, form_fits}
use Rattle.sheet.proofs.Limits.{form-length}
use Rattle.units.specs.declared.Kwh.{Kwh}
use Rattle.sheet_losses.specs.Losses.{max_factor, raised_reading, injected_place, three_readings, with_injected, raised_sheet, some_above, earliest_above}
use Rattle.sheet_losses.specs.Losses.{raise_refusal, decembers_rests, answer_of, raised_after}
use Rattle.sheet_losses.specs.InnerSteps.{readings_in, YearRaised, YearAbove}

-- readings that are the same in each band make the same sheet
three-cong : (f g : ℕ → ℕ) → f 0 ≡ g 0 → f 1 ≡ g 1 → f 2 ≡ g 2 → three_readings f ≡ three_readings g
unfolding three_readings
three-cong f g p q r = ap₂ ◌++◌ (ap (bytes_of 4) p) (ap₂ ◌++◌ (ap (bytes_of 4) q) (ap (bytes_of 4) r))

same-months : (f g : ℕ → ℕ → ℕ) (s : List ℕ) (n : ℕ) → ((m : ℕ) → m < n → three_readings (f m) ≡ three_readings (g m)) → with_injected f s n ≡ with_injected g s n
unfolding with_injected
same-months f g s zero h = refl
same-months f g s (suc n) h = ap₂ (λ (bs t : List ℕ). stored (injected_place n) bs t) (h n (omega arith)) (same-months f g s n (λ m l. h m (omega arith)))

-- AN ACCEPTED CALL has passed each test
abbrev first_of : (fits larger above : Bool) → ℕ
first_of fits larger above = cond (not fits) 11 (cond larger 26 (cond above 13 0))

passed-all : (fits larger above : Bool) → first_of fits larger above ≡ 0 → (fits ≡ true) × (above ≡ false)
passed-all true true above z = let none : ⊥ = omega arith in absurd none
passed-all true false true z = let none : ⊥ = omega arith in absurd none
passed-all true false false z = (refl, refl)
passed-all false larger above z = let none : ⊥ = omega arith in absurd none

last-of : {X : Type 0} (form larger_factor above_limit done : X) (fits larger above : Bool) → first_of fits larger above ≡ 0
    → cond (not fits) form (cond larger larger_factor (cond above above_limit done)) ≡ done
last-of form larger_factor above_limit done true true above z = let none : ⊥ = omega arith in absurd none
last-of form larger_factor above_limit done true false true z = let none : ⊥ = omega arith in absurd none
last-of form larger_factor above_limit done true false false z = refl
last-of form larger_factor above_limit done false larger above z = let none : ⊥ = omega arith in absurd none

-- the number of an answer
number-of : {X : Type 0} (at : Position) (x : X) (fits larger above : Bool)
    → refusal_in (cond (not fits) (Err SheetForm) (cond larger (Err FactorAboveLimit) (cond above (Err (AboveLimit at)) (Ok x)))) ≡ first_of fits larger above
number-of at x true true above = refl
number-of at x true false true = refl
number-of at x true false false = refl
number-of at x false larger above = refl

pub answered-number : (factor : ℕ) (s : List ℕ) → refusal_in (answer_of factor s) ≡ raise_refusal factor s
unfolding answer_of raise_refusal
answered-number factor s = number-of (earliest_above factor s) (decembers_rests factor s) (form_fits s) (ltb max_factor factor) (some_above factor s)

module _ (factor : ℕ) (s : List ℕ) (accepted : raise_refusal factor s ≡ 0) where
  passed : (form_fits s ≡ true) × (some_above factor s ≡ false)
  unfolding raise_refusal
  passed = passed-all (form_fits s) (ltb max_factor factor) (some_above factor s) accepted

  pub accepted-length : length s ≡ sheet_length
  accepted-length = form-length s passed.0

  pub accepted-within : some_above factor s ≡ false
  accepted-within = passed.1

  pub accepted-answer : answer_of factor s ≡ Ok (decembers_rests factor s)
  unfolding answer_of raise_refusal
  accepted-answer = last-of _ _ _ _ (form_fits s) (ltb max_factor factor) (some_above factor s) accepted

-- a refused call leaves the sheet
pub refused-leaves : (factor : ℕ) (s : List ℕ) → (raise_refusal factor s ≡ 0 → ⊥) → raised_after factor s ≡ s
unfolding raised_after
refused-leaves factor s other = rw (ne_eqb (raise_refusal factor s) 0 other)

-- WHAT THE CALL ANSWERS AND LEAVES: one after the other in their order
module _ (factor : ℕ) (s : List ℕ) where
  pub refused-form : form_fits s ≡ false → (Err SheetForm ≡ answer_of factor s) × (s ≡ raised_after factor s)
  unfolding answer_of raised_after raise_refusal
  refused-form e = (rw e, rw e)

  module _ (fits : form_fits s ≡ true) where
    pub refused-factor : max_factor < factor → (Err FactorAboveLimit ≡ answer_of factor s) × (s ≡ raised_after factor s)
    unfolding answer_of raised_after raise_refusal
    refused-factor l = (rw (fits, lt-ltb max_factor factor l), rw (fits, lt-ltb max_factor factor l))

    module _ (within : factor ≤ max_factor) where
      pub refused-above : {refusal : Refusal} → YearAbove factor s refusal → (Err refusal ≡ answer_of factor s) × (s ≡ raised_after factor s)
      unfolding answer_of raised_after raise_refusal
      refused-above y = (rw (fits, le-ltb max_factor factor within, y.above, y.at), rw (fits, le-ltb max_factor factor within, y.above))

      pub accepted : {months : List (List Kwh)} {rests t : List ℕ} → YearRaised factor s months rests → t ≡ with_injected (readings_in months) s 12
          → (Ok rests ≡ answer_of factor s) × (t ≡ raised_after factor s)
      unfolding answer_of raised_after raise_refusal raised_sheet
      accepted {months} y e = (
        rw (fits, le-ltb max_factor factor within, y.within, y.passed),
        rw (fits, le-ltb max_factor factor within, y.within) (e ∙ same-months (readings_in months) (raised_reading factor s) s 12
            (λ m l. three-cong (readings_in months m) (raised_reading factor s m) (y.raised m l 0 (omega arith)) (y.raised m l 1 (omega arith)) (y.raised m l 2 (omega arith)))),
      )
