-- The year month by month: what stands after the months worked, and what is answered at its end or at the first month above the limit.
use Rattle.std.proofs.Common.{ℕ, zero, suc, ◌+◌, ◌<◌, ◌≡◌, false, List, [], ◌∷◌, length, get_or, replicate, ap, ◌∙◌, sym, refl, arith}
use Rattle.std.proofs.lemmas.List.{get_or-set_same, get_or-set_other}
use borrow.Author.Count.{below_more}
use lib.ListN.{set, length-set}
use native.Mathlib.Nat.{not-suc-le-zero}
use Rattle.units.specs.declared.Kwh.{Kwh}
use Rattle.units.specs.Units.{kwh}
use Rattle.units.specs.Folds.{first_below}
use Rattle.units.proofs.Folds.{any_of, none_of, first-is}
use Rattle.refusals.specs.declared.Refusal.{Refusal}
use Rattle.refusals.specs.declared.Refusal.TheVariants.{AboveLimit}
use Rattle.sheet_losses.specs.Losses.{rest_to, raised_reading, reading_above, month_above, some_above, place_in, earliest_above}
use Rattle.sheet_losses.specs.Losses.{decembers_rest}
use Rattle.sheet_losses.specs.InnerSteps.{in_band, readings_in, RestsTo, MonthRaised, MonthAbove, YearRaised, YearAbove}

-- three rests in a list
three-rests : (xs : List ℕ) {a b c : ℕ} → length xs ≡ 3 → get_or xs 0 0 ≡ a → get_or xs 1 0 ≡ b → get_or xs 2 0 ≡ c → xs ≡ a ∷ b ∷ c ∷ []
three-rests (x ∷ y ∷ z ∷ []) n p q r = rw (sym p, sym q, sym r)
three-rests [] n p q r = let none : ⊥ = omega (arith, n) in absurd none
three-rests (x ∷ []) n p q r = let none : ⊥ = omega (arith, n) in absurd none
three-rests (x ∷ y ∷ []) n p q r = let none : ⊥ = omega (arith, n) in absurd none
three-rests (x ∷ y ∷ z ∷ w ∷ xs) n p q r = let none : ⊥ = omega (arith, n) in absurd none

module _ (factor : ℕ) (s : List ℕ) where
  pub record Working (month : ℕ) (months : List (List Kwh)) (rests : List ℕ) : Type 0 where
    pub twelve : length months ≡ 12
    pub three : length rests ≡ 3
    pub passed : RestsTo factor s month rests
    pub raised : (m : ℕ) → m < month → (band : ℕ) → band < 3 → readings_in months m band ≡ raised_reading factor s m band
    pub within : (m : ℕ) → m < month → month_above factor s m ≡ false

  pub begins : Working 0 (replicate 12 (replicate 3 (kwh 0))) (replicate 3 0)
  unfolding rest_to
  begins =
      record {
        twelve = refl;
        three = refl;
        passed = λ band l. three-zeros band;
        raised = λ m l. absurd (not-suc-le-zero l);
        within = λ m l. absurd (not-suc-le-zero l);
      }
    where
      no_rests : List ℕ
      no_rests = replicate 3 0

      three-zeros : (band : ℕ) → get_or no_rests band 0 ≡ 0
      three-zeros zero = refl
      three-zeros (suc zero) = refl
      three-zeros (suc (suc zero)) = refl
      three-zeros (suc (suc (suc band))) = refl

  -- a month more
  pub next :
      {month : ℕ} {months : List (List Kwh)} {rests : List ℕ} → Working month months rests → month < 12 →
      (readings : List Kwh) (passing : List ℕ) → MonthRaised factor s month readings passing →
      Working (month + 1) (set months month readings) passing
  next {month} {months} {rests} w l readings passing r =
      record {
        twelve = length-set months month readings ∙ w.twelve;
        three = r.three;
        passed = r.passed;
        raised = below_more (λ (m : ℕ). (band : ℕ) → band < 3 → readings_in (set months month readings) m band ≡ raised_reading factor s m band) month
            (λ m h band b. ap (λ (x : List Kwh). in_band x band) (get_or-set_other months month m readings [] (λ z. omega (arith, h, z))) ∙ w.raised m h band b)
            (λ band b. ap (λ (x : List Kwh). in_band x band) (get_or-set_same months month readings [] (omega (arith, l, w.twelve))) ∙ r.raised band b);
        within = below_more (λ (m : ℕ). month_above factor s m ≡ false) month w.within r.within;
      }

  pub ends : {months : List (List Kwh)} {rests : List ℕ} → Working 12 months rests → YearRaised factor s months rests
  unfolding some_above decembers_rest
  ends {months} {rests} w =
      record {
        within = none_of 12 (month_above factor s) w.within;
        raised = w.raised;
        passed = three-rests rests w.three (w.passed 0 (omega arith)) (w.passed 1 (omega arith)) (w.passed 2 (omega arith));
      }

  -- a month above the limit is the first one
  pub stops :
      {month : ℕ} {months : List (List Kwh)} {rests : List ℕ} {refusal : Refusal} → Working month months rests → month < 12 →
      MonthAbove factor s month refusal → YearAbove factor s refusal
  unfolding some_above earliest_above
  stops {month} w l a =
      record {
        above = any_of 12 (month_above factor s) month l a.above;
        at = a.at ∙ ap (λ (m : ℕ). AboveLimit (place_in m (first_below 3 (reading_above factor s m))))
            (first-is 12 (month_above factor s) month l a.above w.within);
      }
