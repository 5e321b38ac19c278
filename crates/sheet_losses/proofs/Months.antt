-- A month of the three bands, from the rests that pass to it.
use Rattle.std.proofs.Common.{ℕ, zero, suc, ◌+◌, ◌/◌, ◌%◌, ◌≤◌, ◌<◌, ◌≡◌, true, false, List, length, get_or, ap, ap₂, ◌∙◌, sym, add-one, arith}
use Rattle.std.proofs.lemmas.List.{get_or-set_same, get_or-set_other}
use borrow.Author.Tests.{le-ltb, lt-ltb}
use lib.Dec.{ltb}
use lib.ListN.{set, length-set}
use Rattle.units.specs.declared.Kwh.{Kwh}
use Rattle.units.specs.Limits.{max_kwh}
use Rattle.units.specs.Units.{kwh}
use Rattle.units.proofs.Folds.{any_of, none_of, first-is}
use Rattle.refusals.specs.declared.Refusal.{Refusal}
use Rattle.refusals.specs.declared.Refusal.TheVariants.{AboveLimit}
use Rattle.sheet.specs.YearSheet.{injected}
use Rattle.sheet_losses.specs.Losses.{thousandths, rest_to, raised, band_of, raised_reading, reading_above, month_above, place_in}
use Rattle.sheet_losses.specs.InnerSteps.{in_band, MonthRaised, MonthAbove}

pub rest_below : (factor : ℕ) (raw : ℕ → ℕ) (month : ℕ) → rest_to factor raw month < 1000
unfolding rest_to
rest_below factor raw zero = omega arith
rest_below factor raw (suc month) = omega arith

module _ (factor : ℕ) (s : List ℕ) (month : ℕ) where
  -- after the bands below this one: their raised readings, their rests, and those to come as they passed to the month
  pub record Bands (band : ℕ) (readings : List Kwh) (rests : List ℕ) : Type 0 where
    pub three : length readings ≡ 3
    pub three_rests : length rests ≡ 3
    pub raised : (b : ℕ) → b < band → in_band readings b ≡ raised_reading factor s month b
    pub passed : (b : ℕ) → b < band → get_or rests b 0 ≡ rest_to factor (band_of s b) (month + 1)
    pub coming : (b : ℕ) → band ≤ b → b < 3 → get_or rests b 0 ≡ rest_to factor (band_of s b) month
    pub within : (b : ℕ) → b < band → reading_above factor s month b ≡ false

  module _ {band reading rest : ℕ} (l : band < 3) (e : reading ≡ injected s month band) (r : rest ≡ rest_to factor (band_of s band) month) where
    same : thousandths factor reading rest ≡ thousandths factor (injected s month band) (rest_to factor (band_of s band) month)
    same = ap₂ (thousandths factor) e r

    pub band-raised : {k : ℕ} → k ≡ thousandths factor reading rest / 1000 → k ≡ raised_reading factor s month band
    unfolding raised_reading raised
    band-raised w = w ∙ ap (λ (n : ℕ). n / 1000) same

    pub band-passed : {p : ℕ} → p ≡ thousandths factor reading rest % 1000 → p ≡ rest_to factor (band_of s band) (month + 1)
    unfolding rest_to
    band-passed w = rw (add-one month) (w ∙ ap (λ (n : ℕ). n % 1000) same)

  -- a band more
  pub bands-next :
      {band : ℕ} {readings : List Kwh} {rests : List ℕ} → Bands band readings rests → band < 3 → (k p : ℕ) →
      k ≡ raised_reading factor s month band → p ≡ rest_to factor (band_of s band) (month + 1) → k ≤ max_kwh →
      Bands (band + 1) (set readings band (kwh k)) (set rests band p)
  unfolding reading_above
  bands-next {band} {readings} {rests} w l k p ke pe most =
      record {
        three = length-set readings band (kwh k) ∙ w.three;
        three_rests = length-set rests band p ∙ w.three_rests;
        raised = λ b h. below b h (λ (b : ℕ). in_band (set readings band (kwh k)) b ≡ raised_reading factor s month b)
            (ap (λ (x : Kwh). x.0) (get_or-set_same readings band (kwh k) (kwh 0) (omega (arith, l, w.three))) ∙ ke)
            (λ c g. ap (λ (x : Kwh). x.0) (get_or-set_other readings band c (kwh k) (kwh 0) (λ z. omega (arith, g, z))) ∙ w.raised c g);
        passed = λ b h. below b h (λ (b : ℕ). get_or (set rests band p) b 0 ≡ rest_to factor (band_of s b) (month + 1))
            (get_or-set_same rests band p 0 (omega (arith, l, w.three_rests)) ∙ pe)
            (λ c g. get_or-set_other rests band c p 0 (λ z. omega (arith, g, z)) ∙ w.passed c g);
        coming = λ b h g. get_or-set_other rests band b p 0 (λ z. omega (arith, h, z)) ∙ w.coming b (omega (arith, h)) g;
        within = λ b h. below b h (λ (b : ℕ). reading_above factor s month b ≡ false)
            (ap (ltb max_kwh) (sym ke) ∙ le-ltb max_kwh k most) w.within;
      }
    where
      below : (b : ℕ) → b < band + 1 → (P : ℕ → Type 0) → P band → ((c : ℕ) → c < band → P c) → P b
      below b h P here before = borrow.Author.Count.below_more P band before here b h

  -- all of them, or the first above the limit
  pub all-bands : {readings : List Kwh} {rests : List ℕ} → Bands 3 readings rests → MonthRaised factor s month readings rests
  unfolding month_above
  all-bands w = record { within = none_of 3 (reading_above factor s month) w.within; raised = w.raised; three = w.three_rests; passed = w.passed }

  pub first-above :
      {band : ℕ} {readings : List Kwh} {rests : List ℕ} {refusal : Refusal} → Bands band readings rests → band < 3 →
      (k : ℕ) → k ≡ raised_reading factor s month band → max_kwh < k → refusal ≡ AboveLimit (place_in month band) →
      MonthAbove factor s month refusal
  unfolding month_above reading_above
  first-above {band} w l k ke more e =
      let here : reading_above factor s month band ≡ true = ap (ltb max_kwh) (sym ke) ∙ lt-ltb max_kwh k more in
      record {
        above = any_of 3 (reading_above factor s month) band l here;
        at = e ∙ ap (λ (b : ℕ). AboveLimit (place_in month b)) (first-is 3 (reading_above factor s month) band l here w.within);
      }
