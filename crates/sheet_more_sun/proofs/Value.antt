-- C of the changed sheet: C, and the addition times the price of its field.
use Prim.Native.Nat.{ℕ, zero, suc, ◌+◌, ◌*◌, ◌≤◌, ◌<◌}
use mathlib.Core.Path.{◌≡◌, refl, sym, ap, ap₂, ◌∙◌}
use mathlib.Core.Bool.{Bool, true, false, cond}
use mathlib.Core.List.{List}
use native.Mathlib.Nat.{add-mul}
use native.Mathlib.Omega.{arith}
use lib.ListN.{length}
use Rattle.units.specs.Limits.{max_kwh}
use Rattle.units.specs.Folds.{sum_below}
use Rattle.units.proofs.Folds.{sum-cong, sum-changed}
use Rattle.sheet.specs.YearSheet.{sheet_length, word, injected_reading, by_bands, injected}
use Rattle.sheet_prices.specs.InnerArrays.{price_row, price_at}
use Rattle.sheet_prices.specs.ValueAndCost.{band_price, single_price, value_in, value_of}
use Rattle.sheet_more_sun.specs.MoreSun.{with_more}
use Rattle.sheet_more_sun.proofs.ChangedSheet.{kept-other, kept-injected-reading, raised}

-- the price of a band in its month's row
pub row-price : (s : List ℕ) (island photovoltaic : Bool) (m band : ℕ) → band < 3 → price_at band (price_row s true island photovoltaic m) ≡ band_price s island m band
row-price s island photovoltaic m zero l = refl
row-price s island photovoltaic m (suc zero) l = refl
row-price s island photovoltaic m (suc (suc zero)) l = refl
row-price s island photovoltaic m (suc (suc (suc band))) l = let z : ⊥ = omega arith in absurd z

-- what a month is worth, by the reading
abbrev worth_by : Bool → List ℕ → Bool → Bool → ℕ → ℕ
worth_by bands s island photovoltaic m =
    cond bands (sum_below 3 (λ b. injected s m b * band_price s island m b)) (injected s m 0 * single_price s island photovoltaic m)

module _ (s : List ℕ) (island photovoltaic : Bool) (m band added : ℕ) (long : length s ≡ sheet_length) (lm : m < 12) (lb : band < 3) where
  abbrev t : List ℕ
  t = with_more s m band added

  kept : (n place : ℕ) → (24 * n + place ≡ 24 * m + (3 + band) → ⊥) → word t n place ≡ word s n place
  kept = kept-other s m band added long lm lb

  kept-band-price : (n b : ℕ) → b < 3 → band_price t island n b ≡ band_price s island n b
  unfolding band_price
  kept-band-price n b l = rw (kept n (6 + b) (omega arith), kept n (10 + b) (omega arith))

  kept-single-price : (n : ℕ) → single_price t island photovoltaic n ≡ single_price s island photovoltaic n
  unfolding single_price
  kept-single-price n = rw (kept n 9 (omega arith), kept n 13 (omega arith), kept n 14 (omega arith))

  kept-month : (bands : Bool) (n : ℕ) → (n ≡ m → ⊥) → worth_by bands t island photovoltaic n ≡ worth_by bands s island photovoltaic n
  kept-month true n other =
      sum-cong 3 (λ b. injected t n b * band_price t island n b) (λ b. injected s n b * band_price s island n b)
      (λ b l. ap₂ ◌*◌ (kept n (3 + b) (omega (arith, other))) (kept-band-price n b l))
  kept-month false n other = ap₂ ◌*◌ (kept n 3 (omega (arith, other))) (kept-single-price n)

  module _ (fits : injected s m band + added ≤ max_kwh) where
    field : injected t m band ≡ injected s m band + added
    field = raised s m band added long lm lb fits

    raised-month : (bands : Bool) → (bands ≡ false → band ≡ 0)
        → worth_by bands t island photovoltaic m ≡ worth_by bands s island photovoltaic m + added * price_at band (price_row s bands island photovoltaic m)
    raised-month true single =
        let changed = sum-changed 3 band (λ b. injected t m b * band_price t island m b) (λ b. injected s m b * band_price s island m b) lb
        (λ b l other. ap₂ ◌*◌ (kept m (3 + b) (omega (arith, other))) (kept-band-price m b l)) in
        let here : injected t m band * band_price t island m band ≡ injected s m band * band_price s island m band + added * band_price s island m band =
        ap₂ ◌*◌ field (kept-band-price m band lb) ∙ add-mul (injected s m band) added (band_price s island m band) in
        let price = ap (λ (p : ℕ). added * p) (row-price s island photovoltaic m band lb) in
        omega arith
    raised-month false single =
        let first = single refl in
        let more : injected t m 0 ≡ injected s m 0 + added =
        ap (λ (b : ℕ). injected t m b) (sym first) ∙ field ∙ ap (λ (b : ℕ). injected s m b + added) first in
        let here : injected t m 0 * single_price t island photovoltaic m ≡ injected s m 0 * single_price s island photovoltaic m + added * single_price s island photovoltaic m =
        ap₂ ◌*◌ more (kept-single-price m) ∙ add-mul (injected s m 0) added (single_price s island photovoltaic m) in
        let price = ap (λ (b : ℕ). added * price_at b (price_row s false island photovoltaic m)) first in
        omega arith

    month-other : (n : ℕ) → (n ≡ m → ⊥) → value_in t island photovoltaic n ≡ value_in s island photovoltaic n
    unfolding value_in
    month-other n other = rw (kept-injected-reading s m band added long lm lb) (kept-month (by_bands (injected_reading s)) n other)

    module _ (single : by_bands (injected_reading s) ≡ false → band ≡ 0) where
      month-raised : value_in t island photovoltaic m ≡ value_in s island photovoltaic m + added * price_at band (price_row s (by_bands (injected_reading s)) island photovoltaic m)
      unfolding value_in
      month-raised = rw (kept-injected-reading s m band added long lm lb) (raised-month (by_bands (injected_reading s)) single)

      pub value-raised : value_of t island photovoltaic ≡ value_of s island photovoltaic + added * price_at band (price_row s (by_bands (injected_reading s)) island photovoltaic m)
      unfolding value_of
      value-raised =
          omega (arith, month-raised, sum-changed 12 m (value_in t island photovoltaic) (value_in s island photovoltaic) lm (λ n l other. month-other n other))
