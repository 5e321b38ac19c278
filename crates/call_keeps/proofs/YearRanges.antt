-- The values of a sheet that has passed 11 and 13 are within the ranges of the book: each month's numbers are within their
-- limits, and a year has twelve months.
use Prim.Native.Nat.{ℕ, ◌+◌, ◌*◌, ◌≤◌, ◌<◌}
use mathlib.Core.Path.{◌≡◌}
use mathlib.Core.Bool.{Bool, true, false, cond}
use mathlib.Core.List.{List, [], ◌∷◌}
use native.Mathlib.Nat.{mul-le-mul}
use native.Mathlib.Omega.{arith}
use lib.Dec.{lit<, lit≤}
use lib.ListN.{get_or}
use Rattle.units.proofs.Bools.{cond-capped}
use Rattle.units.specs.Limits.{max_kwh, max_price, max_tier_rate, max_year_ticks, max_flat_rate, max_half_kwh}
use Rattle.units.specs.Folds.{sum_below}
use Rattle.units.proofs.Folds.{sum-capped}
use Rattle.units.proofs.Products.{product-capped}
use Rattle.tariff.specs.Tariff.{domestic, tiers, annual_tiers, monthly_tiers, monthly_method, tier_sum, flat_rate_of}
use Rattle.tariff.proofs.Tiers.{tiers-sum, first_tier_sum}
use Rattle.sheet.specs.YearSheet.{SheetPassed, withdrawn_reading, injected_reading, by_bands, word, month_withdrawn}
use Rattle.sheet.proofs.Limits.{passed-energy, passed-price}
use Rattle.sheet_prices.specs.ValueAndCost.{band_price, single_price, cost_in, cost_of, value_in, value_of}
use Rattle.sheet_prices.proofs.SheetRows.{band-price-fits, single-price-fits}
use Rattle.sheet_values.specs.declared.Details.{Details}
use Rattle.sheet_values.specs.YearsValues.{month_exchanged, month_rate, annual_rate, month_flat_rate, annual_flat_rate, flat_rate_over, withdrawn_over, exchanged_over, some_month_above, half_of}
use Rattle.sheet_values.specs.YearsValues.{year_values}
use Rattle.sheet_values.specs.YearsValues.{on_island, is_photovoltaic, ValuesFit}
use Rattle.sheet_values.proofs.SheetRates.{month-rate-capped, annual-rate-capped}
use Rattle.sheet_values.proofs.Bounds.{sheets-bounded}
use Rattle.sheet_values.proofs.SheetEnergies.{exchanged-within, exchanged-capped}

-- O and C: at most three bands a month, each at most the greatest energy at the greatest price
abbrev max_band_ticks : ℕ
max_band_ticks = max_kwh * max_price

abbrev max_month_ticks : ℕ
max_month_ticks = max_band_ticks * 3

amount-fits : {e p : ℕ} → e ≤ max_kwh → p ≤ max_price → e * p ≤ max_band_ticks
amount-fits he hp = mul-le-mul he hp

-- a month by bands, or by a single reading
month-capped : (bands : Bool) (f : ℕ → ℕ) (single : ℕ) → ((b : ℕ) → b < 3 → f b ≤ max_band_ticks) → single ≤ max_band_ticks
    → cond bands (sum_below 3 f) single ≤ max_month_ticks
month-capped bands f single h k = cond-capped bands (sum-capped 3 max_band_ticks f h) (omega (arith, k))

cost-month : (s : List ℕ) → SheetPassed s → (m : ℕ) → m < 12 → cost_in s m ≤ max_month_ticks
unfolding cost_in
cost-month s h m l =
    month-capped (by_bands (withdrawn_reading s)) (λ b. word s m b * word s m (6 + b)) (word s m 0 * word s m 9)
    (λ b k. amount-fits (passed-energy s h.past13 m b l (omega arith)) (passed-price s h.past13 m (6 + b) l (omega arith) (omega arith)))
    (amount-fits (passed-energy s h.past13 m 0 l (lit< tt)) (passed-price s h.past13 m 9 l (lit≤ tt) (lit< tt)))

value-month : (s : List ℕ) → SheetPassed s → (island photovoltaic : Bool) (m : ℕ) → m < 12 → value_in s island photovoltaic m ≤ max_month_ticks
unfolding value_in
value-month s h island photovoltaic m l =
    month-capped (by_bands (injected_reading s)) (λ b. word s m (3 + b) * band_price s island m b) (word s m 3 * single_price s island photovoltaic m)
    (λ b k. amount-fits (passed-energy s h.past13 m (3 + b) l (omega arith)) (band-price-fits s h island m b l k))
    (amount-fits (passed-energy s h.past13 m 3 l (lit< tt)) (single-price-fits s h island photovoltaic m l))

cost-capped : (s : List ℕ) → SheetPassed s → cost_of s ≤ max_year_ticks
unfolding cost_of
cost-capped s h = sum-capped 12 max_month_ticks (cost_in s) (cost-month s h)

value-capped : (s : List ℕ) → SheetPassed s → (island photovoltaic : Bool) → value_of s island photovoltaic ≤ max_year_ticks
unfolding value_of
value-capped s h island photovoltaic =
    sum-capped 12 max_month_ticks (value_in s island photovoltaic) (value-month s h island photovoltaic)

-- F: the tiers' energies sum to the exchanged energy, each at most at the greatest tier rate
tiers-capped : (parts : List ℕ) (f : ℕ → ℕ) → ((t : ℕ) → t < 4 → f t ≤ max_tier_rate) → flat_rate_of parts f ≤ max_tier_rate * tier_sum parts
unfolding flat_rate_of tier_sum sum_below
tiers-capped parts f h =
    let first = product-capped max_tier_rate (get_or parts 0 0) (f 0) (h 0 (lit< tt)) in
    let second = product-capped max_tier_rate (get_or parts 1 0) (f 1) (h 1 (lit< tt)) in
    let third = product-capped max_tier_rate (get_or parts 2 0) (f 2) (h 2 (lit< tt)) in
    let fourth = product-capped max_tier_rate (get_or parts 3 0) (f 3) (h 3 (lit< tt)) in
    omega arith

annual-sum : (class w e : ℕ) → e ≤ w → tier_sum (annual_tiers class w e) ≡ e
unfolding annual_tiers
annual-sum class w e h = by-class (domestic class)
  where
    by-class : (b : Bool) → tier_sum (cond b (tiers 1800 2640 4440 w e) (e ∷ 0 ∷ 0 ∷ 0 ∷ [])) ≡ e
    by-class true = tiers-sum (lit≤ tt) (lit≤ tt) h
    by-class false = first_tier_sum e

monthly-sum : (w e : ℕ) → e ≤ w → tier_sum (monthly_tiers w e) ≡ e
unfolding monthly_tiers
monthly-sum w e h = tiers-sum (lit≤ tt) (lit≤ tt) h

exchanged-year-within : (s : List ℕ) → exchanged_over s 0 12 ≤ withdrawn_over s 0 12
unfolding exchanged_over
exchanged-year-within s = omega arith

annual-flat-capped : (s : List ℕ) → SheetPassed s → (class plant power : ℕ) → annual_flat_rate s 0 12 class plant power ≤ max_flat_rate
unfolding annual_flat_rate annual_rate
annual-flat-capped s h class plant power =
    let parts = annual_tiers class (withdrawn_over s 0 12) (exchanged_over s 0 12) in
    let sum = annual-sum class (withdrawn_over s 0 12) (exchanged_over s 0 12) (exchanged-year-within s) in
    let rates = tiers-capped parts (annual_rate s plant power 0 12) (λ t l. annual-rate-capped s h plant power 0 12 t (lit< tt) (lit≤ tt) l) in
    omega (arith, sum, rates, exchanged-year-within s, (sheets-bounded s h.past13).year-withdrawn)

month-flat-capped : (s : List ℕ) → SheetPassed s → (plant power m : ℕ) → m < 12 → month_flat_rate s plant power m ≤ max_tier_rate * (3 * max_kwh)
unfolding month_flat_rate month_rate
month-flat-capped s h plant power m l =
    let parts = monthly_tiers (month_withdrawn s m) (month_exchanged s m) in
    let sum = monthly-sum (month_withdrawn s m) (month_exchanged s m) (exchanged-within s m) in
    let rates = tiers-capped parts (month_rate s plant power m) (λ t k. month-rate-capped s h plant power m t l k) in
    omega (arith, sum, rates, exchanged-capped s h m l)

flat-rate-capped : (s : List ℕ) → SheetPassed s → (class plant power : ℕ) → flat_rate_over s 0 12 class plant power ≤ max_flat_rate
unfolding flat_rate_over
flat-rate-capped s h class plant power =
    cond-capped (monthly_method class (some_month_above s 0 12))
    (sum-capped 12 (max_tier_rate * (3 * max_kwh)) (λ i. month_flat_rate s plant power (0 + i))
    (λ i l. month-flat-capped s h plant power (0 + i) (omega arith)))
    (annual-flat-capped s h class plant power)

-- the halves: six months each
half-capped : (s : List ℕ) → SheetPassed s → (half : ℕ) → half < 2 → half_of s half ≤ max_half_kwh
unfolding half_of
half-capped s h half l =
    sum-capped 6 (3 * max_kwh) (λ i. month_exchanged s (6 * half + i)) (λ i k. exchanged-capped s h (6 * half + i) (omega arith))

pub values-fit : (s : List ℕ) → SheetPassed s → (d : Details) → ValuesFit (year_values s d)
unfolding year_values
values-fit s h d =
    record {
      value = value-capped s h (on_island d) (is_photovoltaic d);
      cost = cost-capped s h;
      flat_rate = flat-rate-capped s h d.class d.plant d.power;
      half1 = half-capped s h 0 (lit< tt);
      half2 = half-capped s h 1 (lit< tt);
    }
