-- The rows of a sheet that has passed its checks: within their limits, and of the value that the definitions give them.
use Prim.Native.Nat.{ℕ, ◌+◌, ◌*◌, ◌≤◌, ◌<◌}
use mathlib.Core.Path.{◌≡◌, refl}
use mathlib.Core.Bool.{Bool, true, false, cond}
use mathlib.Core.List.{List, []}
use native.Mathlib.Omega.{arith}
use lib.Dec.{lit<, lit≤}
use lib.ListN.{get_or}
use Rattle.units.specs.declared.Kwh.{Kwh}
use Rattle.units.specs.declared.Rate.{Rate}
use Rattle.units.specs.Limits.{max_price}
use Rattle.units.specs.Folds.{sum_below}
use Rattle.units.proofs.Folds.{sum-cong}
use Rattle.sheet.specs.YearSheet.{word, SheetPassed, withdrawn_reading, injected_reading, by_bands}
use Rattle.sheet.proofs.Limits.{passed-energy, passed-price}
use Rattle.sheet_prices.specs.declared.Reading.{Reading}
use Rattle.sheet_prices.specs.declared.Reading.TheVariants.{Withdrawn, Injected}
use Rattle.sheet_prices.specs.declared.Series.{Series}
use Rattle.sheet_prices.specs.declared.Series.TheVariants.{PunBands, PunMean, ZoneBands, ZoneMean, ZoneDayMean}
use Rattle.sheet_prices.specs.InnerArrays.{first_place, energy_row, price_row, series_of, prices_in, RowFits, row_value, EnergyRows, PriceRows, EnergiesFit, PricesFit, price_at}
use Rattle.sheet_prices.specs.ValueAndCost.{band_price, single_price, cost_in, cost_of, value_in, value_of}

pub band-price-fits : (s : List ℕ) → SheetPassed s → (island : Bool) (m b : ℕ) → m < 12 → b < 3 → band_price s island m b ≤ max_price
unfolding band_price
band-price-fits s h true m b hm hb = passed-price s h.past13 m (6 + b) hm (omega arith) (omega arith)
band-price-fits s h false m b hm hb = passed-price s h.past13 m (10 + b) hm (omega arith) (omega arith)

pub single-price-fits : (s : List ℕ) → SheetPassed s → (island photovoltaic : Bool) (m : ℕ) → m < 12 → single_price s island photovoltaic m ≤ max_price
unfolding single_price
single-price-fits s h true p m hm = passed-price s h.past13 m 9 hm (lit≤ tt) (lit< tt)
single-price-fits s h false true m hm = passed-price s h.past13 m 14 hm (lit≤ tt) (lit< tt)
single-price-fits s h false false m hm = passed-price s h.past13 m 13 hm (lit≤ tt) (lit< tt)

-- the prices of a series as those of a reading
pub price-row-is : (s : List ℕ) (bands island photovoltaic : Bool) (m : ℕ) → prices_in s (series_of bands island photovoltaic) m ≡ price_row s bands island photovoltaic m
unfolding band_price single_price
price-row-is s true true p m = refl
price-row-is s true false p m = refl
price-row-is s false true p m = refl
price-row-is s false false true m = refl
price-row-is s false false false m = refl

-- a single price at F1 makes the value of the single reading
single-value : (e₀ e₁ e₂ p : ℕ) → 0 + e₀ * p + e₁ * 0 + e₂ * 0 ≡ e₀ * p
single-value e₀ e₁ e₂ p = omega arith

cost-row-by : (s : List ℕ) (m : ℕ) (bands : Bool)
    → row_value (energy_row s 0 m) (price_row s bands true false m)
    ≡ cond bands (sum_below 3 (λ b. word s m b * word s m (6 + b))) (word s m 0 * word s m 9)
unfolding row_value sum_below band_price single_price
cost-row-by s m true = refl
cost-row-by s m false = single-value (word s m 0) (word s m 1) (word s m 2) (word s m 9)

value-row-by : (s : List ℕ) (m : ℕ) (bands island photovoltaic : Bool)
    → row_value (energy_row s 3 m) (price_row s bands island photovoltaic m)
    ≡ cond bands (sum_below 3 (λ b. word s m (3 + b) * band_price s island m b)) (word s m 3 * single_price s island photovoltaic m)
unfolding row_value sum_below
value-row-by s m true island p = refl
value-row-by s m false island p = single-value (word s m 3) (word s m 4) (word s m 5) (single_price s island p m)

-- twelve rows of a sheet add up to O and to C
pub rows-cost : (s : List ℕ) (e : List (List Kwh)) (p : List (List Rate)) → EnergyRows (energy_row s 0) e
    → PriceRows (prices_in s (series_of (by_bands (withdrawn_reading s)) true false)) p
    → sum_below 12 (λ m. row_value (get_or e m []) (get_or p m [])) ≡ cost_of s
unfolding cost_of cost_in
rows-cost s e p he hp =
    sum-cong 12 (λ m. row_value (get_or e m []) (get_or p m [])) (cost_in s)
    (λ m l. rw (he m l, hp m l, price-row-is s (by_bands (withdrawn_reading s)) true false m) (cost-row-by s m (by_bands (withdrawn_reading s))))

pub rows-value : (s : List ℕ) (island photovoltaic : Bool) (e : List (List Kwh)) (p : List (List Rate)) → EnergyRows (energy_row s 3) e
    → PriceRows (prices_in s (series_of (by_bands (injected_reading s)) island photovoltaic)) p
    → sum_below 12 (λ m. row_value (get_or e m []) (get_or p m [])) ≡ value_of s island photovoltaic
unfolding value_of value_in
rows-value s island photovoltaic e p he hp =
    sum-cong 12 (λ m. row_value (get_or e m []) (get_or p m [])) (value_in s island photovoltaic)
    (λ m l. rw (he m l, hp m l, price-row-is s (by_bands (injected_reading s)) island photovoltaic m) (value-row-by s m (by_bands (injected_reading s)) island photovoltaic))

pub energies_fit : (s : List ℕ) → SheetPassed s → (reading : Reading) (e : List (List Kwh)) → EnergyRows (energy_row s (first_place reading)) e → EnergiesFit e
energies_fit s h Withdrawn e he m hm =
    rw (he m hm) (passed-energy s h.past13 m 0 hm (omega arith), (passed-energy s h.past13 m 1 hm (omega arith), passed-energy s h.past13 m 2 hm (omega arith)))
energies_fit s h Injected e he m hm =
    rw (he m hm) (passed-energy s h.past13 m 3 hm (omega arith), (passed-energy s h.past13 m 4 hm (omega arith), passed-energy s h.past13 m 5 hm (omega arith)))

prices-row-fit : (s : List ℕ) → SheetPassed s → (series : Series) (m : ℕ) → m < 12
    → (price_at 0 (prices_in s series m) ≤ max_price) × ((price_at 1 (prices_in s series m) ≤ max_price) × (price_at 2 (prices_in s series m) ≤ max_price))
prices-row-fit s h PunBands m hm =
    (passed-price s h.past13 m 6 hm (lit≤ tt) (lit< tt), (passed-price s h.past13 m 7 hm (lit≤ tt) (lit< tt), passed-price s h.past13 m 8 hm (lit≤ tt) (lit< tt)))
prices-row-fit s h PunMean m hm = (passed-price s h.past13 m 9 hm (lit≤ tt) (lit< tt), (lit≤ tt, lit≤ tt))
prices-row-fit s h ZoneBands m hm =
    (passed-price s h.past13 m 10 hm (lit≤ tt) (lit< tt), (passed-price s h.past13 m 11 hm (lit≤ tt) (lit< tt), passed-price s h.past13 m 12 hm (lit≤ tt) (lit< tt)))
prices-row-fit s h ZoneMean m hm = (passed-price s h.past13 m 13 hm (lit≤ tt) (lit< tt), (lit≤ tt, lit≤ tt))
prices-row-fit s h ZoneDayMean m hm = (passed-price s h.past13 m 14 hm (lit≤ tt) (lit< tt), (lit≤ tt, lit≤ tt))

pub prices_fit : (s : List ℕ) → SheetPassed s → (series : Series) (p : List (List Rate)) → PriceRows (prices_in s series) p → PricesFit p
prices_fit s h series p hp m hm = rw (hp m hm) (prices-row-fit s h series m hm)

pub rows_within : (e : List (List Kwh)) (p : List (List Rate)) → EnergiesFit e → PricesFit p → (m : ℕ) → m < 12 → RowFits (get_or e m []) (get_or p m [])
rows_within e p he hp m hm =
    let energy = he m hm in
    let price = hp m hm in
    record { energy₀ = energy.0; energy₁ = energy.1.0; energy₂ = energy.1.1; price₀ = price.0; price₁ = price.1.0; price₂ = price.1.1 }
