-- "Year's values" of document 01: O, the purchase cost of the energy withdrawn, and C, the value of the energy injected.
use Rattle.std.specs.Prelude.{ℕ, ◌*◌, Bool, cond, List}
use Rattle.units.specs.Folds.{sum_below}
use Rattle.sheet.specs.YearSheet.{withdrawn_reading, injected_reading, by_bands, withdrawn, injected, pun, pun_mean, zone, zone_mean}
use Rattle.sheet.specs.YearSheet.{zone_day_mean}

-- "O: withdrawn times PUN, by band or by mean, summed over the months."
unfoldable pub cost_in : List ℕ → ℕ → ℕ
cost_in s m = cond (by_bands (withdrawn_reading s)) (sum_below 3 (λ b. withdrawn s m b * pun s m b)) (withdrawn s m 0 * pun_mean s m)

unfoldable pub cost_of : List ℕ → ℕ
cost_of s = sum_below 12 (cost_in s)

-- "C: injected times zone price by band. For a single reading, the 8–20 mean for plant 1, else the zone mean. On an
-- island the PUN series takes the place of the zone's; a single reading takes its mean (house)."
unfoldable pub band_price : List ℕ → Bool → ℕ → ℕ → ℕ
band_price s island m b = cond island (pun s m b) (zone s m b)

unfoldable pub single_price : List ℕ → Bool → Bool → ℕ → ℕ
single_price s island photovoltaic m = cond island (pun_mean s m) (cond photovoltaic (zone_day_mean s m) (zone_mean s m))

unfoldable pub value_in : List ℕ → Bool → Bool → ℕ → ℕ
value_in s island photovoltaic m =
    cond (by_bands (injected_reading s)) (sum_below 3 (λ b. injected s m b * band_price s island m b))
    (injected s m 0 * single_price s island photovoltaic m)

unfoldable pub value_of : List ℕ → Bool → Bool → ℕ
value_of s island photovoltaic = sum_below 12 (value_in s island photovoltaic)
