-- "Year's values" of document 01, the part that needs no sheet: methods, tiers and rates.
-- Energies are in kWh, prices and rates in hundred-thousandths of a euro per kWh, powers in watts.
use Rattle.std.specs.Prelude.{ℕ, ◌+◌, ◌-◌, ◌*◌, ◌/◌, min, max, Bool, cond, ◌&&◌, ◌||◌, List, [], ◌∷◌, map, leb, eqb, get_or}
use Rattle.units.specs.declared.Kwh.{Kwh}
use Rattle.units.specs.Units.{units_per_euro_mwh}
use Rattle.units.specs.Limits.{max_kwh}
use Rattle.units.specs.Folds.{sum_below}
use Rattle.tariff.specs.Table1.{table_euro_per_mwh}

-- "Classes: 1 domestic D2, 2 domestic D3"
unfoldable pub domestic : ℕ → Bool
domestic class = leb 1 class && leb class 2

-- "Monthly method: classes 9–11, or classes 3–8 if some month's withdrawal is above 4,000,000."
abbrev pub monthly_threshold : ℕ
monthly_threshold = 4000000

unfoldable pub monthly_method : ℕ → Bool → Bool
monthly_method class some_month_above = (leb 9 class && leb class 11) || ((leb 3 class && leb class 8) && some_month_above)

-- "Withdrawal beyond E fills the lowest tiers, so E lies from W − E to W and is cut at the bounds."
-- What the stretch from `low` to `high` has between two bounds, and above the last one. (`-` stops at zero.)
unfoldable pub between : ℕ → ℕ → ℕ → ℕ → ℕ
between low high a b = min high b - max low a

unfoldable pub above : ℕ → ℕ → ℕ → ℕ
above low high a = high - max low a

-- the energies of the four tiers, by the three bounds, withdrawn energy w and exchanged energy e
unfoldable pub tiers : ℕ → ℕ → ℕ → ℕ → ℕ → List ℕ
tiers b₁ b₂ b₃ w e =
    between (w - e) w 0 b₁ ∷ between (w - e) w b₁ b₂ ∷ between (w - e) w b₂ b₃ ∷ above (w - e) w b₃ ∷ []

-- the numbers of the program's energies, and their sum over the four tiers
abbrev pub numbers : List Kwh → List ℕ
numbers energies = map (λ k. k.0) energies

unfoldable pub tier_sum : List ℕ → ℕ
tier_sum energies = sum_below 4 (λ t. get_or energies t 0)

-- "Bounds: 1,800, 2,640, 4,440 per year for classes 1 and 2; 4, 8, 12 million per month in the monthly method.
-- Other users have tier 1 only."
unfoldable pub annual_tiers : ℕ → ℕ → ℕ → List ℕ
annual_tiers class w e = cond (domestic class) (tiers 1800 2640 4440 w e) (e ∷ 0 ∷ 0 ∷ 0 ∷ [])

unfoldable pub monthly_tiers : ℕ → ℕ → List ℕ
monthly_tiers w e = tiers 4000000 8000000 12000000 w e

-- "the sum of twelve divided by 12, halves up", for any number n of months
unfoldable pub mean_rate : ℕ → ℕ → ℕ
mean_rate n sum = (2 * sum + n) / (2 * n)

-- "Tier rate: cogeneration net; renewable up to 20,000 W net + system; above, net + the smaller of system and the
-- limit, which is Table 1 less that tier's net (house), not below zero." (`-` stops at zero.)
abbrev pub cogeneration : ℕ
cogeneration = 17

abbrev pub small_power : ℕ
small_power = 20000

unfoldable pub limit : ℕ → ℕ → ℕ → ℕ
limit plant power net = units_per_euro_mwh * table_euro_per_mwh plant power - net

unfoldable pub tier_rate : ℕ → ℕ → ℕ → ℕ → ℕ
tier_rate plant power net system =
    cond (eqb plant cogeneration) net (cond (leb power small_power) (net + system) (net + min system (limit plant power net)))

-- the most that a year's energy can be, in kWh: three bands of twelve months ("Year sheet")
abbrev pub max_year_kwh : ℕ
max_year_kwh = 36 * max_kwh

-- "F, the flat-rate part: the sum of tier energy times tier rate."
unfoldable pub flat_rate_of : List ℕ → (ℕ → ℕ) → ℕ
flat_rate_of energies rateOf = sum_below 4 (λ t. get_or energies t 0 * rateOf t)
