-- "Year's values" of document 01: exchanged energy, F and the halves of a year sheet, and all its values by a user's
-- details.
use Rattle.std.specs.Prelude.{ℕ, ◌+◌, ◌*◌, ◌≤◌, min, Bool, cond, List, ltb, eqb}
use Rattle.units.specs.Units.{ticks, kwh}
use Rattle.units.specs.Limits.{max_year_ticks, max_flat_rate, max_half_kwh}
use Rattle.units.specs.Folds.{sum_below, any_below}
use Rattle.tariff.specs.Tariff.{monthly_threshold, monthly_method, annual_tiers, monthly_tiers, mean_rate, tier_rate, flat_rate_of}
use Rattle.sheet.specs.YearSheet.{injected, net, system, month_withdrawn}
use Rattle.sheet_prices.specs.ValueAndCost.{cost_of, value_of}
use Rattle.sheet_values.specs.declared.Details.{Details}
use Rattle.sheet_values.specs.declared.YearValues.{YearValues}

-- "Exchanged energy E is the smaller of withdrawn W and injected, over a year or a month", here over the months of a
-- stretch: n months from the month `from` on. The year is the twelve months from 0 on.
unfoldable pub month_injected : List ℕ → ℕ → ℕ
month_injected s m = injected s m 0 + injected s m 1 + injected s m 2

unfoldable pub withdrawn_over : List ℕ → ℕ → ℕ → ℕ
withdrawn_over s from n = sum_below n (λ i. month_withdrawn s (from + i))

unfoldable pub injected_over : List ℕ → ℕ → ℕ → ℕ
injected_over s from n = sum_below n (λ i. month_injected s (from + i))

unfoldable pub exchanged_over : List ℕ → ℕ → ℕ → ℕ
exchanged_over s from n = min (withdrawn_over s from n) (injected_over s from n)

unfoldable pub month_exchanged : List ℕ → ℕ → ℕ
month_exchanged s m = min (month_withdrawn s m) (month_injected s m)

-- "some month's withdrawal is above 4,000,000"
unfoldable pub some_month_above : List ℕ → ℕ → ℕ → Bool
some_month_above s from n = any_below n (λ i. ltb monthly_threshold (month_withdrawn s (from + i)))

-- "It uses each month's rates; else each annual rate, net and system apart, is the sum of twelve divided by 12, halves
-- up": the rate of a tier for a month, and for a stretch of n months
unfoldable pub month_rate : List ℕ → ℕ → ℕ → ℕ → ℕ → ℕ
month_rate s plant power m t = tier_rate plant power (net s m t) (system s m t)

unfoldable pub annual_rate : List ℕ → ℕ → ℕ → ℕ → ℕ → ℕ → ℕ
annual_rate s plant power from n t =
    tier_rate plant power (mean_rate n (sum_below n (λ i. net s (from + i) t))) (mean_rate n (sum_below n (λ i. system s (from + i) t)))

unfoldable pub month_flat_rate : List ℕ → ℕ → ℕ → ℕ → ℕ
month_flat_rate s plant power m =
    flat_rate_of (monthly_tiers (month_withdrawn s m) (month_exchanged s m)) (month_rate s plant power m)

unfoldable pub annual_flat_rate : List ℕ → ℕ → ℕ → ℕ → ℕ → ℕ → ℕ
annual_flat_rate s from n class plant power =
    flat_rate_of (annual_tiers class (withdrawn_over s from n) (exchanged_over s from n)) (annual_rate s plant power from n)

-- "F, the flat-rate part", of a stretch of months
unfoldable pub flat_rate_over : List ℕ → ℕ → ℕ → ℕ → ℕ → ℕ → ℕ
flat_rate_over s from n class plant power =
    cond (monthly_method class (some_month_above s from n)) (sum_below n (λ i. month_flat_rate s plant power (from + i)))
    (annual_flat_rate s from n class plant power)

-- "the halves become the sums of the months' exchanged kWh": months 1–6 and 7–12
unfoldable pub half_of : List ℕ → ℕ → ℕ
half_of s half = sum_below 6 (λ i. month_exchanged s (6 * half + i))

-- the values of a sheet for a user with these details
abbrev pub on_island : Details → Bool
on_island d = eqb d.island 1

abbrev pub is_photovoltaic : Details → Bool
is_photovoltaic d = eqb d.plant 1

unfoldable pub year_values : List ℕ → Details → YearValues
year_values s d =
    record {
      value = ticks (value_of s (on_island d) (is_photovoltaic d));
      cost = ticks (cost_of s);
      flat_rate = ticks (flat_rate_over s 0 12 d.class d.plant d.power);
      half1 = kwh (half_of s 0);
      half2 = kwh (half_of s 1);
    }

-- "Book", ranges: "C, O .. are at most 3.6·10^14, F 7.2·10^14 .. a half 360,000,000"
pub record ValuesFit (v : YearValues) : Type 0 where
  pub value : v.value.0 ≤ max_year_ticks
  pub cost : v.cost.0 ≤ max_year_ticks
  pub flat_rate : v.flat_rate.0 ≤ max_flat_rate
  pub half1 : v.half1.0 ≤ max_half_kwh
  pub half2 : v.half2.0 ≤ max_half_kwh
