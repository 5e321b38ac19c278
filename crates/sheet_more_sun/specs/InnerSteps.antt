-- What the inner functions do: for their contracts alone.
use Rattle.std.specs.Prelude.{ℕ, ◌+◌, ◌*◌, ◌≤◌, ◌<◌, Bool, List, leb}
use Rattle.units.specs.Limits.{max_kwh, max_price, max_year_ticks}
use Rattle.sheet.specs.YearSheet.{injected_reading, by_bands}
use Rattle.sheet_prices.specs.InnerArrays.{price_row, price_at}
use Rattle.sheet_values.specs.declared.Details.{Details}
use Rattle.sheet_values.specs.YearsValues.{on_island, is_photovoltaic}

-- the least energy that is worth an amount at a price
pub record LeastWorth (amount price energy : ℕ) : Type 0 where
  pub worth : amount ≤ energy * price
  pub least : (y : ℕ) → y < energy → y * price < amount

-- the amounts of a year, the price of a field and the field are within their limits
pub record InLimits (cost value price field : ℕ) : Type 0 where
  pub cost-to : cost ≤ max_year_ticks
  pub value-to : value ≤ max_year_ticks
  pub price-to : price ≤ max_price
  pub field-to : field ≤ max_kwh

-- C and so many kWh more at a price come to O
abbrev pub comes_to : (cost value price : ℕ) → ℕ → Bool
comes_to cost value price added = leb cost (value + added * price)

-- the price of a field, as it stands in its month's row
abbrev pub field_price : List ℕ → Details → (m band : ℕ) → ℕ
field_price s d m band = price_at band (price_row s (by_bands (injected_reading s)) (on_island d) (is_photovoltaic d) m)
