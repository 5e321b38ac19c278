-- How the program's arrays hold the months of a year.
use Rattle.std.specs.Prelude.{ℕ, ◌*◌, ◌≤◌, ◌<◌, ◌≡◌, List, get_or}
use Rattle.units.specs.declared.Kwh.{Kwh}
use Rattle.units.specs.declared.Rate.{Rate}
use Rattle.units.specs.Units.{kwh, rate}
use Rattle.units.specs.Limits.{max_kwh}
use Rattle.sheet.specs.YearSheet.{month_withdrawn}
use Rattle.sheet_prices.specs.declared.Reading.{Reading}
use Rattle.sheet_prices.specs.declared.Reading.TheVariants.{Withdrawn, Injected}
use Rattle.sheet_prices.specs.InnerArrays.{energy_at}
use Rattle.sheet_values.specs.declared.Details.{Details}
use Rattle.sheet_values.specs.declared.YearValues.{YearValues}
use Rattle.sheet_values.specs.YearsValues.{month_injected, year_values, ValuesFit}

-- an array that holds a number for each month
abbrev pub Months : (ℕ → ℕ) → List Kwh → Type 0
Months f a = (m : ℕ) → m < 12 → get_or a m (kwh 0) ≡ kwh (f m)

-- the energy of a reading in a month; "at most 60,000,000 kWh a month"
abbrev pub month_energy : Reading → List ℕ → ℕ → ℕ
month_energy Withdrawn s = month_withdrawn s
month_energy Injected s = month_injected s

abbrev pub MonthsFit : List Kwh → Type 0
MonthsFit a = (m : ℕ) → m < 12 → energy_at m a ≤ 3 * max_kwh

-- an array that holds a rate for each tier
abbrev pub Rates : (ℕ → ℕ) → List Rate → Type 0
Rates f a = (t : ℕ) → t < 4 → get_or a t (rate 0) ≡ rate (f t)

-- the values of a year, which are in range
pub record ValuesWorked (s : List ℕ) (details : Details) (r : YearValues) : Type 0 where
  pub are : r ≡ year_values s details
  pub fit : ValuesFit r
