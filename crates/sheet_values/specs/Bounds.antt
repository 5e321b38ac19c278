-- Document 02, ticket 3: "A sheet past 13 holds at most 60,000,000 kWh a month and 720,000,000 a year, withdrawn and injected
-- each. .. both bounds proved and reached".
use Rattle.std.specs.Prelude.{ℕ, zero, suc, ◌+◌, ◌*◌, ◌≤◌, ◌<◌, ◌≡◌, List, [], ◌∷◌, ◌++◌, replicate}
use Rattle.units.specs.Limits.{max_kwh, max_price}
use Rattle.codec.specs.Bytes.{bytes_of}
use Rattle.sheet.specs.YearSheet.{month_withdrawn, Past13, SheetPassed}
use Rattle.sheet_values.specs.YearsValues.{month_injected, withdrawn_over, injected_over}

abbrev pub month_bound : ℕ
month_bound = 60000000

abbrev pub year_bound : ℕ
year_bound = 720000000

-- a month, the year, and a stretch of n months from the month `from` on
pub record Bounded (s : List ℕ) : Type 0 where
  pub month-withdrawn : (m : ℕ) → m < 12 → month_withdrawn s m ≤ month_bound
  pub month-injected : (m : ℕ) → m < 12 → month_injected s m ≤ month_bound
  pub year-withdrawn : withdrawn_over s 0 12 ≤ year_bound
  pub year-injected : injected_over s 0 12 ≤ year_bound
  pub withdrawn-over : (from n : ℕ) → from + n ≤ 12 → withdrawn_over s from n ≤ month_bound * n
  pub injected-over : (from n : ℕ) → from + n ≤ 12 → injected_over s from n ≤ month_bound * n

abbrev pub SheetsBounded : Type 0
SheetsBounded = (s : List ℕ) → Past13 s → Bounded s

-- The sheet that reaches both: user 1, year 2013, readings by bands, every number at its limit.
unfoldable pub numbers : ℕ → ℕ → List ℕ
numbers zero value = []
numbers (suc n) value = bytes_of 4 value ++ numbers n value

unfoldable pub months : ℕ → List ℕ
months zero = []
months (suc n) = numbers 6 max_kwh ++ (numbers 17 max_price ++ (numbers 1 0 ++ months n))

unfoldable pub full_sheet : List ℕ
full_sheet = bytes_of 4 1 ++ (bytes_of 2 2013 ++ (1 ∷ 1 ∷ (replicate 24 0 ++ months 12)))

pub record Reached (s : List ℕ) : Type 0 where
  pub passed : SheetPassed s
  pub month-withdrawn : (m : ℕ) → m < 12 → month_withdrawn s m ≡ month_bound
  pub month-injected : (m : ℕ) → m < 12 → month_injected s m ≡ month_bound
  pub year-withdrawn : withdrawn_over s 0 12 ≡ year_bound
  pub year-injected : injected_over s 0 12 ≡ year_bound

abbrev pub BoundsReached : Type 0
BoundsReached = Reached full_sheet
