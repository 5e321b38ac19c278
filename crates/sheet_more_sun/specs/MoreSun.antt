-- "How much more sun" (document 02, ticket 10): what injection would bring C to O or above. As in the sheet's definitions,
-- months and bands are counted from 0.
use Rattle.std.specs.Prelude.{ℕ, ◌+◌, ◌-◌, ◌*◌, ◌<◌, ◌≡◌, Bool, false, List, leb, Option, Some, None, cond}
use Rattle.units.specs.Units.{kwh}
use Rattle.units.specs.Limits.{max_kwh}
use Rattle.units.specs.Folds.{any_below, first_below}
use Rattle.codec.specs.Bytes.{bytes_of, stored}
use Rattle.sheet.specs.YearSheet.{injected_reading, by_bands, injected}
use Rattle.sheet_prices.specs.ValueAndCost.{cost_of, value_of}
use Rattle.sheet_values.specs.declared.Details.{Details}
use Rattle.sheet_values.specs.YearsValues.{on_island, is_photovoltaic}
use Rattle.units.specs.declared.Kwh.{Kwh}

-- "The added energy changes that one field only": the sheet with so many kWh more in the injected field of a month and a band
unfoldable pub with_more : List ℕ → (m band added : ℕ) → List ℕ
with_more s m band added = stored (32 + 96 * m + 4 * (3 + band)) (bytes_of 4 (injected s m band + added)) s

-- "would bring C to O or above", "priced for the enrolled plant": C of the changed sheet, for a user with these details
unfoldable pub covers_cost : List ℕ → Details → (m band added : ℕ) → Bool
covers_cost s d m band added = leb (cost_of s) (value_of (with_more s m band added) (on_island d) (is_photovoltaic d))

-- "within the 20,000,000 limit": the additions that leave the field within its limit are the numbers below this one
abbrev pub additions : List ℕ → (m band : ℕ) → ℕ
additions s m band = max_kwh + 1 - injected s m band

-- the smallest number below n that passes a test, or none
unfoldable pub least_below : ℕ → (ℕ → Bool) → Option Kwh
least_below n test = cond (any_below n test) (Some (kwh (first_below n test))) None

-- "For a sheet, a month and a band, we want the least added kWh which does this, or the answer that none does within the
-- 20,000,000 limit."
unfoldable pub more_sun : List ℕ → Details → (m band : ℕ) → Option Kwh
more_sun s d m band = least_below (additions s m band) (covers_cost s d m band)

-- a field that the reading has: "For a single reading the band must be the first."
pub record FieldStands (s : List ℕ) (m band : ℕ) : Type 0 where
  pub month : m < 12
  pub band-to-3 : band < 3
  pub single : by_bands (injected_reading s) ≡ false → band ≡ 0
