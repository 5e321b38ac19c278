-- What the inner functions of the call do: for their contracts alone.
use Rattle.std.specs.Prelude.{ℕ, ◌<◌, ◌+◌, ◌≡◌, true, false, List, [], get_or, length}
use Rattle.units.specs.declared.Kwh.{Kwh}
use Rattle.units.specs.Units.{kwh}
use Rattle.units.specs.Folds.{first_below}
use Rattle.refusals.specs.declared.Refusal.{Refusal}
use Rattle.refusals.specs.declared.Refusal.TheVariants.{AboveLimit}
use Rattle.sheet_losses.specs.Losses.{rest_to, band_of, raised_reading, reading_above, month_above, some_above, place_in, earliest_above}
use Rattle.sheet_losses.specs.Losses.{decembers_rests}

-- the readings of a month, and of a year
abbrev pub in_band : List Kwh → ℕ → ℕ
in_band readings band = (get_or readings band (kwh 0)).0

abbrev pub readings_in : List (List Kwh) → ℕ → ℕ → ℕ
readings_in months month = in_band (get_or months month [])

-- the rests that pass to a month
abbrev pub RestsTo : ℕ → List ℕ → ℕ → List ℕ → Type 0
RestsTo factor s month rests = (band : ℕ) → band < 3 → get_or rests band 0 ≡ rest_to factor (band_of s band) month

-- what is worked out of a month: no reading is above the limit, the raised ones, and the rests that pass on
pub record MonthRaised (factor : ℕ) (s : List ℕ) (month : ℕ) (readings : List Kwh) (rests : List ℕ) : Type 0 where
  pub within : month_above factor s month ≡ false
  pub raised : (band : ℕ) → band < 3 → in_band readings band ≡ raised_reading factor s month band
  pub three : length rests ≡ 3
  pub passed : RestsTo factor s (month + 1) rests

-- or the first reading above it
pub record MonthAbove (factor : ℕ) (s : List ℕ) (month : ℕ) (refusal : Refusal) : Type 0 where
  pub above : month_above factor s month ≡ true
  pub at : refusal ≡ AboveLimit (place_in month (first_below 3 (reading_above factor s month)))

-- the same of the year
pub record YearRaised (factor : ℕ) (s : List ℕ) (months : List (List Kwh)) (rests : List ℕ) : Type 0 where
  pub within : some_above factor s ≡ false
  pub raised : (m : ℕ) → m < 12 → (band : ℕ) → band < 3 → readings_in months m band ≡ raised_reading factor s m band
  pub passed : rests ≡ decembers_rests factor s

pub record YearAbove (factor : ℕ) (s : List ℕ) (refusal : Refusal) : Type 0 where
  pub above : some_above factor s ≡ true
  pub at : refusal ≡ AboveLimit (earliest_above factor s)
