-- "Raw injected readings" (document 02, ticket 12): one band over any number of months, and a sheet's three bands over twelve.
-- Months and bands are counted from 0.
use Rattle.std.specs.Prelude.{ℕ, zero, suc, ◌+◌, ◌*◌, ◌/◌, ◌%◌, Bool, cond, not, List, [], ◌∷◌, ◌++◌, ltb, eqb, Result, Ok, Err}
use Rattle.units.specs.Limits.{max_kwh}
use Rattle.units.specs.Folds.{any_below, first_below}
use Rattle.codec.specs.Bytes.{bytes_of, stored}
use Rattle.refusals.specs.declared.Position.{Position}
use Rattle.refusals.specs.declared.Refusal.{Refusal}
use Rattle.refusals.specs.declared.Refusal.TheVariants.{SheetForm, FactorAboveLimit, AboveLimit}
use Rattle.sheet.specs.YearSheet.{injected, form_fits}

-- "by a factor of 0 to 200 thousandths"
abbrev pub max_factor : ℕ
max_factor = 200

-- ONE BAND, of which `raw` has the reading of each month. A raw reading makes this many thousandths of a kWh, with the rest that
-- passes to its month
abbrev pub thousandths : (factor reading rest : ℕ) → ℕ
thousandths factor reading rest = reading * (1000 + factor) + rest

-- "The rest of the division by 1,000 passes to the same band of the next month": what passes to a month, none to the first; what
-- passes on from the twelfth is December's rest
unfoldable pub rest_to : ℕ → (ℕ → ℕ) → ℕ → ℕ
rest_to factor raw zero = 0
rest_to factor raw (suc month) = thousandths factor (raw month) (rest_to factor raw month) % 1000

unfoldable pub raised : ℕ → (ℕ → ℕ) → ℕ → ℕ
raised factor raw month = thousandths factor (raw month) (rest_to factor raw month) / 1000

-- A SHEET: "raises each of these in a sheet"
abbrev pub band_of : List ℕ → ℕ → ℕ → ℕ
band_of s band month = injected s month band

unfoldable pub raised_reading : ℕ → List ℕ → ℕ → ℕ → ℕ
raised_reading factor s month band = raised factor (band_of s band) month

-- "December's rest is answered", that of each band
unfoldable pub decembers_rest : ℕ → List ℕ → ℕ → ℕ
decembers_rest factor s band = rest_to factor (band_of s band) 12

-- the injected readings of a month stand one after the other, F1 F2 F3, four bytes each
abbrev pub injected_place : ℕ → ℕ
injected_place month = 32 + 96 * month + 4 * 3

unfoldable pub three_readings : (ℕ → ℕ) → List ℕ
three_readings f = bytes_of 4 (f 0) ++ (bytes_of 4 (f 1) ++ bytes_of 4 (f 2))

-- the sheet with other injected readings in its first months; every other byte is the sheet's
unfoldable pub with_injected : (ℕ → ℕ → ℕ) → List ℕ → ℕ → List ℕ
with_injected readings s zero = s
with_injected readings s (suc month) = stored (injected_place month) (three_readings (readings month)) (with_injected readings s month)

unfoldable pub raised_sheet : ℕ → List ℕ → List ℕ
raised_sheet factor s = with_injected (raised_reading factor s) s 12

-- 13: "a raised reading above the limit"
unfoldable pub reading_above : ℕ → List ℕ → ℕ → ℕ → Bool
reading_above factor s month band = ltb max_kwh (raised_reading factor s month band)

unfoldable pub month_above : ℕ → List ℕ → ℕ → Bool
month_above factor s month = any_below 3 (reading_above factor s month)

unfoldable pub some_above : ℕ → List ℕ → Bool
some_above factor s = any_below 12 (month_above factor s)

-- where the earliest one stands, "month, 1–12, and place in it, 1–24" (ticket 7); injected F1 is a month's fourth number
abbrev pub place_in : ℕ → ℕ → Position
place_in month band = record { month = month + 1; place = band + 4 }

unfoldable pub earliest_above : ℕ → List ℕ → Position
earliest_above factor s =
    let month = first_below 12 (month_above factor s) in
    place_in month (first_below 3 (reading_above factor s month))

-- "It refuses with 26 a larger factor, after 11 (which here passes any header bytes 8 and 12–15), and with 13 a raised reading
-- above the limit."
unfoldable pub raise_refusal : ℕ → List ℕ → ℕ
raise_refusal factor s = cond (not (form_fits s)) 11 (cond (ltb max_factor factor) 26 (cond (some_above factor s) 13 0))

-- THE CALL: its answer, which is December's rest of each band, or the refusal, of a 13 with the position; and the sheet after it. A
-- refusal leaves the sheet
abbrev pub decembers_rests : ℕ → List ℕ → List ℕ
decembers_rests factor s = decembers_rest factor s 0 ∷ decembers_rest factor s 1 ∷ decembers_rest factor s 2 ∷ []

unfoldable pub answer_of : ℕ → List ℕ → Result (List ℕ) Refusal
answer_of factor s =
    cond (not (form_fits s)) (Err SheetForm)
    (cond (ltb max_factor factor) (Err FactorAboveLimit)
    (cond (some_above factor s) (Err (AboveLimit (earliest_above factor s))) (Ok (decembers_rests factor s))))

unfoldable pub raised_after : ℕ → List ℕ → List ℕ
raised_after factor s = cond (eqb (raise_refusal factor s) 0) (raised_sheet factor s) s
