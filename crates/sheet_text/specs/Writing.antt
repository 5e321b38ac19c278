-- "A writer makes the lines from a sheet in 675 lent bytes, leaves the rest and answers their length; it refuses with 11 either
-- size if wrong, then with 13 a kWh above its limit." (document 02, ticket 2)
use Rattle.std.specs.Prelude.{ℕ, ◌+◌, Bool, cond, not, ◌&&◌, List, eqb, length, Result, Ok, Err}
use Rattle.units.specs.Folds.{any_below, first_below}
use Rattle.codec.specs.Bytes.{stored}
use Rattle.sheet.specs.YearSheet.{sheet_length, word}
use Rattle.refusals.specs.declared.Refusal.{Refusal}
use Rattle.refusals.specs.declared.Refusal.TheVariants.{SheetForm, AboveLimit}
use Rattle.sheet_text.specs.Lines.{months, year_text}
use Rattle.sheet_text.specs.Reading.{some_kwh_above, first_above}

-- "675 lent bytes"
abbrev pub text_room : ℕ
text_room = 675

unfoldable pub buffers_fit : List ℕ → List ℕ → Bool
buffers_fit s b = eqb (length s) sheet_length && eqb (length b) text_room

-- some kWh of the sheet is above its limit; the first month in which one is
unfoldable pub sheet_above : List ℕ → Bool
sheet_above s = any_below months (λ m. some_kwh_above (word s m))

unfoldable pub first_month_above : List ℕ → ℕ
first_month_above s = first_below months (λ m. some_kwh_above (word s m))

abbrev pub size_refused : Result ℕ Refusal
size_refused = Err SheetForm

abbrev pub kwh_refused : ℕ → ℕ → Result ℕ Refusal
kwh_refused m place = Err (AboveLimit (record { month = m + 1; place = place + 1 }))

abbrev pub text_written : ℕ → Result ℕ Refusal
text_written n = Ok n

unfoldable pub write_answer : List ℕ → List ℕ → Result ℕ Refusal
write_answer s b =
    cond (buffers_fit s b)
    (cond (sheet_above s) (kwh_refused (first_month_above s) (first_above (word s (first_month_above s))))
    (text_written (length (year_text (word s)))))
    size_refused

-- the lent bytes afterwards: the lines in front, the rest as it was; a refusal leaves them all
unfoldable pub buffer_after : List ℕ → List ℕ → List ℕ
buffer_after s b = cond (buffers_fit s b && not (sheet_above s)) (stored 0 (year_text (word s)) b) b
