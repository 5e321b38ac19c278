-- "A reader fills the kWh of a lent sheet from twelve such lines in month order and touches no other byte." (document 02,
-- ticket 2)
use Rattle.std.specs.Prelude.{ℕ, zero, suc, ◌+◌, ◌*◌, ◌≤◌, ◌<◌, Bool, cond, not, ◌&&◌, ◌||◌, List, ltb, eqb, length, Result, Ok, Err}
use Rattle.units.specs.Limits.{max_kwh}
use Rattle.units.specs.Folds.{any_below, first_below}
use Rattle.codec.specs.Bytes.{bytes_of, stored}
use Rattle.sheet.specs.YearSheet.{sheet_length}
use Rattle.refusals.specs.declared.Refusal.{Refusal}
use Rattle.refusals.specs.declared.Refusal.TheVariants.{SheetForm, WrongLine, AboveLimit}
use Rattle.sheet_text.specs.Lines.{months, readings, begins_line, from_line, kwh_in}

-- "refuses with 17 a line not of this shape or month, missing or beyond the twelfth": a line that is missing begins with no
-- number; line 12, counted from 0, is beyond the twelfth
unfoldable pub line_wrong : List ℕ → ℕ → Bool
line_wrong t m = cond (ltb m months) (not (begins_line (m + 1) (from_line m t))) (not (eqb (length (from_line m t)) 0))

-- "and with 13 a number above its limit"
unfoldable pub some_kwh_above : (ℕ → ℕ) → Bool
some_kwh_above kwh = any_below readings (λ p. ltb max_kwh (kwh p))

unfoldable pub first_above : (ℕ → ℕ) → ℕ
first_above kwh = first_below readings (λ p. ltb max_kwh (kwh p))

abbrev pub Within : (ℕ → ℕ → ℕ) → Type 0
Within kwh = (m p : ℕ) → m < months → p < readings → kwh m p ≤ max_kwh

unfoldable pub line_refused : List ℕ → ℕ → Bool
line_refused t m = line_wrong t m || (ltb m months && some_kwh_above (kwh_in t m))

-- "telling its place from 1 to 13"; 13 tells month and place as ticket 7 has it
abbrev pub Answer : Type 0
Answer = Result (Unit {0}) Refusal

abbrev pub accepted : Answer
accepted = Ok tt

abbrev pub wrong_size : Answer
wrong_size = Err SheetForm

abbrev pub wrong_line : ℕ → Answer
wrong_line m = Err (WrongLine (m + 1))

abbrev pub above_in : ℕ → ℕ → Answer
above_in m place = Err (AboveLimit (record { month = m + 1; place = place + 1 }))

-- "the earlier line goes first, in one line 17"
unfoldable pub objection_to : List ℕ → ℕ → Answer
objection_to t m = cond (line_wrong t m) (wrong_line m) (above_in m (first_above (kwh_in t m)))

unfoldable pub some_refused : List ℕ → Bool
some_refused t = any_below (months + 1) (line_refused t)

unfoldable pub first_refused : List ℕ → ℕ
first_refused t = first_below (months + 1) (line_refused t)

unfoldable pub text_answer : List ℕ → Answer
text_answer t = cond (some_refused t) (objection_to t (first_refused t)) accepted

-- the sheet with other kWh: the first n places of a month, and the first n months
unfoldable pub month_filled : (ℕ → ℕ) → ℕ → ℕ → List ℕ → List ℕ
month_filled kwh m zero s = s
month_filled kwh m (suc p) s = stored (32 + 96 * m + 4 * p) (bytes_of 4 (kwh p)) (month_filled kwh m p s)

unfoldable pub months_filled : (ℕ → ℕ → ℕ) → ℕ → List ℕ → List ℕ
months_filled kwh zero s = s
months_filled kwh (suc m) s = month_filled (kwh m) m readings (months_filled kwh m s)

abbrev pub filled : (ℕ → ℕ → ℕ) → List ℕ → List ℕ
filled kwh s = months_filled kwh months s

-- "After 11 for a wrong sheet length"; a refusal leaves the sheet as it was
unfoldable pub read_answer : List ℕ → List ℕ → Answer
read_answer s t = cond (eqb (length s) sheet_length) (text_answer t) wrong_size

unfoldable pub read_after : List ℕ → List ℕ → List ℕ
read_after s t = cond (eqb (length s) sheet_length && not (some_refused t)) (filled (kwh_in t) s) s
