-- What the inner functions of reader and writer do: for their contracts alone.
use Rattle.std.specs.Prelude.{ℕ, zero, suc, ◌+◌, ◌<◌, min, ◌≤◌, ◌≡◌, true, cond, List, [], ◌++◌, eqb, get_or, length, Err}
use Rattle.units.specs.declared.Kwh.{Kwh}
use Rattle.units.specs.Units.{kwh}
use Rattle.units.specs.Limits.{max_kwh}
use Rattle.refusals.specs.declared.Position.{Position}
use Rattle.refusals.specs.declared.Refusal.{Refusal}
use Rattle.sheet.specs.YearSheet.{word}
use Rattle.decimals.specs.Decimals.{field, line_feed}
use Rattle.sheet_text.specs.Lines.{semicolon, months, readings, begins_line, kwh_at, behind_line, kwh_in, year_text}
use Rattle.sheet_text.specs.Reading.{some_kwh_above, first_above, accepted, text_answer}
use Rattle.sheet_text.specs.Writing.{sheet_above, first_month_above, text_room}
use Rattle.codec.specs.Bytes.{stored}

-- a number above its limit counts as one above it
abbrev pub too_much : ℕ
too_much = max_kwh + 1

-- the six numbers of a month, and those of a year
abbrev pub kwh_of : List Kwh → ℕ → ℕ
kwh_of six p = (get_or six p (kwh 0)).0

abbrev pub kwh_of_year : List (List Kwh) → ℕ → ℕ → ℕ
kwh_of_year year m = kwh_of (get_or year m [])

-- month and place as the documents count them
abbrev pub place_in : ℕ → ℕ → Position
place_in m p = record { month = m + 1; place = p + 1 }

-- a line that stands at the front of a text: its numbers as far as they count, and what is behind it
pub record LineRead (month : ℕ) (t : List ℕ) (six : List Kwh) (after : List ℕ) : Type 0 where
  pub stands : begins_line month t ≡ true
  pub numbers : (p : ℕ) → p < readings → kwh_of six p ≡ min (kwh_at t p) too_much
  pub rest : after ≡ behind_line t

-- the first place with a number above its limit
pub record FirstAbove (kwh : ℕ → ℕ) (p : ℕ) : Type 0 where
  pub within : p < readings
  pub some : some_kwh_above kwh ≡ true
  pub first : p ≡ first_above kwh

-- what a text says: it is taken, and its numbers; or why it is refused
pub record YearRead (t : List ℕ) (year : List (List Kwh)) : Type 0 where
  pub taken : text_answer t ≡ accepted
  pub numbers : (m p : ℕ) → m < months → p < readings → kwh_of_year year m p ≡ kwh_in t m p

abbrev pub TextRefused : List ℕ → Refusal → Type 0
TextRefused t refusal = text_answer t ≡ Err refusal

-- the kWh of a month of a sheet; where the first of the sheet above its limit stands
abbrev pub MonthOf : List ℕ → ℕ → List Kwh → Type 0
MonthOf s m six = (p : ℕ) → p < readings → kwh_of six p ≡ word s m p

pub record SheetAbove (s : List ℕ) (position : Position) : Type 0 where
  pub some : sheet_above s ≡ true
  pub at : position ≡ place_in (first_month_above s) (first_above (word s (first_month_above s)))

-- the byte behind the number at a place, and the numbers of a line up to a place
unfoldable pub stop_at : ℕ → ℕ
stop_at p = cond (eqb p 5) line_feed semicolon

unfoldable pub numbers_to : (ℕ → ℕ) → ℕ → List ℕ
numbers_to kwh zero = []
numbers_to kwh (suc p) = numbers_to kwh p ++ field (kwh p) (stop_at p)

-- the twelve lines of a sheet stand at the front, and fit
pub record YearPut (s before after : List ℕ) (r : ℕ) : Type 0 where
  pub end : r ≡ length (year_text (word s))
  pub most : r ≤ text_room
  pub stands : after ≡ stored 0 (year_text (word s)) before
