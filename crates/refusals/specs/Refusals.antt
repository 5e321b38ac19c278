-- The refusals of all calls: the number of each, and what it names. An answer that is a `Result` is read here as the numbers that
-- the rules speak of: 0 for an accepted call.
use Rattle.std.specs.Prelude.{ℕ, ◌+◌, Result, Ok, Err}
use Rattle.refusals.specs.declared.Position.{Position}
use Rattle.refusals.specs.declared.Refusal.{Refusal}
use Rattle.refusals.specs.declared.Refusal.TheVariants.{BookLength, FaultyRecord, BookFull, NumberTaken, DetailOutOfRange, UnknownUser}
use Rattle.refusals.specs.declared.Refusal.TheVariants.{NoSuchDayOrOption, OutsideWindow, RunNotOpen, OrderOutOfRange, SheetForm}
use Rattle.refusals.specs.declared.Refusal.TheVariants.{YearNotOpen, AboveLimit, DomesticExcess, ChargeNotOpen, WrongLine, UnusedBand}
use Rattle.refusals.specs.declared.Refusal.TheVariants.{NoSuchField, FactorAboveLimit, BufferLength}

-- the numbers of the documents
abbrev pub number_of : Refusal → ℕ
number_of BookLength = 1
number_of (FaultyRecord index) = 2
number_of BookFull = 3
number_of NumberTaken = 4
number_of DetailOutOfRange = 5
number_of UnknownUser = 6
number_of NoSuchDayOrOption = 7
number_of OutsideWindow = 8
number_of RunNotOpen = 9
number_of OrderOutOfRange = 10
number_of SheetForm = 11
number_of YearNotOpen = 12
number_of (AboveLimit position) = 13
number_of DomesticExcess = 14
number_of ChargeNotOpen = 16
number_of (WrongLine line) = 17
number_of (UnusedBand position) = 19
number_of NoSuchField = 23
number_of FactorAboveLimit = 26
number_of BufferLength = 27

-- no position: after every answer but 13 and 19 zeros stand there
abbrev pub nowhere : Position
nowhere = record { month = 0; place = 0 }

-- a position by its month and its place, each counted from 0
abbrev pub position_at : (month place : ℕ) → Position
position_at month place = record { month = month + 1; place = place + 1 }

-- what a refusal names: after 13 and 19 the position, after 17 the line; else zeros
abbrev pub position_of : Refusal → Position
position_of (AboveLimit position) = position
position_of (UnusedBand position) = position
position_of other = nowhere

abbrev pub line_of : Refusal → ℕ
line_of (WrongLine line) = line
line_of other = 0

-- .. and after 2 the faulty record, else 0
abbrev pub record_of : Refusal → ℕ
record_of (FaultyRecord index) = index.0
record_of other = 0

-- the same of an answer
abbrev pub refusal_in : {A : Type 0} → Result A Refusal → ℕ
refusal_in (Ok value) = 0
refusal_in (Err refusal) = number_of refusal

abbrev pub position_in : {A : Type 0} → Result A Refusal → Position
position_in (Ok value) = nowhere
position_in (Err refusal) = position_of refusal

abbrev pub line_in : {A : Type 0} → Result A Refusal → ℕ
line_in (Ok value) = 0
line_in (Err refusal) = line_of refusal

-- the record that an answer names: an accepted call names one itself, or 0
abbrev pub record_in : {A : Type 0} → (A → ℕ) → Result A Refusal → ℕ
record_in named (Ok value) = named value
record_in named (Err refusal) = record_of refusal
