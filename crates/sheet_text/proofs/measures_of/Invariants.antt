-- The lines passed are taken, and their numbers stand at their places.
use Rattle.std.proofs.Common.{ℕ, ◌≡◌, List, length}
use Rattle.units.specs.declared.Kwh.{Kwh}
use Rattle.sheet_text.specs.Lines.{from_line}
use Rattle.sheet_text.proofs.Reading.{NoneRefused, Numbers}
use Rattle.sheet_text.proofs.measures_of.Given as goal

pub record LinesRead (text : List ℕ) (year : List (List Kwh)) (rest : List ℕ) (month : ℕ) : Type 0 where
  pub twelve : length year ≡ 12
  pub passed : NoneRefused text month
  pub place : rest ≡ from_line month text
  pub numbers : Numbers text month year

abbrev pub invariant-loop-month : goal.invariant-loop-month
invariant-loop-month l = LinesRead l.text l.year l.rest l.month
