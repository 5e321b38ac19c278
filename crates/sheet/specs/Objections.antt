-- What the sheet alone objects to, as a value: 13 or 19 with the position of the number at fault.
use Rattle.std.specs.Prelude.{ℕ, ◌≡◌, Bool, true, false, cond, List, Result, Ok, Err}
use Rattle.refusals.specs.declared.Position.{Position}
use Rattle.refusals.specs.declared.Refusal.{Refusal}
use Rattle.refusals.specs.declared.Refusal.TheVariants.{AboveLimit, UnusedBand}
use Rattle.refusals.specs.Refusals.{number_of, position_of}
use Rattle.sheet.specs.YearSheet.{refused13, refused19, Tells}

-- "where one number has both faults, 13 goes first"
abbrev pub number_of_fault : (above stray : Bool) → ℕ
number_of_fault above stray = cond above 13 (cond stray 19 0)

-- the same as an answer, of a number at a position
abbrev pub answer_to : (above stray : Bool) → Position → Result (Unit {0}) Refusal
answer_to true stray position = Err (AboveLimit position)
answer_to false true position = Err (UnusedBand position)
answer_to false false position = Ok tt

-- by the earliest number at fault, and where it stands
pub record Faulted (s : List ℕ) (e : Refusal) : Type 0 where
  pub number_is : number_of e ≡ number_of_fault (refused13 s) (refused19 s)
  pub tells : Tells s (number_of e) (position_of e)
