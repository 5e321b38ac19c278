-- After each turn four columns more stand in the sheet.
use Rattle.std.proofs.Common.{◌≡◌, ℕ, ◌-◌, ◌*◌, ◌≤◌, List, length}
use Rattle.sheet.specs.YearSheet.{sheet_length}
use Rattle.sheet_archive.specs.InnerSteps.{Restored}
use Rattle.sheet_archive.proofs.write_months.Given as goal

pub record FoursRestored (archive before sheet : List ℕ) (four : ℕ) : Type 0 where
  pub within : four ≤ 6
  pub long : length archive ≡ sheet_length
  pub same : length sheet ≡ length before
  pub restored : Restored archive sheet (4 * four) 0 0

abbrev pub invariant-loop-four : goal.invariant-loop-four
invariant-loop-four l = FoursRestored l.archive l.initial.sheet l.sheet l.four

abbrev pub decreases-loop-four : goal.decreases-loop-four
decreases-loop-four l = 6 - l.four
