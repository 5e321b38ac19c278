-- Month by month, each from the one before it.
use Rattle.std.proofs.Common.{◌≡◌, ℕ, ◌-◌, ◌≤◌, List, length}
use Rattle.sheet.specs.YearSheet.{sheet_length}
use Rattle.sheet_archive.specs.Archive.{sheet_months}
use Rattle.sheet_archive.specs.InnerSteps.{Restored}
use Rattle.sheet_archive.proofs.Restoring.{Hold, carried}
use Rattle.sheet_archive.proofs.restore_four.Given as goal

pub record MonthsRestored (archive before : List ℕ) (column : ℕ) (sheet : List ℕ) (numbers : List ℕ) (month : ℕ) : Type 0 where
  pub within : month ≤ sheet_months
  pub same : length sheet ≡ length before
  pub long : length sheet ≡ sheet_length
  pub held : Hold (carried archive) column month numbers
  pub restored : Restored archive sheet column month 0

abbrev pub invariant-loop-month : goal.invariant-loop-month
invariant-loop-month l = MonthsRestored l.archive l.initial.sheet l.column l.sheet l.numbers l.month

abbrev pub decreases-loop-month : goal.decreases-loop-month
decreases-loop-month l = sheet_months - l.month
