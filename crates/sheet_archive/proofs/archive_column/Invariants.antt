-- The first number as it is, then each difference: after a turn one number more of the column stands in its line.
use Rattle.std.proofs.Common.{◌≡◌, ℕ, ◌-◌, ◌≤◌, List, length}
use Rattle.codec.specs.Bytes.{stored}
use Rattle.sheet_archive.specs.Tables.{table_line}
use Rattle.sheet_archive.specs.Archive.{differences, in_sheet, sheet_columns, sheet_months}
use Rattle.sheet_archive.specs.InnerSteps.{column_place, before}
use Rattle.sheet_archive.proofs.archive_column.Given as goal

-- a column's line, and the first number of it stored
abbrev pub less : List ℕ → ℕ → ℕ → ℕ
less s column = differences (in_sheet sheet_columns s column)

pub record Archiving (sheet before₀ : List ℕ) (column : ℕ) (archive : List ℕ) (last month : ℕ) : Type 0 where
  pub first : 1 ≤ month
  pub within : month ≤ sheet_months
  pub carried : last ≡ before (in_sheet sheet_columns sheet column) month
  pub same : length archive ≡ length before₀
  pub written : archive ≡ stored (column_place column) (table_line month (less sheet column)) before₀

abbrev pub invariant-loop-month : goal.invariant-loop-month
invariant-loop-month l = Archiving l.sheet l.initial.archive l.column l.archive l.last l.month

abbrev pub decreases-loop-month : goal.decreases-loop-month
decreases-loop-month l = sheet_months - l.month
