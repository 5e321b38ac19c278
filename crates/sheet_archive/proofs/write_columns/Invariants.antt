-- After each turn one column more stands in its line of the archive.
use Rattle.std.proofs.Common.{◌-◌}
use Rattle.sheet_archive.specs.Archive.{sheet_columns, sheet_months}
use Rattle.sheet_archive.proofs.Calls.{Filling}
use Rattle.sheet_archive.proofs.Calls.{archive_lines}
use Rattle.sheet_archive.proofs.write_columns.Given as goal

abbrev pub invariant-loop-column : goal.invariant-loop-column
invariant-loop-column l = Filling sheet_columns sheet_months l.sheet (archive_lines l.sheet) l.initial.archive l.archive l.column

abbrev pub decreases-loop-column : goal.decreases-loop-column
decreases-loop-column l = sheet_columns - l.column
