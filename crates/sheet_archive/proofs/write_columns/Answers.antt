-- After each turn one column more stands in its line of the archive.
use Rattle.std.proofs.Common.{refl, arith, rules}
use Rattle.sheet_archive.specs.Tables.{table_line}
use Rattle.sheet_archive.specs.Archive.{archive_of, sheet_columns, sheet_months}
use Rattle.sheet_archive.proofs.Calls.{begins, goes_on, ends, archive_lines}
use Rattle.sheet_archive.proofs.write_columns.Goals as goal

pub loop-column-init : goal.loop-column-init
loop-column-init c =
    let a = c.args in
    let h = c.copy_header in
    begins sheet_columns sheet_months a.sheet.now (archive_lines a.sheet.now) h.new.to a.archive.now (search rules) c.requires h.auto.to h.ensures

pub loop-column-preserved : goal.loop-column-preserved
loop-column-preserved c =
    let l = c.loop-column in
    let a = c.args in
    let w = c.archive_column in
    let t₀ = c.copy_header.new.to in
    goes_on sheet_columns sheet_months a.sheet.now (archive_lines a.sheet.now) t₀ refl l.invariant w.new.archive
    (table_line sheet_months (archive_lines a.sheet.now l.column)) (search rules) refl w.ensures w.auto.archive

pub returns : goal.returns
unfolding archive_of
returns c =
    let l = c.loop-column in
    let a = c.args in
    let t₀ = c.copy_header.new.to in
    ends sheet_columns sheet_months a.sheet.now (archive_lines a.sheet.now) t₀ refl l.invariant (omega arith)
