-- A buffer of another length is refused; else the months are written.
use Rattle.std.proofs.Common.{◌≡◌, length, sym, ◌∙◌, rules}
use Rattle.sheet_archive.proofs.Calls.{source_fits, destination-fits, refused-sheet, accepted-sheet}
use Rattle.sheet_archive.proofs.restore.Goals as goal

pub returns-then-not-sizes_fit : goal.returns-then-not-sizes_fit
returns-then-not-sizes_fit c =
    let a = c.args in
    let all = refused-sheet a.archive.now a.sheet.now (sym c.sizes_fit.ensures ∙ c.if-not-sizes_fit.true) in
    record { size_answer = all.0; after = all.1 }

pub unwrap-source-requires : goal.unwrap-source-requires
unwrap-source-requires c =
    let long = source_fits (length c.args.archive.now) (length c.args.sheet.now) (sym c.sizes_fit.ensures ∙ c.if-not-sizes_fit.false) in
    search rules

pub write_months-requires : goal.write_months-requires
write_months-requires c = destination-fits (length c.args.archive.now) (length c.args.sheet.now) (sym c.sizes_fit.ensures ∙ c.if-not-sizes_fit.false)

pub returns : goal.returns
returns c =
    let a = c.args in
    let said = accepted-sheet a.archive.now a.sheet.now (sym c.sizes_fit.ensures ∙ c.if-not-sizes_fit.false) in
    let same : c.unwrap-source.result.now ≡ a.archive.now = search rules in
    record { size_answer = said.0; after = (rw same at c.write_months.ensures) ∙ said.1 }
