-- A buffer of another length is refused; else the columns are written.
use Rattle.std.proofs.Common.{◌≡◌, length, sym, ◌∙◌, rules}
use Rattle.sheet_archive.proofs.Calls.{source_fits, destination-fits, refused-archive, accepted-archive}
use Rattle.sheet_archive.proofs.archive.Goals as goal

pub returns-then-not-sizes_fit : goal.returns-then-not-sizes_fit
returns-then-not-sizes_fit c =
    let a = c.args in
    let all = refused-archive a.sheet.now a.archive.now (sym c.sizes_fit.ensures ∙ c.if-not-sizes_fit.true) in
    record { size_answer = all.0; after = all.1 }

pub unwrap-source-requires : goal.unwrap-source-requires
unwrap-source-requires c =
    let long = source_fits (length c.args.sheet.now) (length c.args.archive.now) (sym c.sizes_fit.ensures ∙ c.if-not-sizes_fit.false) in
    search rules

pub write_columns-requires : goal.write_columns-requires
write_columns-requires c = destination-fits (length c.args.sheet.now) (length c.args.archive.now) (sym c.sizes_fit.ensures ∙ c.if-not-sizes_fit.false)

pub returns : goal.returns
returns c =
    let a = c.args in
    let said = accepted-archive a.sheet.now a.archive.now (sym c.sizes_fit.ensures ∙ c.if-not-sizes_fit.false) in
    let same : c.unwrap-source.result.now ≡ a.sheet.now = search rules in
    record { size_answer = said.0; after = (rw same at c.write_columns.ensures) ∙ said.1 }
