-- What the text says is known before the sheet is filled.
use Rattle.std.proofs.Common.{rules}
use Rattle.sheet_text.proofs.ReadCalls.{size-answered, refused-answered, taken-answered}
use Rattle.sheet_text.proofs.read_measures.Goals as goal

pub returns-then-sheet-ne-LENGTH : goal.returns-then-sheet-ne-LENGTH
returns-then-sheet-ne-LENGTH c =
    let all = size-answered c.args.sheet.now c.args.text.now c.if-sheet-ne-LENGTH.true in
    record { answer = all.0; after = all.1 }

pub returns-in_err-year-clause-answer : goal.returns-in_err-year-clause-answer
returns-in_err-year-clause-answer c =
    let all = refused-answered c.args.sheet.now c.args.text.now c.if-sheet-ne-LENGTH.false c.in_err-year.ensures in
    search rules

pub returns-in_err-year-clause-after : goal.returns-in_err-year-clause-after
returns-in_err-year-clause-after c =
    (refused-answered c.args.sheet.now c.args.text.now c.if-sheet-ne-LENGTH.false c.in_err-year.ensures).1

pub returns : goal.returns
returns c =
    let all = taken-answered c.args.sheet.now c.args.text.now c.if-sheet-ne-LENGTH.false c.in_ok-year.ensures _ c.fill.ensures in
    record { answer = all.0; after = all.1 }
