-- Sizes and kWh are looked at before the first byte is written.
use Rattle.std.proofs.Common.{◌≡◌, rules}
use Rattle.sheet_text.proofs.SheetAbove.{sizes-of}
use Rattle.sheet_text.proofs.WriteCalls.{sizes-right, sizes-answered, above-answered, text-answered}
use Rattle.sheet_text.proofs.write_measures.Goals as goal

pub returns-then-sheet-text : goal.returns-then-sheet-text
returns-then-sheet-text c =
    let all = sizes-answered c.args.sheet.now c.args.text.now c.if-sheet-text.true in
    record { answer = all.0; after = all.1 }

pub unwrap-whole-requires : goal.unwrap-whole-requires
unwrap-whole-requires c =
    let long = (sizes-of c.args.sheet.now c.args.text.now (sizes-right c.args.sheet.now c.args.text.now c.if-sheet-text.false)).0 in
    search rules

pub returns-in-Some : goal.returns-in-Some
returns-in-Some c =
    let same : c.unwrap-whole.result.now ≡ c.args.sheet.now = search rules in
    let all = above-answered c.args.sheet.now c.args.text.now c.if-sheet-text.false (rw same at c.in-Some.ensures) in
    record { answer = all.0; after = all.1 }

pub write_lines-requires : goal.write_lines-requires
write_lines-requires c =
    let same : c.unwrap-whole.result.now ≡ c.args.sheet.now = search rules in
    (rw same (sizes-right c.args.sheet.now c.args.text.now c.if-sheet-text.false), c.in_default.ensures)

pub returns : goal.returns
returns c =
    let same : c.unwrap-whole.result.now ≡ c.args.sheet.now = search rules in
    let put = rw same at c.write_lines.ensures in
    let all = text-answered c.args.sheet.now c.args.text.now c.if-sheet-text.false (rw same at c.in_default.ensures) _ _ put.end put.stands in
    record { answer = all.0; after = all.1 }
