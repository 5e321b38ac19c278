-- The energies of the sheet's months.
use Rattle.sheet_values.proofs.SheetEnergies.{exchanged-months}
use Rattle.sheet_values.proofs.YearEnergies.of.Goals as goal

pub invariant_of-result : goal.invariant_of-result
invariant_of-result c =
    let w = c.of-withdrawn in
    let i = c.of-injected in
    let e = c.smaller_of-months in
    record {
      withdrawn_are = w.ensures;
      injected_are = i.ensures;
      exchanged_are = exchanged-months c.args.sheet.bytes.now w.result.months i.result.months e.result w.ensures i.ensures e.ensures;
    }
