-- The months' energies of a sheet that has passed.
use Rattle.sheet_values.proofs.SheetEnergies.{months-of, months-fit}
use Rattle.sheet_values.proofs.MonthlyKwh.of.Goals as goal

pub invariant_of-result : goal.invariant_of-result
invariant_of-result c =
    record { within = months-fit c.of.result.months c.totals_of-months.result c.of.result.within c.totals_of-months.ensures }

pub returns : goal.returns
returns c = months-of c.args.sheet.bytes.now c.args.reading c.of.result.months c.totals_of-months.result c.of.ensures c.totals_of-months.ensures
