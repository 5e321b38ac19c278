-- The energies of a sheet that has passed are within their limits.
use Rattle.sheet_prices.proofs.SheetRows.{energies_fit}
use Rattle.sheet_prices.proofs.Energies.of.Goals as goal

pub invariant_of-result : goal.invariant_of-result
invariant_of-result c =
    let sheet = c.args.sheet in
    record { within = energies_fit sheet.bytes.now sheet.passed c.args.reading c.energy_rows-months.result (rw c.first_place.ensures.is at c.energy_rows-months.ensures) }
