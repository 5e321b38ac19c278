-- The prices of a sheet that has passed are within their limits.
use Rattle.sheet_prices.proofs.SheetRows.{prices_fit}
use Rattle.sheet_prices.proofs.Prices.of.Goals as goal

pub invariant_of-result : goal.invariant_of-result
invariant_of-result c =
    let sheet = c.args.sheet in
    record { within = prices_fit sheet.bytes.now sheet.passed c.args.series c.price_rows-months.result c.price_rows-months.ensures }
