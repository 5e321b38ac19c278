-- The price that stands in the month's row.
use mathlib.Core.Path.{ap, ◌∙◌}
use Rattle.sheet_prices.specs.InnerArrays.{prices_in}
use Rattle.sheet_prices.specs.declared.Series.{Series}
use Rattle.sheet_prices.proofs.SheetRows.{price-row-is}
use Rattle.sheet.specs.YearSheet.{by_bands}
use Rattle.sheet_values.specs.YearsValues.{on_island, is_photovoltaic}
use Rattle.sheet_more_sun.proofs.Answer.{price-read}
use Rattle.sheet_more_sun.proofs.price_of.Goals as goal

pub returns : goal.returns
returns c =
    let a = c.args in
    let s = a.sheet.bytes.now in
    let r = c.injected_reading-bands in
    let row = c.price_row.ensures ∙ ap (λ (x : Series). prices_in s x a.month) c.of-series.ensures
    ∙ price-row-is s (by_bands r.result) (on_island a.details) (is_photovoltaic a.details) a.month in
    price-read s a.sheet.passed a.details a.month a.band c.requires.field_stands r.result r.ensures c.price_row.result row
