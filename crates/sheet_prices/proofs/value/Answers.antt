-- `value` is held to `value_of`: the rows of the sheet, month by month.
use Prim.Native.Nat.{ℕ}
use mathlib.Core.Path.{◌≡◌, ap, ◌∙◌}
use lib.Dec.{eqb}
use Rattle.units.specs.Units.{ticks}
use Rattle.sheet.specs.YearSheet.{by_bands, injected_reading}
use Rattle.sheet_prices.specs.InnerArrays.{PriceRows, prices_in, series_of}
use Rattle.sheet_prices.proofs.SheetRows.{rows-value}
use Rattle.sheet_prices.proofs.value.Goals as goal

pub returns : goal.returns
returns c =
    let s = c.args.sheet.bytes.now in
    let reading = ap (λ (n : ℕ). series_of (eqb n 1) c.args.island c.args.photovoltaic) c.injected_reading-bands.ensures in
    let series : c.of-series.result ≡ series_of (by_bands (injected_reading s)) c.args.island c.args.photovoltaic = c.of-series.ensures ∙ reading in
    let priced : PriceRows (prices_in s (series_of (by_bands (injected_reading s)) c.args.island c.args.photovoltaic)) c.of-2.result.months = rw series at c.of-2.ensures in
    let value = c.year_value.ensures in
    record { is = value.is ∙ ap ticks (rows-value s c.args.island c.args.photovoltaic c.of.result.months c.of-2.result.months c.of.ensures priced); most = value.most }
