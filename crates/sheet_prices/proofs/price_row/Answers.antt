-- The prices of the part that applies.
use mathlib.Core.Path.{◌≡◌}
use Rattle.std.proofs.Common.{rules}
use Rattle.sheet_prices.proofs.PriceParts.{pun_part, zone_part, row-by-bands, row-of-one}
use Rattle.sheet_prices.specs.InnerArrays.{series_part}
use Rattle.sheet_prices.proofs.price_row.Goals as goal

pub returns-in-PunBands : goal.returns-in-PunBands
returns-in-PunBands c =
    let a = c.args in
    let s = a.sheet.now in
    let lent : c.series_part-prices.result.now ≡ series_part a.series (zone_part s a.month) (pun_part s a.month) = search rules in
    row-by-bands s c.series_part-prices.result.now a.series a.month _ _ _ c.in-PunBands.is lent c.rate_at.ensures
    c.rate_at-in-PunBands.ensures c.rate_at-in-PunBands-2.ensures

pub returns-in_default : goal.returns-in_default
returns-in_default c =
    let a = c.args in
    let s = a.sheet.now in
    let lent : c.series_part-prices.result.now ≡ series_part a.series (zone_part s a.month) (pun_part s a.month) = search rules in
    row-of-one s c.series_part-prices.result.now a.series a.month _ c.in_default.not-PunBands c.in_default.not-ZoneBands lent
    c.rate_at-in_default.ensures
