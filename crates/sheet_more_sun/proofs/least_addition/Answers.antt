-- By the numbers that are read from the sheet.
use Rattle.sheet_more_sun.proofs.Answer.{in-limits, answered}
use Rattle.sheet_more_sun.proofs.least_addition.Goals as goal

pub least_for-requires : goal.least_for-requires
least_for-requires c =
    let a = c.args in
    let p = c.price_of-price in
    let f = c.number in
    let o = c.cost-cost in
    let v = c.value-value in
    in-limits a.sheet.bytes.now a.sheet.passed a.details a.month a.band c.requires.field_stands p.result p.ensures f.result f.ensures o.result v.result o.ensures v.ensures

pub returns : goal.returns
returns c =
    let a = c.args in
    let p = c.price_of-price in
    let f = c.number in
    let o = c.cost-cost in
    let v = c.value-value in
    answered a.sheet.bytes.now a.sheet.passed a.details a.month a.band c.requires.field_stands p.result p.ensures f.result f.ensures o.result v.result o.ensures v.ensures
    c.least_for.result c.least_for.ensures
