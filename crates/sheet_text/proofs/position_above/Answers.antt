-- No month passed has a kWh above its limit.
use Rattle.std.proofs.Common.{arith, ◌≡◌}
use Rattle.sheet_text.specs.Lines.{months}
use Rattle.sheet_text.proofs.SheetAbove.{none_yet, month-within, month-found, none-found-at-all}
use Rattle.sheet_text.proofs.position_above.Goals as goal

pub loop-month-init : goal.loop-month-init
loop-month-init c = none_yet c.args.sheet.now

pub returns-in-Some : goal.returns-in-Some
returns-in-Some c =
    month-found c.args.sheet.now c.loop-month.month _ c.month_of.ensures c.loop-month-test.true c.loop-month.invariant c.in-Some.ensures c.at.ensures

pub loop-month-preserved : goal.loop-month-preserved
loop-month-preserved c = month-within c.args.sheet.now c.loop-month.month _ c.month_of.ensures c.loop-month.invariant c.in_default.ensures

pub returns : goal.returns
returns c =
    let end : c.loop-month.month ≡ months = omega arith in
    none-found-at-all c.args.sheet.now (rw end at c.loop-month.invariant)
