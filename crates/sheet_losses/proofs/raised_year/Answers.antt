-- After each turn one month more is worked.
use Rattle.std.proofs.Common.{arith, rules, ◌≡◌}
use Rattle.sheet_losses.proofs.Years.{begins, next, ends, stops}
use Rattle.sheet_losses.proofs.raised_year.Goals as goal

pub loop-month-init : goal.loop-month-init
loop-month-init c = begins c.args.factor.thousandths c.args.sheet.now

pub loop-month-preserved : goal.loop-month-preserved
loop-month-preserved c = rw c.from.ensures (next c.args.factor.thousandths c.args.sheet.now c.loop-month.invariant c.loop-month-test.true _ _ c.in_ok-readings.ensures)

pub returns-in_err-readings : goal.returns-in_err-readings
returns-in_err-readings c =
    let stopped = stops c.args.factor.thousandths c.args.sheet.now c.loop-month.invariant c.loop-month-test.true c.in_err-readings.ensures in
    search rules

pub returns : goal.returns
returns c =
    let end : c.loop-month.month ≡ 12 = omega arith in
    ends c.args.factor.thousandths c.args.sheet.now (rw end at c.loop-month.invariant)
