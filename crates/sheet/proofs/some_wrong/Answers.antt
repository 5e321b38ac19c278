-- `some_wrong` is held to `any_below`: the months by a running test.
use mathlib.Core.Path.{sym}
use Rattle.units.proofs.Folds.{any-zero, any_next}
use Rattle.units.specs.Folds.{any_below}
use Rattle.sheet.specs.YearSheet.{at_fault}
use Rattle.std.proofs.Common.{rules}
use Rattle.sheet.proofs.some_wrong.Goals as goal

pub loop-month-init : goal.loop-month-init
loop-month-init c = (search rules, sym (any-zero (λ m. any_below 23 (λ p. at_fault c.args.s.now m p))))

pub loop-month-preserved : goal.loop-month-preserved
loop-month-preserved c =
    let l = c.loop-month in
    let a = c.args in
    (search rules, any_next l.month (λ m. any_below 23 (λ p. at_fault a.s.now m p)) l.invariant.1 c.month_wrong-wrong.ensures)
