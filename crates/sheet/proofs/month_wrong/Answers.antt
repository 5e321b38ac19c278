-- The places by a running test.
use mathlib.Core.Path.{sym}
use Rattle.units.proofs.Folds.{any-zero, any_next}
use Rattle.sheet.specs.YearSheet.{at_fault}
use Rattle.std.proofs.Common.{rules}
use Rattle.sheet.proofs.month_wrong.Goals as goal

pub loop-place-init : goal.loop-place-init
loop-place-init c = (search rules, sym (any-zero (λ p. at_fault c.args.s.now c.args.month p)))

pub loop-place-preserved : goal.loop-place-preserved
loop-place-preserved c =
    let l = c.loop-place in
    let a = c.args in
    (search rules, any_next l.place (λ p. at_fault a.s.now a.month p) l.invariant.1 c.at_fault-wrong.ensures)
