-- The places of a run are passed one by one, and run after run, until the number is put.
use lib.ListN.{length-set}
use Rattle.check_numbers.proofs.Runs.{first_run, first_step, next-step, length-kept, put-at-step, next-run}
use Rattle.std.proofs.Common.{rules}
use Rattle.check_numbers.proofs.insert.Goals as goal

pub loop-run-init : goal.loop-run-init
loop-run-init c = first_run c.args.table.now c.args.number.0

pub loop-step-init : goal.loop-step-init
loop-step-init c = first_step c.loop-run.invariant c.remix-mixed.ensures c.start_of-at.ensures.is c.start_of-at.ensures.within

pub returns-then-there-eq0 : goal.returns-then-there-eq0
returns-then-there-eq0 c =
    let b = c.loop-run.invariant in
    record {
      size = rw length-set (length-kept b c.loop-step.invariant);
      inserted = λ r. put-at-step b c.loop-step.invariant (search rules) c.requires.number_nonzero c.if-there-eq0.true;
    }

pub loop-step-preserved : goal.loop-step-preserved
loop-step-preserved c =
    let after = c.place_after-at.ensures in
    next-step c.loop-step.invariant (search rules) after.is after.within c.if-there-eq0.false c.if-there-number.false

pub loop-run-preserved : goal.loop-run-preserved
loop-run-preserved c =
    next-run c.loop-run.invariant c.loop-step.invariant c.remix-mixed.ensures c.loop-step-test.false
