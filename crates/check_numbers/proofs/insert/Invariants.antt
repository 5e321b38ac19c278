-- The places of a run are passed one by one, and run after run, until the number is put.
use Rattle.check_numbers.proofs.Runs.{BeforeRun, AtStep}
use Rattle.check_numbers.proofs.insert.Given as goal

abbrev pub invariant-loop-step : goal.invariant-loop-step
invariant-loop-step l = AtStep l.initial.table l.table l.number.0 l._run l.at l._step

abbrev pub invariant-loop-run : goal.invariant-loop-run
invariant-loop-run l = BeforeRun l.initial.table l.table l.number.0 l.mixed l._run
