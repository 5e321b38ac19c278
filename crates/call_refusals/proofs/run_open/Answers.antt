-- A year that is not open, or a run that is none, decides; else what is due and made of the run's year.
use mathlib.Core.Path.{◌∙◌, sym}
use Rattle.call_refusals.proofs.RunsOpen.{run-open, run-shut, year-below}
use Rattle.call_refusals.proofs.run_open.Goals as goal

pub run_due-requires : goal.run_due-requires
run_due-requires c =
    let named = sym c.run_named.ensures ∙ c.if-run_named.true in
    let a = c.args in
    year-below a.a a.year a.run named

pub returns-then-run_named : goal.returns-then-run_named
returns-then-run_named c =
    let named = sym c.run_named.ensures ∙ c.if-run_named.true in
    let a = c.args in
    c.run_due.ensures ∙ run-open a.a a.year a.run named

pub returns-else-run_named : goal.returns-else-run_named
returns-else-run_named c =
    let named = sym c.run_named.ensures ∙ c.if-run_named.false in
    let a = c.args in
    run-shut a.a a.year a.run named
