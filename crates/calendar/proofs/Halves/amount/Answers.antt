-- The run of the two shares, which fit together.
use Rattle.std.proofs.Common.{ap, ◌∙◌}
use Rattle.units.specs.declared.Ticks.{Ticks}
use Rattle.units.specs.Units.{ticks}
use Rattle.calendar.specs.ElectionAndAdvances.{paid_of}
use Rattle.calendar.proofs.Amounts.{run-of-shares}
use Rattle.calendar.proofs.Halves.amount.Goals as goal

pub returns : goal.returns
returns c =
    let first = c.share-first.ensures in
    let later = c.share-second.ensures in
    run-of-shares _ _ _ _ first.amount later.amount first.most later.most
    (c.paid_of.ensures ∙ ap (λ (t : Ticks). ticks (paid_of t.0)) c.add.ensures)
