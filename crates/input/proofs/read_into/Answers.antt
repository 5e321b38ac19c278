-- One read more stands behind what was held, and is what the reader had next.
use Rattle.std.proofs.Common.{rules}
use Rattle.std.proofs.KnownBytes.{Consumes-more}
use Rattle.std.proofs.Transfers.{starts_with_trans}
use Rattle.input.proofs.read_into.Goals as goal

pub loop-left-preserved : goal.loop-left-preserved
loop-left-preserved g c =
    let before = c.loop-left.invariant in
    let step = c.in_ok-count.ensures in
    record {
      count = search rules;
      appends = starts_with_trans _ _ _ step.appends before.appends;
      taken = Consumes-more _ _ _ _ _ _ before.appends step.appends before.taken step.taken;
    }
