-- One read more stands behind what was read, and is what the reader had next.
use Rattle.std.proofs.Common.{[], refl, ◌∙◌}
use Rattle.std.proofs.KnownBytes.{Consumes-more}
use Rattle.input.proofs.read_book.Goals as goal

pub loop-filled-preserved : goal.loop-filled-preserved
loop-filled-preserved g c =
    let before = c.loop-filled.invariant in
    let step = c.in_ok-read_behind.ensures in
    record {
      same = step.same ∙ before.same;
      within = step.within;
      taken = Consumes-more _ _ _ [] _ _ refl step.appends before.taken step.taken;
    }
