-- What is held of the lines lies within the lent bytes, from line to line.
use Rattle.input.specs.LentLines.{HeldWithin}
use Rattle.vectors.proofs.run.Given as goal

abbrev pub invariant-loop : goal.invariant-loop
invariant-loop l = HeldWithin l.lent l.held
