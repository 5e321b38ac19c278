-- Every sum on the way fits 64 bits.
use Rattle.std.proofs.Common.{arith}
use Rattle.std.proofs.lemmas.Int.{ints}
use Rattle.account_conserved.specs.Conservation.{conserved_in}
use Rattle.account_conserved.proofs.conserved_sum.Goals as goal

pub returns : goal.returns
unfolding conserved_in
returns c = omega (arith, ints)
