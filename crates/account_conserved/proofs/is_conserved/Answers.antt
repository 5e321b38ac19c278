-- By the two sides of the comparison as numbers.
use Rattle.std.proofs.Common.{arith}
use Rattle.std.proofs.lemmas.Int.{ints}
use Rattle.std.proofs.lemmas.Bool.Decides.{nat_tests}
use Rattle.account_conserved.proofs.is_conserved.Goals as goal

pub returns : goal.returns
returns c = grind (arith, nat_tests, ints)
