-- By the two cases of the month.
use Rattle.std.proofs.Common.{arith}
use Rattle.std.proofs.lemmas.Bool.Decides.{nat_tests}
use Rattle.calendar.specs.ElectionAndAdvances.{is_day}
use Rattle.calendar.proofs.Day.is_gregorian.Goals.{then-contains, else-contains}
use Rattle.calendar.proofs.Day.is_gregorian.Goals as goal

pub returns-then-self-ge1 : goal.returns-then-self-ge1
unfolding is_day
returns-then-self-ge1 c = elim c.if-contains.branch [ then-contains w ↦ grind (arith, nat_tests) | else-contains w ↦ grind (arith, nat_tests) ]
