-- `find_user` is held to `found_user`: from the last record down.
use Rattle.check_lookup.proofs.Search.{Searched}
use Rattle.check_lookup.proofs.find_user.Given as goal

abbrev pub invariant-loop-i : goal.invariant-loop-i
invariant-loop-i l = Searched l.book l.number.0 l.i
