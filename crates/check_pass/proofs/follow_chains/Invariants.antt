-- From the last record down, as the chains lead.
use lib.ListN.{length}
use Rattle.check_pass.proofs.Following.{Following}
use Rattle.check_pass.proofs.follow_chains.Given as goal

abbrev pub invariant-loop-i : goal.invariant-loop-i
invariant-loop-i l =
    Following l.book.used.bytes.now l.wanted.0 (length l.initial.dues) (length l.initial.seen) l.i l.expected.0 l.found l.dues l.seen
