-- Every index before this one has had its turn: what it has seen is good, or not before `bad`.
use Rattle.std.proofs.Common.{◌≡◌}
use Rattle.check_book.proofs.Homes.{EntriesMet, ahead}
use Rattle.check_book.proofs.Turns.{UsersMet}
use Rattle.check_book.proofs.faulty_record.Given as goal

abbrev pub invariant-entries : goal.invariant-entries
invariant-entries l = (l.bad ≡ l.initial.bad) × EntriesMet l.book.bytes.now l.initial.bad l.i l.next

abbrev pub decreases-entries : goal.decreases-entries
decreases-entries l = ahead l.records l.next

abbrev pub invariant-users : goal.invariant-users
invariant-users l = UsersMet l.book.bytes.now l.seen l.all_seen l.bad l.i
