-- The walk of `PaidOut`: each turn adds what an entry pays.
use Rattle.std.proofs.Common.{◌≡◌}
use Rattle.account_years.proofs.PaidOut.{Paying}
use Rattle.account_years.proofs.payments_of.Given as goal

abbrev pub invariant-loop-entry : goal.invariant-loop-entry
invariant-loop-entry l =
    (goal.iterator-loop-entry).can_next l.entry-iterator
    × (goal.iterator-loop-entry).is_finite l.entry-iterator
    × (l.entry-iterator.book ≡ l.user.book)
    × Paying l.entry-iterator.book.bytes.now l.user.index.0 l.first l.last l.payments l.entry-iterator.at.0
