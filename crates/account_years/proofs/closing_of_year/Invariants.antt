-- The walk of `Walk`: an entry that is not the closing of the year is left behind.
use Rattle.std.proofs.Common.{◌≡◌}
use Rattle.account_years.proofs.Walk.{Seeking}
use Rattle.account_years.proofs.closing_of_year.Given as goal

abbrev pub invariant-loop-entry : goal.invariant-loop-entry
invariant-loop-entry l =
    (goal.iterator-loop-entry).can_next l.entry-iterator
    × (goal.iterator-loop-entry).is_finite l.entry-iterator
    × (l.entry-iterator.book ≡ l.user.book)
    × Seeking l.entry-iterator.book.bytes.now l.user.index.0 l.year l.entry-iterator.at.0
