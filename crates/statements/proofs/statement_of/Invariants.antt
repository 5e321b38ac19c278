-- The walk of `Walk`: it begins with all entries ahead, and each turn adds one.
use Rattle.std.proofs.Common.{◌≡◌}
use Rattle.statements.proofs.Walk.{Walking}
use Rattle.statements.proofs.statement_of.Given as goal

abbrev pub invariant-loop-entry : goal.invariant-loop-entry
invariant-loop-entry l =
    (goal.iterator-loop-entry).can_next l.entry-iterator
    × (goal.iterator-loop-entry).is_finite l.entry-iterator
    × (l.entry-iterator.book ≡ l.user.book)
    × Walking l.entry-iterator.book.bytes.now l.user.index.0 l.sums l.entry-iterator.at.0
