-- The walk of `Walk`: it begins with all lines ahead, and each turn writes one.
use Rattle.std.proofs.Common.{◌≡◌}
use Rattle.listing_text.proofs.Walk.{Walking}
use Rattle.listing_text.proofs.write_lines.Given as goal

abbrev pub invariant-loop-user : goal.invariant-loop-user
invariant-loop-user l =
    (goal.iterator-loop-user).can_next l.user-iterator
    × (goal.iterator-loop-user).is_finite l.user-iterator
    × (l.user-iterator.book ≡ l.book)
    × Walking l.user-iterator.book.bytes.now l.initial.out l.out l.end l.user-iterator.at.0
