-- What is written and the lines of the users ahead are those of all users.
use Rattle.std.proofs.Common.{◌≡◌}
use Rattle.std.specs.String.{string_bytes}
use Rattle.listing_text.proofs.Lines.{Listing}
use Rattle.listing_text.proofs.lines_of.Given as goal

abbrev pub invariant-loop-user : goal.invariant-loop-user
invariant-loop-user l =
    (goal.iterator-loop-user).can_next l.user-iterator
    × (goal.iterator-loop-user).is_finite l.user-iterator
    × (l.user-iterator.book ≡ l.book)
    × Listing l.user-iterator.book.bytes.now (string_bytes l.text) l.user-iterator.at.0
