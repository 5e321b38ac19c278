-- What is held of the lines lies within the lent bytes from line to line, and so does the book within its room.
use Rattle.std.proofs.Common.{◌≤◌}
use Rattle.input.specs.LentLines.{HeldWithin}
use Rattle.replay_script.specs.Requests.{longest_book}
use Rattle.replay.proofs.run.Given as goal

abbrev pub invariant-loop : goal.invariant-loop
invariant-loop l = record {
  held : HeldWithin l.lent l.held;
  book : l.book.count ≤ longest_book;
}
