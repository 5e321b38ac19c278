-- The records that were passed keep their own rules.
use Rattle.std.proofs.Common.{◌≡◌, ℕ, ◌≤◌, ◌<◌, true}
use Rattle.book_rules.specs.Book.{own_rules_fit}
use Rattle.check_pass.proofs.first_broken.Given as goal

abbrev pub invariant-loop-i : goal.invariant-loop-i
invariant-loop-i l = (j : ℕ) → 1 ≤ j → j < l.i → own_rules_fit l.book.bytes.now j ≡ true
