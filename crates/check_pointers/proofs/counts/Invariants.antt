-- The counts so far are the sums over the records passed.
use Prim.Native.Nat.{ℕ, ◌≤◌, ◌<◌}
use mathlib.Core.Path.{◌≡◌}
use mathlib.Core.List.{List}
use lib.ListN.{length, get_or}
use Rattle.units.specs.Limits.{most_records}
use Rattle.units.specs.Folds.{sum_below}
use Rattle.book_rules.specs.Book.{pointers_from}
use Rattle.check_pointers.proofs.counts.Given as goal

pub record Counting (book : List ℕ) (records : ℕ) (counts : List ℕ) (j : ℕ) : Type 0 where
  pub from : 1 ≤ j
  pub within : j ≤ records
  pub long : length counts ≡ most_records
  pub counted : (m : ℕ) → m < most_records → get_or counts m 0 ≡ sum_below j (pointers_from book m)

abbrev pub invariant-loop-j : goal.invariant-loop-j
invariant-loop-j l = Counting l.book.bytes.now l.records l.counts l.j
