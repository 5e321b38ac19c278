-- The count at the record that the pointer leads to is one more, and the others stay.
use Prim.Native.Nat.{ℕ, ◌+◌, ◌<◌}
use mathlib.Core.Path.{◌≡◌, sym, ◌∙◌}
use mathlib.Core.List.{List}
use Rattle.book_rules.specs.Book.{hits}
use native.Mathlib.Nat.{add-zero}
use native.Mathlib.Decide.{ℕ_discrete}
use native.Mathlib.Omega.{arith}
use lib.ListN.{length, get_or, set, length-set}
use lib.Seq.{get_or-set_same, get_or-set_other}
use Rattle.book_rules.proofs.Hits.{hits-same, hits-other}
use Rattle.check_pointers.proofs.count.Goals as goal

counted : (xs : List ℕ) (p m : ℕ) → p < length xs → get_or (set xs p (get_or xs p 0 + 1)) m 0 ≡ get_or xs m 0 + hits p m
counted xs p m l = by-target (ℕ_discrete p m)
  where
    by-target : Dec (p ≡ m) → get_or (set xs p (get_or xs p 0 + 1)) m 0 ≡ get_or xs m 0 + hits p m
    by-target (yes e) = rw (hits-same p m e, ← e) (get_or-set_same xs p (get_or xs p 0 + 1) 0 l)
    by-target (no n) =
        rw (hits-other p m n, add-zero (get_or xs m 0)) (get_or-set_other xs p m (get_or xs p 0 + 1) 0 (λ e. n (sym e)))

uncounted : (xs : List ℕ) (p m : ℕ) → m < p → get_or xs m 0 ≡ get_or xs m 0 + hits p m
uncounted xs p m l = rw (hits-other p m (omega arith)) (omega arith)

pub returns-then-to-lt-MOST_RECORDS : goal.returns-then-to-lt-MOST_RECORDS
returns-then-to-lt-MOST_RECORDS c =
    record {
      size = length-set c.args.counts.now c.args.pointer.0 _ ∙ c.requires.counts_length;
      counted = λ m h. counted c.args.counts.now c.args.pointer.0 m (omega arith);
    }

pub returns-else-to-lt-MOST_RECORDS : goal.returns-else-to-lt-MOST_RECORDS
returns-else-to-lt-MOST_RECORDS c =
    record { size = c.requires.counts_length; counted = λ m h. uncounted c.args.counts.now c.args.pointer.0 m (omega arith) }
