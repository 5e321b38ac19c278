-- Year after year.
use Prim.Native.Nat.{◌≤◌}
use Rattle.account_years.proofs.Years.{Credited}
use Rattle.account_years.proofs.credit_after_years.Given as goal

abbrev pub invariant-loop-n : goal.invariant-loop-n
invariant-loop-n l = (l.n ≤ l.years) × Credited l.user.book.bytes.now l.user.index.0 l.n l.credit.0
