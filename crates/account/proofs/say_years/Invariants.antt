-- At most 87 years.
use Rattle.std.proofs.Common.{◌≤◌}
use Rattle.units.specs.Limits.{most_years}
use Rattle.account.proofs.say_years.Given as goal

abbrev pub invariant-loop-n : goal.invariant-loop-n
invariant-loop-n l = (l.n ≤ l.n-end) × (l.n-end ≤ most_years)
