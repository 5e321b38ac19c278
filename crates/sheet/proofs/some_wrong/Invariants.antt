-- `some_wrong` is held to `any_below`: the months by a running test.
use Prim.Native.Nat.{◌-◌, ◌≤◌}
use mathlib.Core.Path.{◌≡◌}
use Rattle.units.specs.Folds.{any_below}
use Rattle.sheet.specs.YearSheet.{at_fault}
use Rattle.sheet.proofs.some_wrong.Given as goal

abbrev pub invariant-loop-month : goal.invariant-loop-month
invariant-loop-month l = (l.month ≤ 12) × (l.wrong ≡ any_below l.month (λ m. any_below 23 (λ p. at_fault l.s m p)))

abbrev pub decreases-loop-month : goal.decreases-loop-month
decreases-loop-month l = 12 - l.month
