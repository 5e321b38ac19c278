-- The places by a running test.
use Prim.Native.Nat.{◌-◌, ◌≤◌}
use mathlib.Core.Path.{◌≡◌}
use Rattle.units.specs.Folds.{any_below}
use Rattle.sheet.specs.YearSheet.{at_fault}
use Rattle.sheet.proofs.month_wrong.Given as goal

abbrev pub invariant-loop-place : goal.invariant-loop-place
invariant-loop-place l = (l.place ≤ 23) × (l.wrong ≡ any_below l.place (λ p. at_fault l.s l.month p))

abbrev pub decreases-loop-place : goal.decreases-loop-place
decreases-loop-place l = 23 - l.place
