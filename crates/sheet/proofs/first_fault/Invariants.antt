-- No month before this one has a fault, and no place of it before this one.
use Prim.Native.Nat.{ℕ, ◌-◌, ◌≤◌, ◌<◌}
use mathlib.Core.Path.{◌≡◌}
use mathlib.Core.Bool.{false}
use Rattle.sheet.specs.YearSheet.{at_fault}
use Rattle.sheet.proofs.first_fault.Given as goal

abbrev pub invariant-loop-month : goal.invariant-loop-month
invariant-loop-month l = (l.month ≤ 12) × ((m : ℕ) → m < l.month → (p : ℕ) → p < 23 → at_fault l.s m p ≡ false)

abbrev pub decreases-loop-month : goal.decreases-loop-month
decreases-loop-month l = 12 - l.month

abbrev pub invariant-loop-place : goal.invariant-loop-place
invariant-loop-place l = (l.place ≤ 23) × ((p : ℕ) → p < l.place → at_fault l.s l.month p ≡ false)

abbrev pub decreases-loop-place : goal.decreases-loop-place
decreases-loop-place l = 23 - l.place
