-- `domestic_excess` is held to `refused14`: the months by a running test.
use Prim.Native.Nat.{◌-◌, ◌≤◌}
use mathlib.Core.Path.{◌≡◌}
use lib.Dec.{ltb}
use Rattle.units.specs.Folds.{any_below}
use Rattle.tariff.specs.Tariff.{monthly_threshold}
use Rattle.sheet.specs.YearSheet.{month_withdrawn}
use Rattle.sheet.proofs.domestic_excess.Given as goal

abbrev pub invariant-loop-month : goal.invariant-loop-month
invariant-loop-month l = (l.month ≤ 12) × (l.above ≡ any_below l.month (λ m. ltb monthly_threshold (month_withdrawn l.s m)))

abbrev pub decreases-loop-month : goal.decreases-loop-month
decreases-loop-month l = 12 - l.month
