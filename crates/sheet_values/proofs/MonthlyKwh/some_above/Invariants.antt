-- A running test.
use Prim.Native.Nat.{◌+◌, ◌≤◌}
use mathlib.Core.Path.{◌≡◌}
use lib.Dec.{ltb}
use Rattle.units.specs.Folds.{any_below}
use Rattle.tariff.specs.Tariff.{monthly_threshold}
use Rattle.sheet_prices.specs.InnerArrays.{energy_at}
use Rattle.sheet_values.proofs.MonthlyKwh.some_above.Given as goal

abbrev pub invariant-loop-kwh : goal.invariant-loop-kwh
invariant-loop-kwh l =
    (l.kwh-index ≤ l.fn.stretch.count)
    × (l.above ≡ any_below l.kwh-index (λ j. ltb monthly_threshold (energy_at (l.fn.stretch.from + j) l.fn.self.months)))
