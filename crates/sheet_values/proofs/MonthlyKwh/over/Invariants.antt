-- `over` is held to `sum_below`: a running sum.
use Prim.Native.Nat.{◌+◌, ◌*◌}
use Rattle.units.specs.Limits.{max_kwh}
use Rattle.units.proofs.Folds.{Summing}
use Rattle.sheet_prices.specs.InnerArrays.{energy_at}
use Rattle.sheet_values.proofs.MonthlyKwh.over.Given as goal

abbrev pub invariant-loop-kwh : goal.invariant-loop-kwh
invariant-loop-kwh l =
    Summing (λ j. energy_at (l.fn.stretch.from + j) l.fn.self.months) l.fn.stretch.count (3 * max_kwh * l.kwh-index) l.kwh-index l.sum
