-- `monthly_flat_rate` is held to `sum_below`: a running sum of the months.
use Prim.Native.Nat.{◌+◌, ◌-◌, ◌*◌}
use Rattle.units.specs.Limits.{max_kwh, max_tier_rate}
use Rattle.units.proofs.Folds.{Summing}
use Rattle.sheet_values.specs.YearsValues.{month_flat_rate}
use Rattle.sheet_values.proofs.YearEnergies.monthly_flat_rate.Given as goal

abbrev pub invariant-loop-i : goal.invariant-loop-i
invariant-loop-i l =
    Summing (λ j. month_flat_rate l.self.sheet.bytes.now l.plant.kind l.plant.power (l.stretch.from + j)) l.stretch.count
    (max_tier_rate * (3 * max_kwh) * l.i) l.i l.sum.0

abbrev pub decreases-loop-i : goal.decreases-loop-i
decreases-loop-i l = l.stretch.count - l.i
