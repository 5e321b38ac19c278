-- `year_value` is held to `sum_below`: a running sum of the months.
use Prim.Native.Nat.{◌-◌, ◌*◌}
use mathlib.Core.List.{[]}
use lib.ListN.{get_or}
use Rattle.units.specs.Limits.{max_kwh, max_price}
use Rattle.units.proofs.Folds.{Summing}
use Rattle.sheet_prices.specs.InnerArrays.{row_value}
use Rattle.sheet_prices.proofs.year_value.Given as goal

abbrev pub invariant-loop-month : goal.invariant-loop-month
invariant-loop-month l =
    Summing (λ m. row_value (get_or l.energies.months m []) (get_or l.prices.months m [])) 12 (3 * (max_kwh * max_price) * l.month) l.month l.sum.0

abbrev pub decreases-loop-month : goal.decreases-loop-month
decreases-loop-month l = 12 - l.month
