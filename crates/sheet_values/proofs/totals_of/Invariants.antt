-- The totals are filled month by month.
use Prim.Native.Nat.{◌-◌}
use mathlib.Core.List.{[]}
use lib.ListN.{get_or}
use Rattle.units.specs.Units.{kwh}
use Rattle.units.proofs.Filled.{Filling}
use Rattle.sheet_prices.specs.InnerArrays.{row_total}
use Rattle.sheet_values.proofs.totals_of.Given as goal

abbrev pub invariant-loop-month : goal.invariant-loop-month
invariant-loop-month l = Filling (kwh 0) (λ m. kwh (row_total (get_or l.energies.months m []))) 12 l.month l.totals

abbrev pub decreases-loop-month : goal.decreases-loop-month
decreases-loop-month l = 12 - l.month
