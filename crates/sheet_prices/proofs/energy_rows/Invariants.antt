-- `energy_rows` is held to `EnergyRows`: the rows are filled month by month.
use Prim.Native.Nat.{◌-◌}
use mathlib.Core.List.{[]}
use Rattle.units.proofs.Filled.{Filling}
use Rattle.sheet_prices.specs.InnerArrays.{energy_row}
use Rattle.sheet_prices.proofs.energy_rows.Given as goal

abbrev pub invariant-loop-month : goal.invariant-loop-month
invariant-loop-month l = Filling [] (energy_row l.s l.place) 12 l.month l.rows

abbrev pub decreases-loop-month : goal.decreases-loop-month
decreases-loop-month l = 12 - l.month
