-- The months are filled one by one.
use Prim.Native.Nat.{◌-◌, min}
use Rattle.units.specs.Units.{kwh}
use Rattle.units.proofs.Filled.{Filling}
use Rattle.sheet_prices.specs.InnerArrays.{energy_at}
use Rattle.sheet_values.proofs.smaller_of.Given as goal

abbrev pub invariant-loop-month : goal.invariant-loop-month
invariant-loop-month l =
    Filling (kwh 0) (λ m. kwh (min (energy_at m l.withdrawn) (energy_at m l.injected))) 12 l.month l.months

abbrev pub decreases-loop-month : goal.decreases-loop-month
decreases-loop-month l = 12 - l.month
