-- `annual_rates` is held to `Rates`: the rates are filled tier by tier.
use Prim.Native.Nat.{◌-◌}
use Rattle.units.specs.Units.{rate}
use Rattle.units.proofs.Filled.{Filling}
use Rattle.sheet_values.specs.YearsValues.{annual_rate}
use Rattle.sheet_values.proofs.annual_rates.Given as goal

abbrev pub invariant-loop-tier : goal.invariant-loop-tier
invariant-loop-tier l =
    Filling (rate 0) (λ t. rate (annual_rate l.sheet.bytes.now l.plant.kind l.plant.power l.stretch.from l.stretch.count t)) 4 l.tier l.rates

abbrev pub decreases-loop-tier : goal.decreases-loop-tier
decreases-loop-tier l = 4 - l.tier
