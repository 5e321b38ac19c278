-- `fill` is held to `filled`: month by month.
use Prim.Native.Nat.{◌-◌}
use Rattle.sheet_text.specs.Lines.{months}
use Rattle.sheet_text.specs.Reading.{months_filled}
use Rattle.sheet_text.specs.InnerSteps.{kwh_of_year}
use Rattle.units.proofs.Filled.{Written}
use Rattle.sheet_text.proofs.fill.Given as goal

abbrev pub invariant-loop-month : goal.invariant-loop-month
invariant-loop-month l = Written months l.month l.initial.sheet l.sheet (months_filled (kwh_of_year l.year) l.month
    l.initial.sheet)

abbrev pub decreases-loop-month : goal.decreases-loop-month
decreases-loop-month l = months - l.month
