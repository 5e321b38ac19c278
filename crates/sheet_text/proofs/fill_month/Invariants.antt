-- Place by place.
use Prim.Native.Nat.{◌-◌}
use Rattle.sheet_text.specs.Lines.{readings}
use Rattle.sheet_text.specs.Reading.{month_filled}
use Rattle.sheet_text.specs.InnerSteps.{kwh_of}
use Rattle.units.proofs.Filled.{Written}
use Rattle.sheet_text.proofs.fill_month.Given as goal

abbrev pub invariant-loop-place : goal.invariant-loop-place
invariant-loop-place l = Written readings l.place l.initial.sheet l.sheet (month_filled (kwh_of l.kwh) l.month
    l.place l.initial.sheet)

abbrev pub decreases-loop-place : goal.decreases-loop-place
decreases-loop-place l = readings - l.place
