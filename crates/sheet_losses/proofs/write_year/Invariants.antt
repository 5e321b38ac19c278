-- After each turn one month more stands in the sheet.
use Prim.Native.Nat.{◌-◌}
use Rattle.sheet_losses.specs.Losses.{with_injected}
use Rattle.sheet_losses.specs.InnerSteps.{readings_in}
use Rattle.units.proofs.Filled.{Written}
use Rattle.sheet_losses.proofs.write_year.Given as goal

abbrev pub invariant-loop-month : goal.invariant-loop-month
invariant-loop-month l = Written 12 l.month l.initial.sheet l.sheet (with_injected (readings_in l.months) l.initial.sheet l.month)

abbrev pub decreases-loop-month : goal.decreases-loop-month
decreases-loop-month l = 12 - l.month
