-- The numbers are read one by one.
use Prim.Native.Nat.{◌-◌}
use Rattle.units.specs.Units.{kwh}
use Rattle.units.proofs.Filled.{Filling}
use Rattle.sheet.specs.YearSheet.{word}
use Rattle.sheet_text.specs.Lines.{readings}
use Rattle.sheet_text.proofs.month_of.Given as goal

abbrev pub invariant-loop-place : goal.invariant-loop-place
invariant-loop-place l = Filling (kwh 0) (λ p. kwh (word l.sheet l.month p)) readings l.place l.kwh

abbrev pub decreases-loop-place : goal.decreases-loop-place
decreases-loop-place l = readings - l.place
