-- None of the places passed has a number above its limit.
use Rattle.sheet_text.specs.InnerSteps.{kwh_of}
use Rattle.sheet_text.proofs.Above.{NoneBefore}
use Rattle.sheet_text.proofs.place_above.Given as goal

abbrev pub invariant-loop-place : goal.invariant-loop-place
invariant-loop-place l = NoneBefore (kwh_of l.kwh) l.place
