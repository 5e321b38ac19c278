-- Field by field, each where the one before it ends.
use Prim.Native.Nat.{◌+◌, ◌-◌}
use lib.ListN.{length}
use Rattle.codec.specs.Bytes.{stored}
use Rattle.sheet_text.specs.Lines.{readings}
use Rattle.sheet_text.specs.InnerSteps.{kwh_of, numbers_to}
use Rattle.sheet_text.proofs.LineWriting.{TextWritten}
use Rattle.sheet_text.proofs.write_numbers.Given as goal

abbrev pub invariant-loop-place : goal.invariant-loop-place
invariant-loop-place l =
    TextWritten readings l.place (l.at + length (numbers_to (kwh_of l.kwh) l.place)) l.end l.initial.out l.out (stored l.at
    (numbers_to (kwh_of l.kwh) l.place) l.initial.out)

abbrev pub decreases-loop-place : goal.decreases-loop-place
decreases-loop-place l = readings - l.place
