-- Line by line, each where the one before it ends; the twelve of a sheet past 13 fit.
use Prim.Native.Nat.{◌-◌}
use lib.ListN.{length}
use Rattle.codec.specs.Bytes.{stored}
use Rattle.sheet.specs.YearSheet.{word}
use Rattle.sheet_text.specs.Lines.{months, lines}
use Rattle.sheet_text.proofs.LineWriting.{TextWritten}
use Rattle.sheet_text.proofs.write_lines.Given as goal

abbrev pub invariant-loop-month : goal.invariant-loop-month
invariant-loop-month l =
    TextWritten months l.month (length (lines l.month (word l.sheet))) l.end l.initial.out l.out (stored 0 (lines l.month (word
    l.sheet)) l.initial.out)

abbrev pub decreases-loop-month : goal.decreases-loop-month
decreases-loop-month l = months - l.month
