-- The fields so far stand there, with their numbers.
use Rattle.sheet_text.proofs.LineReading.{Fields}
use Rattle.sheet_text.proofs.line_of.Given as goal

abbrev pub invariant-loop-place : goal.invariant-loop-place
invariant-loop-place l = Fields l.month l.text l.place l.kwh l.rest
