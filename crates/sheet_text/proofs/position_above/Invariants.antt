-- No month passed has a kWh above its limit.
use Rattle.sheet_text.proofs.SheetAbove.{NoneAbove}
use Rattle.sheet_text.proofs.position_above.Given as goal

abbrev pub invariant-loop-month : goal.invariant-loop-month
invariant-loop-month l = NoneAbove l.sheet l.month
