-- After each turn one month more is worked.
use Rattle.sheet_losses.proofs.Years.{Working}
use Rattle.sheet_losses.proofs.raised_year.Given as goal

abbrev pub invariant-loop-month : goal.invariant-loop-month
invariant-loop-month l = Working l.factor.thousandths l.sheet l.month l.months l.rests
