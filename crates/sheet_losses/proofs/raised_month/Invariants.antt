-- After each turn one band more is worked.
use Rattle.sheet_losses.proofs.Months.{Bands}
use Rattle.sheet_losses.proofs.raised_month.Given as goal

abbrev pub invariant-loop-band : goal.invariant-loop-band
invariant-loop-band l = Bands l.factor.thousandths l.sheet l.month l.band l.readings l.passed
