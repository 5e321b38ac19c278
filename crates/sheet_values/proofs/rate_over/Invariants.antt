-- `rate_over` is held to `sum_below`: a running sum.
use Prim.Native.Nat.{◌+◌, ◌-◌, ◌*◌}
use Rattle.units.specs.Limits.{max_price}
use Rattle.units.proofs.Folds.{Summing}
use Rattle.sheet.specs.YearSheet.{word}
use Rattle.sheet_values.proofs.rate_over.Given as goal

abbrev pub invariant-loop-i : goal.invariant-loop-i
invariant-loop-i l = Summing (λ j. word l.sheet.bytes.now (l.stretch.from + j) l.column.place) l.stretch.count (max_price * l.i) l.i l.sum

abbrev pub decreases-loop-i : goal.decreases-loop-i
decreases-loop-i l = l.stretch.count - l.i
