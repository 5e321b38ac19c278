-- The zero words by a running test.
use Prim.Native.Nat.{◌-◌, ◌≤◌}
use mathlib.Core.Path.{◌≡◌}
use lib.Dec.{eqb}
use Rattle.units.specs.Folds.{all_below}
use Rattle.sheet.specs.YearSheet.{last_word}
use Rattle.sheet.proofs.last_words_fit.Given as goal

abbrev pub invariant-loop-month : goal.invariant-loop-month
invariant-loop-month l = (l.month ≤ 12) × (l.zeros ≡ all_below l.month (λ m. eqb (last_word l.s m) 0))

abbrev pub decreases-loop-month : goal.decreases-loop-month
decreases-loop-month l = 12 - l.month
