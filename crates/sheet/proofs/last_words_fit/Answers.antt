-- The zero words by a running test.
use Prim.Native.Nat.{ℕ}
use mathlib.Core.Path.{◌≡◌, ap, sym, ◌∙◌}
use native.Mathlib.Omega.{arith}
use lib.Dec.{eqb}
use Rattle.units.proofs.Folds.{all-zero, all-next}
use Rattle.units.specs.Folds.{all_below}
use Rattle.sheet.specs.YearSheet.{last_words_fit, last_word}
use Rattle.std.proofs.Common.{rules}
use Rattle.sheet.proofs.last_words_fit.Goals as goal

pub loop-month-init : goal.loop-month-init
loop-month-init c = (search rules, sym (all-zero (λ m. eqb (last_word c.args.s.now m) 0)))

pub loop-month-preserved : goal.loop-month-preserved
loop-month-preserved c =
    let l = c.loop-month in
    let s = c.args.s.now in
    (search rules, all-next l.month (λ m. eqb (last_word s m) 0) l.invariant.1 (ap (λ (n : ℕ). eqb n 0) c.number.ensures))

pub returns : goal.returns
unfolding last_words_fit
returns c =
    let l = c.loop-month in
    let end : l.month ≡ 12 = omega arith in
    l.invariant.1 ∙ ap (λ (n : ℕ). all_below n (λ m. eqb (last_word c.args.s.now m) 0)) end
