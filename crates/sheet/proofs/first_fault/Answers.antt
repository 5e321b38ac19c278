-- No month before this one has a fault, and no place of it before this one.
use Prim.Native.Nat.{ℕ, ◌<◌}
use mathlib.Core.Path.{◌≡◌, sym, ◌∙◌}
use mathlib.Core.Bool.{false}
use native.Mathlib.Omega.{arith}
use borrow.Author.Count.{below_more}
use Rattle.std.specs.Prelude.{Ok, Err}
use Rattle.refusals.specs.Refusals.{position_at}
use Rattle.units.specs.Folds.{any_below}
use Rattle.units.proofs.Folds.{none-at}
use Rattle.sheet.specs.YearSheet.{at_fault}
use Rattle.sheet.proofs.Faults.{Found, told, undecided, no-fault, some-fault}
use Rattle.std.proofs.Common.{rules}
use Rattle.sheet.proofs.first_fault.Goals as goal
use Rattle.sheet.proofs.first_fault.Goals.{then-month_wrong+else-loop-place-test, else-month_wrong}

pub returns-then-not-some_wrong : goal.returns-then-not-some_wrong
returns-then-not-some_wrong c =
    let s = c.args.s.now in
    let none = sym c.some_wrong.ensures ∙ c.if-not-some_wrong.true in
    undecided s (λ m l. none-at 23 (at_fault s m) (none-at 12 (λ n. any_below 23 (λ p. at_fault s n p)) none m l))

pub returns-in_err-fault_at : goal.returns-in_err-fault_at
returns-in_err-fault_at c =
    let s = c.args.s.now in
    let m = c.loop-month.month in
    let p = c.loop-place.place in
    let e = c.in_err-fault_at.field-0.0 in
    let refused : c.fault_at.result ≡ Err e = search rules in
    let answer = sym refused ∙ c.fault_at.ensures in
    let found : Found s =
    record {
      m = m;
      place = p;
      month-to = search rules;
      place-to = search rules;
      here = record {
        at-fault = some-fault s m p (position_at m p) e answer;
        row = c.loop-place.invariant.1;
        months = c.loop-month.invariant.1;
      };
    } in
    let is : c.from_residual.result ≡ Err e = search rules in
    rw is (told s found e answer)

pub loop-place-preserved : goal.loop-place-preserved
loop-place-preserved c =
    let s = c.args.s.now in
    let m = c.loop-month.month in
    let p = c.loop-place.place in
    let fits : c.fault_at.result ≡ Ok tt = search rules in
    (search rules, below_more _ _ c.loop-place.invariant.1 (no-fault s m p (position_at m p) (sym fits ∙ c.fault_at.ensures)))

pub loop-month-preserved : goal.loop-month-preserved
loop-month-preserved c =
    let s = c.args.s.now in
    let m = c.loop-month.month in
    let none : (p : ℕ) → p < 23 → at_fault s m p ≡ false =
    elim c.if-month_wrong.branch [
      | then-month_wrong+else-loop-place-test w ↦ λ p l. w.loop-place.invariant.1 p (let end : w.loop-place.place ≡ 23 = omega arith in rw end l)
      | else-month_wrong w ↦ none-at 23 (at_fault s m) (sym c.month_wrong.ensures ∙ w.if-month_wrong.false)
    ] in
    (search rules, below_more (λ n. (p : ℕ) → p < 23 → at_fault s n p ≡ false) _ c.loop-month.invariant.1 none)

pub returns : goal.returns
returns c =
    let end : c.loop-month.month ≡ 12 = omega arith in
    undecided c.args.s.now (λ m l. c.loop-month.invariant.1 m (rw end l))
