-- The line at the front decides whether to go on.
use Rattle.std.proofs.Common.{arith, rules, refl, sym, ◌∙◌, ◌≡◌}
use native.Mathlib.Nat.{not-suc-le-zero}
use lib.ListN.{length-set}
use Rattle.sheet_text.specs.Lines.{months}
use Rattle.sheet_text.proofs.Reading.{none-refused, line_first, wrong-refused, above-refused, line_taken, end-taken, taken, line-missing, missing, there}
use Rattle.sheet_text.proofs.Reading.{line-right, line-above, line-within, number-within, line-rest, end-judged, numbers_more}
use Rattle.sheet_text.proofs.measures_of.Goals as goal

pub loop-month-init : goal.loop-month-init
loop-month-init c =
    let text = c.args.text.now in
    record { twelve = refl; passed = none-refused text; place = line_first text; numbers = λ m l. absurd (not-suc-le-zero l) }

pub returns-in_err-kwh : goal.returns-in_err-kwh
returns-in_err-kwh c =
    let text = c.args.text.now in
    let l = c.loop-month in
    let none = missing _ _ _ c.line_of.result _ c.in_err-kwh.ensures.value (rw c.from-line.ensures at c.line_of.ensures) in
    let wrong = line-missing text c.loop-month-test.true l.invariant.place none.0 in
    let told = wrong-refused text l.month (omega arith) l.invariant.passed wrong in
    let refusal = none.1 in
    let line = c.from-line.ensures in
    search rules

pub returns-in-Some : goal.returns-in-Some
returns-in-Some c =
    let text = c.args.text.now in
    let l = c.loop-month in
    let month = c.loop-month-test.true in
    let read = there _ _ _ c.line_of.result _ c.in_ok-kwh.ensures.value (rw c.from-line.ensures at c.line_of.ensures) in
    above-refused text l.month month l.invariant.passed (line-right text month l.invariant.place read)
    (line-above text month l.invariant.place read c.in-Some.ensures) c.at.ensures

pub loop-month-preserved : goal.loop-month-preserved
loop-month-preserved c =
    let text = c.args.text.now in
    let l = c.loop-month in
    let month = c.loop-month-test.true in
    let place = l.invariant.place in
    let read = there _ _ _ c.line_of.result _ c.in_ok-kwh.ensures.value (rw c.from-line.ensures at c.line_of.ensures) in
    rw c.from.ensures
    (record {
      twelve = length-set l.year l.month _ ∙ l.invariant.twelve;
      passed = line_taken text l.month month l.invariant.passed (line-right text month place read) (line-within text month place read c.in_default.ensures);
      place = line-rest text month place read;
      numbers = numbers_more text l.month l.year _ (omega (arith, month, l.invariant.twelve)) l.invariant.numbers
          (number-within text month place read c.in_default.ensures);
    })

pub returns-then-not-is_empty : goal.returns-then-not-is_empty
returns-then-not-is_empty c =
    let text = c.args.text.now in
    let l = c.loop-month in
    let end : l.month ≡ months = omega arith in
    wrong-refused text months (omega arith) (rw end at l.invariant.passed)
    (end-judged text (rw end at l.invariant.place) (sym c.if-not-is_empty.true ∙ c.is_empty.ensures))

pub returns : goal.returns
returns c =
    let text = c.args.text.now in
    let l = c.loop-month in
    let end : l.month ≡ months = omega arith in
    let right = end-judged text (rw end at l.invariant.place) (sym c.if-not-is_empty.false ∙ c.is_empty.ensures) in
    record {
      taken = taken text (end-taken text (rw end at l.invariant.passed) right);
      numbers = λ m p h k. (rw end at l.invariant.numbers) m h p k;
    }
