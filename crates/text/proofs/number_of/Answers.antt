-- A digit more, or the end of the digits.
use Rattle.std.proofs.Common.{◌≡◌, ◌+◌, ◌*◌, ◌-◌, ℕ, get_or, length, drop, refl, sym, ap, ◌∙◌, arith}
use Rattle.std.proofs.lemmas.Bool.{eqb-true, eqb-false}
use Rattle.std.specs.Str.Parse.{digits_value_after}
use Rattle.text.proofs.Numbers.{no_number, number_read, number_too_large, more_digits}
use Rattle.text.proofs.number_of.Goals as goal

pub returns-then-is_empty : goal.returns-then-is_empty
returns-then-is_empty c = sym (no_number c.args.digits.now (eqb-true (length c.args.digits.now) 0 (sym c.is_empty.ensures ∙ c.if-is_empty.true)))

pub loop-digit-init : goal.loop-digit-init
loop-digit-init c = record { inside = omega arith; fits = omega arith; digits = c.requires; number = refl }

pub returns-in_err-checked_mul : goal.returns-in_err-checked_mul
returns-in_err-checked_mul c =
    let now = c.loop-digit.invariant in
    let ds = c.args.digits.now in
    let k = c.loop-digit.digit-index in
    let more = more_digits ds k c.loop-digit-test.true now.digits in
    c.from_residual.ensures
    ∙ sym (number_too_large ds (drop (k + 1) ds) (c.loop-digit.value * 10 + (get_or ds k 0 - 48)) (sym (more.3 c.loop-digit.value) ∙ now.number) (omega (arith, c.in_err-checked_mul.ensures)))

pub overflow_sub-digit : goal.overflow_sub-digit
overflow_sub-digit c = (more_digits c.args.digits.now c.loop-digit.digit-index c.loop-digit-test.true c.loop-digit.invariant.digits).0

pub returns-in_err-value : goal.returns-in_err-value
returns-in_err-value c =
    let now = c.loop-digit.invariant in
    let ds = c.args.digits.now in
    let k = c.loop-digit.digit-index in
    let more = more_digits ds k c.loop-digit-test.true now.digits in
    let times = c.in_ok-checked_mul.ensures in
    c.from_residual-in_err-value.ensures
    ∙ sym (number_too_large ds (drop (k + 1) ds) (c.loop-digit.value * 10 + (get_or ds k 0 - 48)) (sym (more.3 c.loop-digit.value) ∙ now.number)
    (omega (arith, c.in_err-value.ensures, times.1, c.from.ensures)))

pub loop-digit-preserved : goal.loop-digit-preserved
loop-digit-preserved c =
    let now = c.loop-digit.invariant in
    let ds = c.args.digits.now in
    let k = c.loop-digit.digit-index in
    let more = more_digits ds k c.loop-digit-test.true now.digits in
    let times = c.in_ok-checked_mul.ensures in
    let plus = c.in_ok-value.ensures in
    let value : c.in_ok-value.value ≡ c.loop-digit.value * 10 + (get_or ds k 0 - 48) = omega (arith, times.1, plus.1, c.from.ensures) in
    record {
      inside = omega (arith, c.loop-digit-test.true);
      fits = omega (arith, plus.0, plus.1);
      digits = more.2;
      number = ap (λ (n : ℕ). digits_value_after 10 n (drop (k + 1) ds)) value ∙ sym (more.3 c.loop-digit.value) ∙ now.number;
    }

pub returns : goal.returns
returns c =
    let now = c.loop-digit.invariant in
    let ds = c.args.digits.now in
    let some = eqb-false (length ds) 0 (sym c.is_empty.ensures ∙ c.if-is_empty.false) in
    sym (number_read ds c.loop-digit.value c.loop-digit.digit-index (omega (arith, some)) (omega (arith, c.loop-digit-test.false)) now.fits now.number)
