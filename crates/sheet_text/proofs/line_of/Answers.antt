-- The fields one after the other.
use Rattle.std.proofs.Common.{arith, rules, refl, false, ◌≡◌}
use Rattle.sheet_text.specs.Lines.{readings}
use Rattle.decimals.specs.Decimals.{begins_field, FieldRead}
use Rattle.sheet_text.specs.InnerSteps.{too_much}
use Rattle.sheet_text.proofs.LineReading.{first_field, next_field, no_front, other_month, no_field, line_read}
use Rattle.sheet_text.proofs.line_of.Goals as goal

pub returns-in_default : goal.returns-in_default
returns-in_default c = no_front c.args.month c.args.text.now c.in_default.ensures.missing

pub returns-then-front-month : goal.returns-then-front-month
returns-then-front-month c = other_month c.args.month c.args.text.now c.requires c.in-Ok.ensures.value c.if-front-month.true

pub loop-place-init : goal.loop-place-init
loop-place-init c = first_field c.args.month c.args.text.now c.requires c.in-Ok.ensures c.if-front-month.false refl

pub returns-in_default-read_field : goal.returns-in_default-read_field
returns-in_default-read_field c =
    let said : begins_field c.stop_at.result c.loop-place.rest.now ≡ false = c.in_default-read_field.ensures.missing in
    let none = no_field c.args.month c.args.text.now c.loop-place.invariant c.loop-place-test.true (rw c.stop_at.ensures at said) in
    search rules

pub loop-place-preserved : goal.loop-place-preserved
loop-place-preserved c =
    let said : FieldRead c.loop-place.rest.now c.stop_at.result too_much c.in-Ok-read_field.number c.in-Ok-read_field.behind.now = c.in-Ok-read_field.ensures in
    next_field c.args.month c.args.text.now c.loop-place.invariant c.loop-place-test.true (rw c.stop_at.ensures at said)

pub returns : goal.returns
returns c =
    let end : c.loop-place.place ≡ readings = omega arith in
    line_read c.args.month c.args.text.now (rw end at c.loop-place.invariant)
