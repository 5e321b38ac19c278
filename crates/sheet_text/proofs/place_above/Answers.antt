-- None of the places passed has a number above its limit.
use Rattle.std.proofs.Common.{arith, ◌≡◌}
use Rattle.sheet_text.specs.Lines.{readings}
use Rattle.sheet_text.specs.InnerSteps.{kwh_of}
use Rattle.sheet_text.proofs.Above.{none-before-first, none_more, above-found, above-none}
use Rattle.sheet_text.proofs.place_above.Goals as goal

pub loop-place-init : goal.loop-place-init
loop-place-init c = none-before-first (kwh_of c.args.kwh)

pub returns-then-kwh-from-gt-MAX_KWH : goal.returns-then-kwh-from-gt-MAX_KWH
returns-then-kwh-from-gt-MAX_KWH c =
    above-found (kwh_of c.args.kwh) c.loop-place.place c.loop-place-test.true c.loop-place.invariant (rw c.from.ensures at c.if-kwh-from-gt-MAX_KWH.true)

pub loop-place-preserved : goal.loop-place-preserved
loop-place-preserved c = none_more (kwh_of c.args.kwh) c.loop-place.place c.loop-place.invariant (rw c.from.ensures at c.if-kwh-from-gt-MAX_KWH.false)

pub returns : goal.returns
returns c =
    let end : c.loop-place.place ≡ readings = omega arith in
    above-none (kwh_of c.args.kwh) (rw end at c.loop-place.invariant)
