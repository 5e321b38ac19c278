-- After each turn one band more is worked, from the rest that passes to it.
use Rattle.std.proofs.Common.{ℕ, ◌+◌, arith, ap, ◌≡◌, ◌∙◌}
use Rattle.refusals.specs.declared.Position.{Position}
use Rattle.refusals.specs.declared.Refusal.TheVariants.{AboveLimit}
use Rattle.refusals.specs.Refusals.{position_at}
use Rattle.sheet_losses.specs.Losses.{band_of, place_in}
use Rattle.sheet_losses.proofs.Months.{rest_below, band-raised, band-passed, bands-next, all-bands, first-above}
use Rattle.sheet_losses.proofs.raised_month.Goals as goal

-- a month's injected F1 is its fourth number
place : (month band : ℕ) → position_at month (3 + band) ≡ place_in month band
place month band =
    let fourth : 3 + band + 1 ≡ band + 4 = omega arith in
    ap (λ (p : ℕ). the_position (month + 1) p) fourth
  where
    the_position : ℕ → ℕ → Position
    the_position m p = record { month = m; place = p }

pub raised-rest-requires : goal.raised-rest-requires
raised-rest-requires c =
    let l = c.loop-band in
    let rest = l.invariant.coming l.band (omega arith) c.loop-band-test.true in
    omega (arith, rest, rest_below c.args.factor.thousandths (band_of c.args.sheet.now l.band) c.args.month)

pub returns-then-from-kwh : goal.returns-then-from-kwh
returns-then-from-kwh c =
    let a = c.args in
    let l = c.loop-band in
    let band = c.loop-band-test.true in
    let rest = l.invariant.coming l.band (omega arith) band in
    let k = band-raised a.factor.thousandths a.sheet.now a.month band c.number-raw.ensures rest c.raised-rest.ensures.kwh in
    first-above a.factor.thousandths a.sheet.now a.month l.invariant band _ k (rw c.from.ensures at c.if-from-kwh.true) (ap AboveLimit (c.at.ensures ∙ place a.month l.band))

pub loop-band-preserved : goal.loop-band-preserved
loop-band-preserved c =
    let a = c.args in
    let l = c.loop-band in
    let band = c.loop-band-test.true in
    let rest = l.invariant.coming l.band (omega arith) band in
    let k = band-raised a.factor.thousandths a.sheet.now a.month band c.number-raw.ensures rest c.raised-rest.ensures.kwh in
    let p = band-passed a.factor.thousandths a.sheet.now a.month band c.number-raw.ensures rest c.raised-rest.ensures.rest in
    bands-next a.factor.thousandths a.sheet.now a.month l.invariant band _ _ k p (rw c.from.ensures at c.if-from-kwh.false)

pub returns : goal.returns
returns c =
    let end : c.loop-band.band ≡ 3 = omega arith in
    all-bands c.args.factor.thousandths c.args.sheet.now c.args.month (rw end at c.loop-band.invariant)
