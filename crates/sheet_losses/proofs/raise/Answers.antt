-- The refusals one by one, in their order; the sheet is written where nothing is refused.
use Rattle.std.proofs.Common.{sym, ◌∙◌, ◌≡◌, rules}
use Rattle.refusals.specs.declared.Refusal.TheVariants.{FactorAboveLimit}
use Rattle.sheet.proofs.Limits.{form-length}
use Rattle.sheet_losses.proofs.Calls.{refused-form, refused-factor, refused-above, accepted}
use Rattle.sheet_losses.proofs.raise.Goals as goal

pub returns-then-not-form_fits : goal.returns-then-not-form_fits
returns-then-not-form_fits c =
    let all = refused-form c.args.factor c.args.sheet.now (sym c.form_fits.ensures ∙ c.if-not-form_fits.true) in
    record { answer = all.0; after = all.1 }

pub returns-in_err-factor-clause-answer : goal.returns-in_err-factor-clause-answer
returns-in_err-factor-clause-answer c =
    let fits = sym c.form_fits.ensures ∙ c.if-not-form_fits.false in
    let all = refused-factor c.args.factor c.args.sheet.now fits c.in_err-factor.ensures.0 in
    let larger : c.in_err-factor.field-0.0 ≡ FactorAboveLimit = c.in_err-factor.ensures.1 in
    search rules

pub returns-in_err-factor-clause-after : goal.returns-in_err-factor-clause-after
returns-in_err-factor-clause-after c =
    let fits = sym c.form_fits.ensures ∙ c.if-not-form_fits.false in
    (refused-factor c.args.factor c.args.sheet.now fits c.in_err-factor.ensures.0).1

pub unwrap-whole-requires : goal.unwrap-whole-requires
unwrap-whole-requires c =
    let long = form-length c.args.sheet.now (sym c.form_fits.ensures ∙ c.if-not-form_fits.false) in
    search rules

pub returns-in_err-months-clause-answer : goal.returns-in_err-months-clause-answer
returns-in_err-months-clause-answer c =
    let fits = sym c.form_fits.ensures ∙ c.if-not-form_fits.false in
    let factor = c.in_ok-factor.ensures in
    let same : c.unwrap-whole.result.now ≡ c.args.sheet.now = search rules in
    let all = refused-above c.args.factor c.args.sheet.now fits factor.0 (rw same at (rw factor.1 at c.in_err-months.ensures)) in
    search rules

pub returns-in_err-months-clause-after : goal.returns-in_err-months-clause-after
returns-in_err-months-clause-after c =
    let fits = sym c.form_fits.ensures ∙ c.if-not-form_fits.false in
    let factor = c.in_ok-factor.ensures in
    let same : c.unwrap-whole.result.now ≡ c.args.sheet.now = search rules in
    (refused-above c.args.factor c.args.sheet.now fits factor.0 (rw same at (rw factor.1 at c.in_err-months.ensures))).1

pub returns : goal.returns
returns c =
    let fits = sym c.form_fits.ensures ∙ c.if-not-form_fits.false in
    let factor = c.in_ok-factor.ensures in
    let same : c.unwrap-whole.result.now ≡ c.args.sheet.now = search rules in
    let all = accepted c.args.factor c.args.sheet.now fits factor.0 (rw same at (rw factor.1 at c.in_ok-months.ensures)) c.write_year.ensures in
    record { answer = all.0; after = all.1 }

pub write_year-requires : goal.write_year-requires
write_year-requires c = form-length c.args.sheet.now (sym c.form_fits.ensures ∙ c.if-not-form_fits.false)
