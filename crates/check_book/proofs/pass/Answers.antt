-- By the length, the head, then as passed or as judged.
use Rattle.std.proofs.Common.{◌≡◌, ℕ, Bool, true, not, List, sym, ap, ◌∙◌}
use Rattle.book_rules.specs.Book.{length_fits, faulty}
use Rattle.book_rules.proofs.Faults.{faulty-unfit, faulty-head, faulty-not-sound, smallest-head}
use Rattle.check_book.specs.Verdicts.{Objected}
use Rattle.check_book.proofs.pass.Goals as goal

-- a test that is passed
holds : {t u : Bool} → t ≡ u → t ≡ true → u ≡ true
holds e h = sym e ∙ h

-- nothing stands before the head
head-faulty : (b : List ℕ) → length_fits b ≡ true → faulty b 0 ≡ true → Objected b 0
head-faulty b fits f = record { fits = fits; unsound = faulty-not-sound b fits 0 f; smallest = smallest-head b fits f }

pub returns-then-not-used_fits : goal.returns-then-not-used_fits
returns-then-not-used_fits c =
    let b = c.args.book.now in
    head-faulty b (holds c.length_fits.ensures c.if-not-length_fits.false) (faulty-unfit b 0 (sym c.used_fits.ensures ∙ c.if-not-used_fits.true))

pub returns-then-not-good_head : goal.returns-then-not-good_head
returns-then-not-good_head c =
    let b = c.args.book.now in
    head-faulty b (holds c.length_fits.ensures c.if-not-length_fits.false)
    (faulty-head b (holds c.used_fits.ensures c.if-not-used_fits.false) ∙ sym (ap not c.good_head.ensures) ∙ ap not c.if-not-good_head.true)

pub returns-in-Ok : goal.returns-in-Ok
returns-in-Ok c =
    let said = c.in-Ok.ensures in
    (record { fits = holds c.length_fits.ensures c.if-not-length_fits.false; is_sound = said.is_sound }, said.found)
