-- The records, then the user.
use Rattle.std.proofs.Common.{◌≡◌, ℕ, ◌≤◌, ◌<◌, true, not, List, ap, ◌∙◌, arith}
use Rattle.book_rules.specs.Book.{length_fits, used, used_fits, good_head}
use Rattle.book_rules.proofs.Faults.{faulty-record, faulty-not-sound, good-sound, smallest-record}
use Rattle.check_book.specs.Verdicts.{RecordsJudged, Accepted, Objected}
use Rattle.check_book.proofs.judge.Goals as goal

module _ (b : List ℕ) (fits : length_fits b ≡ true) (u : used_fits b ≡ true) (head : good_head b ≡ true) (bad : ℕ) (judged : RecordsJudged b bad) where
  objected : bad < used b → Objected b bad
  objected under =
      let wrong = judged.is-bad under in
      record {
        fits = fits;
        unsound = faulty-not-sound b fits bad (faulty-record b u bad judged.from under ∙ ap not wrong);
        smallest = smallest-record b fits u head bad judged.from under wrong judged.before;
      }

  accepted : used b ≤ bad → Accepted b
  accepted past = record { fits = fits; is_sound = good-sound b u head (λ i p h. judged.before i p (omega arith)) }

pub returns-in-Some : goal.returns-in-Some
returns-in-Some c =
    let said = c.in-Some.ensures in
    objected c.args.book.used.bytes.now c.args.book.length c.args.book.used.counted c.args.book.head c.in-Some.bad.0 said.1 said.0

pub returns-in-None : goal.returns-in-None
returns-in-None c =
    let b = c.args.book.used.bytes.now in
    (accepted b c.args.book.length c.args.book.used.counted c.args.book.head (used b) c.in-None.ensures (omega arith), c.find_user.ensures)
