-- `book_year` is held to `applied`: the entry in front of the chain, and the account after it.
use mathlib.Core.Path.{ap}
use Rattle.call_close.proofs.Entries.{withheld-is, within-rest, year-booked}
use Rattle.call_close.proofs.book_year.Goals as goal

pub withheld-left-requires : goal.withheld-left-requires
withheld-left-requires c =
    let a = c.args in
    let after = c.closed-after in
    let sums = c.settled_sums-sums in
    let held = c.withheld_at_closing-withheld in
    let is = sums.ensures a.account (ap (λ x. x.settlement) after.ensures) in
    within-rest a.account a.values held.result (withheld-is a.account a.values sums.result is held.result held.ensures)
    after.result after.ensures

pub returns : goal.returns
returns c =
    let a = c.args in
    let first = c.first_entry_of-first in
    let after = c.closed-after in
    let sums = c.settled_sums-sums in
    let held = c.withheld_at_closing-withheld in
    let image = c.closing_image-image in
    let last = c.withheld-left in
    let is = sums.ensures a.account (ap (λ x. x.settlement) after.ensures) in
    let withheld = withheld-is a.account a.values sums.result is held.result held.ensures in record {
      book = year-booked a.user a.account a.values a.book.now first.result first.ensures after.result after.ensures sums.result is
          held.result withheld
          image.result image.ensures last.result last.ensures _ c.write_entry.ensures;
      sums = is;
    }
