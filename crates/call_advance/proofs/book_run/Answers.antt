-- `book_run` is held to `applied`: the entry in front of the chain, and the account after it.
use Rattle.call_advance.proofs.Runs.{within-rest, run-booked}
use Rattle.call_advance.proofs.book_run.Goals as goal

pub withheld-requires : goal.withheld-requires
withheld-requires c =
    let a = c.args in
    let next = c.advanced-after in
    within-rest a.account a.year a.run a.paid c.withheld_from-withheld.result
    c.withheld_from-withheld.ensures next.result next.ensures

pub returns : goal.returns
returns c =
    let a = c.args in
    let held = c.withheld_from-withheld in
    let first = c.first_entry_of in
    let noted = c.booked_in in
    let entry = c.advance_image-entry in
    let joined = c.advanced-after in
    let last = c.withheld in
    run-booked a.book.now a.user a.account a.year a.run a.paid held.result held.ensures first.result first.ensures noted.result
    noted.ensures
    entry.result entry.ensures joined.result joined.ensures last.result last.ensures _ c.write_entry.ensures
