-- A record in use stands in the book whole.
use Rattle.book_rules.proofs.Faults.{used-whole}
use Rattle.book_view.proofs.UsedBook.whole.Goals as goal

-- the record lent is the one asked for; said first, so that a body which lends another is refused here
pub returns : goal.returns
returns c = c.whole.ensures

pub whole-requires : goal.whole-requires
whole-requires c = used-whole c.args.self.bytes.now c.args.self.counted c.args.index.0 c.requires
