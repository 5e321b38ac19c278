-- A sound book has the record of an entry whole.
use Rattle.chain_reader.proofs.Ahead.{entry_stands}
use Rattle.chain_reader.proofs.EntriesIterator.next.Goals as goal

pub whole-r-requires : goal.whole-r-requires
whole-r-requires c =
    let s = c.args.self.now in
    entry_stands s.book.bytes.now s.book.length s.book.no_fault s.at.0 (s.ahead c.if-at-eq0.false) c.if-at-eq0.false
