-- The entry at an index of a book, by its kind.
use Rattle.std.proofs.Common.{◌≡◌, ℕ, true, List}
use Rattle.book_layout.specs.Fields.{record_at, advance_kind, closing_kind}
use Rattle.book_records.specs.Records.{advance_in, closing_in}
use Rattle.book_rules.specs.Book.{kind_at, is_advance, is_closing}
use Rattle.book_rules.proofs.RecordKinds.{kind-is}
use Rattle.chain_reader.specs.declared.Entry.TheVariants.{Advance, Closing}
use Rattle.chain_reader.specs.Entries.{entry_in}

module _ (b : List ℕ) (e : ℕ) where
  pub closing_held : is_closing b e ≡ true → entry_in (record_at b e) ≡ Closing (closing_in (record_at b e))
  unfolding entry_in kind_at
  closing_held c = rw (kind-is b closing_kind e c)

  pub advance_held : is_advance b e ≡ true → entry_in (record_at b e) ≡ Advance (advance_in (record_at b e))
  unfolding entry_in kind_at
  advance_held a = rw (kind-is b advance_kind e a)
