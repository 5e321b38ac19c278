-- The entry that a record holds.
use Rattle.std.specs.Prelude.{List, ℕ, if◌then◌else◌, ◌==◌}
use Rattle.book_layout.specs.Fields.{get, kind_field, closing_kind}
use Rattle.book_records.specs.Records.{advance_in, closing_in}
use Rattle.chain_reader.specs.declared.Entry.{Entry}
use Rattle.chain_reader.specs.declared.Entry.TheVariants.{Advance, Closing}

-- what the bytes of an entry hold, by their kind
unfoldable pub entry_in : List ℕ → Entry
entry_in r = if get kind_field r == closing_kind then Closing (closing_in r) else Advance (advance_in r)
