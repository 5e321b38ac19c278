-- A step along a chain ("Book": chains run by a next index, and zero ends the chain): what is handed out, and where it leads.
use Rattle.std.specs.Prelude.{◌≡◌, ◌≢◌, true, MatchOption, Option}
use Rattle.units.specs.Units.{record_index}
use Rattle.book_layout.specs.Fields.{record_at}
use Rattle.book_rules.specs.Book.{is_entry, next_of}
use Rattle.book_view.specs.declared.User.{User}
use Rattle.chain_reader.specs.declared.Entry.{Entry}
use Rattle.chain_reader.specs.declared.Entries.{Entries}
use Rattle.chain_reader.specs.declared.Users.{Users}
use Rattle.chain_reader.specs.Entries.{entry_in}

-- the entry at the reader's index, which leads to the one at its next; none at the end
abbrev pub ReadsEntry : Entries → Option Entry → Entries → Type 0
ReadsEntry s r t =
    (t.book ≡ s.book)
    × MatchOption r ((s.at.0 ≡ 0) × (t.at.0 ≡ 0))
    (λ entry. (is_entry s.book.bytes.now s.at.0 ≡ true) × (entry ≡ entry_in (record_at s.book.bytes.now s.at.0))
    × (t.at ≡ record_index (next_of s.book.bytes.now s.at.0)))

-- the user at the reader's index, so
abbrev pub ReadsUser : Users → Option User → Users → Type 0
ReadsUser s r t =
    (t.book ≡ s.book)
    × MatchOption r ((s.at.0 ≡ 0) × (t.at.0 ≡ 0))
    (λ user. (s.at.0 ≢ 0) × (user.book ≡ s.book) × (user.index ≡ s.at) × (t.at ≡ record_index (next_of s.book.bytes.now s.at.0)))
