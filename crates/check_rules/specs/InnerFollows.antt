-- What stands behind an entry, from the record's bytes: an entry of the same owner, with the level or, a closing, of the year before.
use Rattle.std.specs.Prelude.{ℕ, ◌+◌, Bool, ◌&&◌, ◌||◌, List, eqb}
use Rattle.book_layout.specs.Fields.{get, kind_field, owner_field, advance_kind, closing_kind}
use Rattle.book_rules.specs.Book.{entry_kind, level_in}

unfoldable pub follows_entry : List ℕ → ℕ → ℕ → Bool
follows_entry r owner level =
    (entry_kind (get kind_field r) && eqb (get owner_field r) owner)
    && ((eqb (get kind_field r) advance_kind && eqb (level_in r) level)
    || (eqb (get kind_field r) closing_kind && eqb (level_in r + 1) level))
