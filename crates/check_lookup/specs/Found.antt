-- The user with a number as a search tells it: its record, or none.
use Rattle.std.specs.Prelude.{ℕ, cond, Option, Some, None, List, eqb}
use Rattle.units.specs.declared.RecordIndex.{RecordIndex}
use Rattle.units.specs.Units.{record_index}
use Rattle.book_rules.specs.Find.{find_user}

-- the record at an index, where 0 is none
abbrev pub record_or_none : ℕ → Option RecordIndex
record_or_none i = cond (eqb i 0) None (Some (record_index i))

unfoldable pub found_user : List ℕ → ℕ → Option RecordIndex
found_user b n = record_or_none (find_user b n)
