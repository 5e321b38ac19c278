-- The pointers that each record holds, at most two: its next (the head's is the first user) and a user's first entry. 0 is no
-- pointer, and a record of no known kind points nowhere.
use Rattle.std.specs.Prelude.{ℕ, ◌+◌, ◌<◌, cond, ◌&&◌, ◌||◌, List, ◌≡◌, eqb, ltb, length, get_or}
use Rattle.book_layout.specs.Fields.{user_kind}
use Rattle.book_rules.specs.Book.{first_user, kind_at, entry_kind, next_of, first_entry_of, hits}
use Rattle.units.specs.Limits.{most_records}

unfoldable pub next_pointer : List ℕ → ℕ → ℕ
next_pointer b j =
    cond (eqb j 0) (first_user b)
    (cond (eqb (kind_at b j) user_kind || entry_kind (kind_at b j)) (next_of b j) 0)

unfoldable pub first_pointer : List ℕ → ℕ → ℕ
first_pointer b j = cond (ltb 0 j && eqb (kind_at b j) user_kind) (first_entry_of b j) 0

-- the counts after a pointer is counted
pub record PointerCounted (pointer : ℕ) (before after : List ℕ) : Type 0 where
  pub size : length after ≡ most_records
  pub counted : (m : ℕ) → m < most_records → get_or after m 0 ≡ get_or before m 0 + hits pointer m
