-- What the inner functions of the two calls do: for their contracts alone.
use Rattle.std.specs.Prelude.{◌≡◌, ℕ, zero, suc, ◌+◌, ◌*◌, ◌<◌, List, [], ◌∷◌, length, get_or}
use Rattle.codec.specs.Bytes.{bytes_of, part, stored}
use Rattle.sheet.specs.YearSheet.{sheet_length}
use Rattle.sheet_archive.specs.Tables.{header_length, header, table_line}
use Rattle.sheet_archive.specs.Archive.{plus, differences, sums, in_sheet, in_archive, sheet_columns, sheet_months}

-- THE ARCHIVE goes line by line, a column each
abbrev pub column_place : ℕ → ℕ
column_place column = header_length + 4 * sheet_months * column

abbrev pub column_written : List ℕ → ℕ → List ℕ → List ℕ
column_written s column a = stored (column_place column) (table_line sheet_months (differences (in_sheet sheet_columns s column))) a

-- the number before one in its column; 0 before the first
unfoldable pub before : (ℕ → ℕ) → ℕ → ℕ
before column zero = 0
before column (suc month) = column month

-- THE SHEET goes by four columns, side by side
abbrev pub next_four : List ℕ → List ℕ → ℕ → ℕ → List ℕ
next_four a last column month =
    plus (get_or last 0 0) (in_archive sheet_months a column month)
    ∷ plus (get_or last 1 0) (in_archive sheet_months a (column + 1) month)
    ∷ plus (get_or last 2 0) (in_archive sheet_months a (column + 2) month)
    ∷ plus (get_or last 3 0) (in_archive sheet_months a (column + 3) month)
    ∷ []

abbrev pub number_stored : ℕ → ℕ → ℕ → List ℕ → List ℕ
number_stored column month n s = stored (header_length + 4 * (sheet_columns * month + column)) (bytes_of 4 n) s

abbrev pub four_stored : ℕ → ℕ → List ℕ → List ℕ → List ℕ
four_stored column month numbers s =
    number_stored (column + 3) month (get_or numbers 3 0)
    (number_stored (column + 2) month (get_or numbers 2 0)
    (number_stored (column + 1) month (get_or numbers 1 0) (number_stored column month (get_or numbers 0 0) s)))

-- a number that stands in the sheet is the archive's column summed up to its month
abbrev pub Stands : List ℕ → List ℕ → ℕ → ℕ → Type 0
Stands a s month column =
    part 4 (header_length + 4 * (sheet_columns * month + column)) s ≡ bytes_of 4 (sums (in_archive sheet_months a column) month)

-- the header and the first `n` columns stand; of the next four the first `m` months, and the first `i` numbers of the month after
pub record Restored (a s : List ℕ) (n m i : ℕ) : Type 0 where
  pub long : length s ≡ sheet_length
  pub front : header s ≡ header a
  pub columns : (month column : ℕ) → month < sheet_months → column < n → Stands a s month column
  pub months : (month column : ℕ) → month < m → column < n + 4 → Stands a s month column
  pub numbers : (j : ℕ) → j < i → Stands a s m (n + j)
