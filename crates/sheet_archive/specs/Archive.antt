-- "Sheets for the archive" (document 02, ticket 14), for any number of columns and of months, and for the sheet's.
use Rattle.std.specs.Prelude.{ℕ, zero, suc, ◌+◌, ◌-◌, ◌%◌, ◌^◌, Bool, cond, ◌&&◌, List, ◌++◌, length, ◌==◌}
use Rattle.sheet.specs.YearSheet.{sheet_length}
use Rattle.sheet_archive.specs.Tables.{header, number_in, table_lines}

-- "modulo 2^32"
abbrev pub minus : ℕ → ℕ → ℕ
minus x y = (x + (2 ^ 32 - y)) % 2 ^ 32

abbrev pub plus : ℕ → ℕ → ℕ
plus x y = (x + y) % 2 ^ 32

-- "each number after the first of its column replaced by its difference from the one before, modulo 2^32"
unfoldable pub differences : (ℕ → ℕ) → ℕ → ℕ
differences column zero = column zero
differences column (suc month) = minus (column (suc month)) (column month)

-- the way back: each number after the first is the one before it and its difference, modulo 2^32
unfoldable pub sums : (ℕ → ℕ) → ℕ → ℕ
sums column zero = column zero
sums column (suc month) = plus (sums column month) (column (suc month))

-- "Archivists read one quantity over the year": the numbers of a quantity, month by month, in a sheet and in an archive
abbrev pub in_sheet : ℕ → List ℕ → ℕ → ℕ → ℕ
in_sheet columns s column month = number_in columns s month column

abbrev pub in_archive : ℕ → List ℕ → ℕ → ℕ → ℕ
in_archive months a column month = number_in months a column month

-- "A sheet is rearranged into 24 columns of twelve .. The header goes first."
unfoldable pub archive_of : ℕ → ℕ → List ℕ → List ℕ
archive_of columns months s = header s ++ table_lines columns months (λ column. differences (in_sheet columns s column))

-- "The way back"
unfoldable pub sheet_of : ℕ → ℕ → List ℕ → List ℕ
sheet_of columns months a = header a ++ table_lines months columns (λ month column. sums (in_archive months a column) month)

-- "24 columns of twelve"
abbrev pub sheet_columns : ℕ
sheet_columns = 24

abbrev pub sheet_months : ℕ
sheet_months = 12

-- "It refuses with 27 a buffer of another size, first of all."
abbrev pub sizes_fit : ℕ → ℕ → Bool
sizes_fit source destination = source == sheet_length && destination == sheet_length

unfoldable pub size_answer : List ℕ → List ℕ → ℕ
size_answer source destination = cond (sizes_fit (length source) (length destination)) 0 27

-- the buffer that is written, after the call; a refusal leaves it as it was
unfoldable pub archive_after : List ℕ → List ℕ → List ℕ
archive_after s a = cond (sizes_fit (length s) (length a)) (archive_of sheet_columns sheet_months s) a

unfoldable pub restored_after : List ℕ → List ℕ → List ℕ
restored_after a s = cond (sizes_fit (length a) (length s)) (sheet_of sheet_columns sheet_months a) s
