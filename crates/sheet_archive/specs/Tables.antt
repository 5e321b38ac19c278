-- A sheet and its archive are both a header and a table of numbers of 32 bits, line after line ("Year sheet" of document 01:
-- "1,184 bytes. Header of 32 .. Then twelve months of 24 numbers of 32 bits"). A sheet has a line for each month, an archive
-- one for each column.
use Rattle.std.specs.Prelude.{ℕ, zero, suc, ◌+◌, ◌*◌, List, [], ◌++◌, take}
use Rattle.codec.specs.Bytes.{bytes_of, number}

-- "Header of 32"
abbrev pub header_length : ℕ
header_length = 32

unfoldable pub header : List ℕ → List ℕ
header t = take header_length t

-- the number at a place of a line, in a table of so many places a line: in a sheet, of 24, at byte 32 + 96·month + 4·place; in
-- an archive, of 12, at byte 32 + 48·column + 4·month
unfoldable pub number_in : ℕ → List ℕ → ℕ → ℕ → ℕ
number_in places t i j = number 4 (header_length + 4 * (places * i + j)) t

-- g 0, g 1, .. g (n − 1), one after the other
unfoldable pub pieces : ℕ → (ℕ → List ℕ) → List ℕ
pieces zero g = []
pieces (suc n) g = pieces n g ++ g n

-- a line of numbers, and the lines of a table, each number of four bytes
unfoldable pub table_line : ℕ → (ℕ → ℕ) → List ℕ
table_line places f = pieces places (λ j. bytes_of 4 (f j))

unfoldable pub table_lines : ℕ → ℕ → (ℕ → ℕ → ℕ) → List ℕ
table_lines n places f = pieces n (λ i. table_line places (f i))

abbrev pub table_length : ℕ → ℕ → ℕ
table_length n places = header_length + 4 * (places * n)
