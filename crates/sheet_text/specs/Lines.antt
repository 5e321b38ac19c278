-- "Grid operator's text file" (document 02, ticket 2): "Operators send monthly measures as lines of seven decimal numbers with
-- semicolons: month, three withdrawn, three injected. A number has no sign, blank or needless leading zero, and a line feed ends
-- each line." Months, lines and places in a month are counted from 0 here; place p of a month is the sheet's.
use Rattle.std.specs.Prelude.{ℕ, zero, suc, ◌+◌, Bool, ◌&&◌, List, [], ◌++◌, eqb}
use Rattle.decimals.specs.Decimals.{field, value, begins_field, behind, line_feed}

abbrev pub semicolon : ℕ
semicolon = 59

-- "twelve such lines in month order"
abbrev pub months : ℕ
months = 12

-- "three withdrawn, three injected"
abbrev pub readings : ℕ
readings = 6

-- WRITTEN: the line that says so many kWh at each place, for the month that is written in front
unfoldable pub line : ℕ → (ℕ → ℕ) → List ℕ
line month kwh =
    field month semicolon
    ++ (field (kwh 0) semicolon
    ++ (field (kwh 1) semicolon
    ++ (field (kwh 2) semicolon
    ++ (field (kwh 3) semicolon
    ++ (field (kwh 4) semicolon
    ++ field (kwh 5) line_feed)))))

-- the first n lines, and the twelve of a year
unfoldable pub lines : ℕ → (ℕ → ℕ → ℕ) → List ℕ
lines zero kwh = []
lines (suc m) kwh = lines m kwh ++ line (m + 1) (kwh m)

abbrev pub year_text : (ℕ → ℕ → ℕ) → List ℕ
year_text kwh = lines months kwh

-- READ: a text from its number k on, each number with one byte behind it
unfoldable pub from_number : ℕ → List ℕ → List ℕ
from_number zero t = t
from_number (suc k) t = behind (from_number k t)

-- a text begins with a line of the shape that is asked, for the month that it is asked for
unfoldable pub begins_line : ℕ → List ℕ → Bool
begins_line month t =
    (begins_field semicolon t && eqb (value t) month)
    && (begins_field semicolon (from_number 1 t)
    && (begins_field semicolon (from_number 2 t)
    && (begins_field semicolon (from_number 3 t)
    && (begins_field semicolon (from_number 4 t)
    && (begins_field semicolon (from_number 5 t)
    && begins_field line_feed (from_number 6 t))))))

-- the number at a place of the line at the front, and what stands behind that line
abbrev pub kwh_at : List ℕ → ℕ → ℕ
kwh_at t place = value (from_number (suc place) t)

abbrev pub behind_line : List ℕ → List ℕ
behind_line t = from_number 7 t

-- a text from its line m on, and the number at a place of that line
unfoldable pub from_line : ℕ → List ℕ → List ℕ
from_line zero t = t
from_line (suc m) t = behind_line (from_line m t)

unfoldable pub kwh_in : List ℕ → ℕ → ℕ → ℕ
kwh_in t m place = kwh_at (from_line m t) place
