-- Amounts as they are printed: in euro with five decimals, a column each.
use Rattle.std.specs.Prelude.{ℕ, zero, suc, ◌+◌, ◌-◌, ◌/◌, ◌%◌, Bool, List, [], ◌∷◌, ◌++◌, length, replicate, if◌then◌else◌, nat_lt}
use Rattle.std.specs.Fmt.{decimal, sign_text}

-- the width of a column, and ticks to the euro
abbrev pub column_width : ℕ
column_width = 19

abbrev pub ticks_per_euro : ℕ
ticks_per_euro = 100000

-- blanks fill the column before so many characters; at least one stands there
abbrev pub blanks_before : ℕ → ℕ
blanks_before n = if nat_lt n column_width then column_width - n else 1

-- the last digits of a number, so many
abbrev pub last_digits : ℕ → ℕ → List ℕ
last_digits zero n = []
last_digits (suc k) n = last_digits k (n / 10) ++ ((48 + n % 10) ∷ [])

-- an amount: blanks, the sign, the euro in decimal, a point, the ticks in five digits
unfoldable pub amount : Bool → ℕ → List ℕ
amount negative ticks =
    let sign = sign_text negative in
    let euros = decimal (ticks / ticks_per_euro) in
    replicate (blanks_before (length euros + 6 + length sign)) 32 ++ (sign ++ (euros ++ (46 ∷ last_digits 5 ticks)))
