-- Decimal numbers as text. A text is a list of bytes in ASCII; a byte past its end reads as 0, which is no digit.
use Rattle.std.specs.Prelude.{ℕ, zero, suc, ◌+◌, ◌-◌, ◌*◌, ◌/◌, ◌%◌, ◌≤◌, min, ◌≡◌, Bool, true, false, cond, not, ◌&&◌, ◌||◌}
use Rattle.std.specs.Prelude.{List, [], ◌∷◌, ◌++◌, leb, ltb, length}
use Rattle.std.specs.Prelude.{eqb, get_or, drop}
use Rattle.decimals.specs.declared.DigitRun.{DigitRun}

-- WRITTEN: the digits of a number, without a zero in front. `decimal_of` writes at most so many; a number has fewer digits than
-- one more than itself.
unfoldable pub decimal_of : ℕ → ℕ → List ℕ
decimal_of zero n = []
decimal_of (suc digits) n = cond (ltb n 10) ((48 + n) ∷ []) (decimal_of digits (n / 10) ++ ((48 + n % 10) ∷ []))

unfoldable pub decimal : ℕ → List ℕ
decimal n = decimal_of (suc n) n

-- a number with one byte behind it
unfoldable pub field : ℕ → ℕ → List ℕ
field n stop = decimal n ++ (stop ∷ [])

-- the byte that ends a line
abbrev pub line_feed : ℕ
line_feed = 10

-- READ: `0`–`9`
unfoldable pub is_digit : ℕ → Bool
is_digit b = leb 48 b && leb b 57

-- how many digits stand at the front of a text, and the number that they stand for, also behind the digits of n
unfoldable pub digits : List ℕ → ℕ
digits [] = 0
digits (b ∷ bs) = cond (is_digit b) (suc (digits bs)) 0

unfoldable pub value_after : ℕ → List ℕ → ℕ
value_after n [] = n
value_after n (b ∷ bs) = cond (is_digit b) (value_after (n * 10 + (b - 48)) bs) n

abbrev pub value : List ℕ → ℕ
value t = value_after 0 t

-- a text begins with a number: a digit, and no `0` in front of another digit
unfoldable pub begins_number : List ℕ → Bool
begins_number t = ltb 0 (digits t) && (eqb (digits t) 1 || not (eqb (get_or t 0 0) 48))

-- it begins with a number and the byte `stop` behind it; what stands behind that byte
unfoldable pub begins_field : ℕ → List ℕ → Bool
begins_field stop t = begins_number t && eqb (get_or t (digits t) 0) stop

unfoldable pub behind : List ℕ → List ℕ
behind t = drop (suc (digits t)) t

-- What is read at the front of a text: how many digits, and their number, `most` where it is larger; and of a field that stands there
-- the number and what is behind it; where none stands there, the same of the digits at the front and the byte that follows them.
pub record RunRead (t : List ℕ) (most : ℕ) (r : DigitRun) : Type 0 where
  pub count : r.count ≡ digits t
  pub within : r.count ≤ length t
  pub value : r.value ≡ min (value t) most

pub record FieldRead (t : List ℕ) (stop most n : ℕ) (after : List ℕ) : Type 0 where
  pub stands : begins_field stop t ≡ true
  pub value : n ≡ min (value t) most
  pub rest : after ≡ behind t

pub record FieldMissing (t : List ℕ) (stop most n : ℕ) (after : List ℕ) : Type 0 where
  pub missing : begins_field stop t ≡ false
  pub value : n ≡ min (value t) most
  pub rest : after ≡ behind t
