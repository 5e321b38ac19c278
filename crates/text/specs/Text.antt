-- What a text holds: decimal numbers with one blank before each, words, bytes in hexadecimal. A text is a list of bytes in ASCII. What
-- is read at its front is given with the text after it.
use Rattle.std.specs.Prelude.{ℕ, zero, suc, ◌^◌, ◌/◌, ◌%◌, Bool, ◌&&◌, ◌||◌, not, nat_lt, nat_le, ◌==◌, false, if◌then◌else◌}
use Rattle.std.specs.Prelude.{List, [], ◌∷◌, ◌++◌, length, take, drop, slice_index, Option, Some, None, option_and_then}
use Rattle.std.specs.Char.{is_ascii_digit}
use Rattle.std.specs.Fmt.{digit_glyph}
use Rattle.std.specs.List.{prefix_len, list_all, flat_map}
use Rattle.std.specs.Str.Parse.{digits_value}

infixl 10 ◌>>=◌
abbrev pub ◌>>=◌ : {A B : Type 0} → Option A → (A → Option B) → Option B
o >>= f = option_and_then f o

-- how many digits a text begins with
abbrev pub digits : List ℕ → ℕ
digits text = prefix_len is_ascii_digit text

-- the number that digits write, where they are one or more and it is below 2^64
unfoldable pub number_of : List ℕ → Option ℕ
number_of ds = if nat_lt 0 (length ds) && nat_lt (digits_value 10 ds) (2 ^ 64) then Some (digits_value 10 ds) else None

-- the number that a text begins with, and the text after it
unfoldable pub first_number : List ℕ → Option (ℕ × List ℕ)
first_number text = do
  value ← number_of (take (digits text) text)
  Some (value, drop (digits text) text)

-- one blank and a number
abbrev pub begins_with_blank : List ℕ → Bool
begins_with_blank text = slice_index text 0 == 32

unfoldable pub field : List ℕ → Option (ℕ × List ℕ)
field text = if begins_with_blank text then first_number (drop 1 text) else None

-- n numbers, each after one blank
unfoldable pub fields : ℕ → List ℕ → Option (List ℕ × List ℕ)
fields zero text = Some ([], text)
fields (suc n) text = do
  front ← fields n text
  last ← field front.1
  Some (front.0 ++ (last.0 ∷ []), last.1)

-- what stands before the first blank, all where there is none, and what stands from it on
abbrev pub word_length : List ℕ → ℕ
word_length text = prefix_len (λ b. not (b == 32)) text

unfoldable pub first_word : List ℕ → List ℕ
first_word text = take (word_length text) text

unfoldable pub after_word : List ℕ → List ℕ
after_word text = drop (word_length text) text

-- `0`–`9` and `a`–`f`, two for each byte
unfoldable pub is_hex_digit : ℕ → Bool
is_hex_digit b = is_ascii_digit b || (nat_le 97 b && nat_le b 102)

unfoldable pub is_hex : List ℕ → Bool
is_hex text = (length text % 2 == 0) && list_all is_hex_digit text

-- the digits of bytes: the upper half of each first
abbrev pub byte_digits : ℕ → List ℕ
byte_digits b = digit_glyph false (b / 16) ∷ digit_glyph false (b % 16) ∷ []

unfoldable pub hex_of : List ℕ → List ℕ
hex_of bytes = flat_map byte_digits bytes
