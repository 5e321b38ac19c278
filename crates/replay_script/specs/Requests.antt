-- What a line of a script asks: the words in ASCII, what has to stand after each, and every other line nothing.
use Rattle.std.specs.Prelude.{ℕ, ◌+◌, ◌*◌, ◌/◌, Bool, ◌&&◌, if◌then◌else◌, ◌==◌, nat_le, nat_lt, List, [], ◌∷◌, length, drop, slice_index}
use Rattle.std.specs.Prelude.{Option, Some, None, option_map, codes}
use Rattle.std.specs.List.{list_all, zip}
use Rattle.std.specs.Str.{bytes_eq}
use Rattle.text.specs.Text.{◌>>=◌, begins_with_blank, fields, first_word, after_word, is_hex}
use Rattle.text.specs.declared.Hex.{Hex}
use Rattle.replay_script.specs.declared.Request.{Request}
use Rattle.replay_script.specs.declared.Request.TheVariants as request

-- the longest buffer in bytes, and the longest line: `load`, a blank and two digits for each of its bytes
abbrev pub longest_book : ℕ
longest_book = 65536

abbrev pub longest_line : ℕ
longest_line = length (codes "load") + 1 + 2 * longest_book

-- the largest numbers of 8, 16, 32 and 64 bits
abbrev pub most8 : ℕ
most8 = 255

abbrev pub most16 : ℕ
most16 = 65535

abbrev pub most32 : ℕ
most32 = 4294967295

abbrev pub most64 : ℕ
most64 = 18446744073709551615

-- the widths of the arguments in the exported interface, in the order of the line
abbrev pub enrol_most : List ℕ
enrol_most = most32 ∷ most8 ∷ most8 ∷ most8 ∷ most32 ∷ most16 ∷ most8 ∷ most8 ∷ []

abbrev pub elect_most : List ℕ
elect_most = most32 ∷ most8 ∷ most32 ∷ most32 ∷ most32 ∷ []

abbrev pub advance_most : List ℕ
advance_most = most32 ∷ most32 ∷ most8 ∷ most64 ∷ most64 ∷ most64 ∷ []

-- a request, with something else in the place of its bytes
abbrev pub with_bytes : {A B : Type 0} → (A → B) → Request A → Request B
with_bytes f (request.New n) = request.New n
with_bytes f (request.Load bytes) = request.Load (f bytes)
with_bytes f request.Fresh = request.Fresh
with_bytes f (request.Enrol number class plant option power year month island) =
    request.Enrol number class plant option power year month island
with_bytes f (request.Elect number option year month day) = request.Elect number option year month day
with_bytes f (request.Advance number year run rate estimate1 estimate2) = request.Advance number year run rate estimate1 estimate2
with_bytes f (request.Close bytes) = request.Close (f bytes)
with_bytes f (request.Charge number) = request.Charge number
with_bytes f (request.Statement number) = request.Statement number
with_bytes f (request.Archive sheet buffer) = request.Archive (f sheet) (f buffer)
with_bytes f (request.Restore archive buffer) = request.Restore (f archive) (f buffer)
with_bytes f (request.Raise sheet factor) = request.Raise (f sheet) factor
with_bytes f (request.ReadMeasures sheet text) = request.ReadMeasures (f sheet) (f text)
with_bytes f (request.WriteMeasures sheet buffer) = request.WriteMeasures (f sheet) (f buffer)
with_bytes f (request.MoreSun sheet month band) = request.MoreSun (f sheet) month band
with_bytes f request.Dump = request.Dump
with_bytes f request.List = request.List

-- what was read, with the digits of the bytes
abbrev pub asked : Option (Request Hex) → Option (Request (List ℕ))
asked r = option_map (with_bytes (λ h. h.digits.now)) r

abbrev pub is_end : List ℕ → Bool
is_end rest = length rest == 0

-- each number is at most the one beside it
unfoldable pub all_within : List ℕ → List ℕ → Bool
all_within values most = list_all (λ p. nat_le p.0 p.1) (zip values most)

-- to its end the line is one number for each of these, at most that, with one blank before each
unfoldable pub arguments : List ℕ → List ℕ → Option (List ℕ)
arguments most rest = do
  read ← fields (length most) rest
  if all_within read.0 most && is_end read.1 then Some read.0 else None

-- digits in hexadecimal, two for each of at most so many bytes as the longest book has
unfoldable pub digits_of : List ℕ → Option (List ℕ)
digits_of text = if is_hex text && nat_le (length text / 2) longest_book then Some text else None

-- to its end the line is one blank and digits, or nothing
unfoldable pub bytes : List ℕ → Option (List ℕ)
bytes rest = if is_end rest then digits_of [] else (if begins_with_blank rest then digits_of (drop 1 rest) else None)

-- a word of bytes, after one blank: digits, or `-` for none; and what stands after it
unfoldable pub one_word : List ℕ → Option (List ℕ)
one_word w = if bytes_eq w (codes "-") then digits_of [] else (if is_end w then None else digits_of w)

unfoldable pub word : List ℕ → Option (List ℕ × List ℕ)
word rest = if begins_with_blank rest then (do
  digits ← one_word (first_word (drop 1 rest))
  Some (digits, after_word (drop 1 rest))) else None

-- two such words, to the end of the line
unfoldable pub words : List ℕ → Option (List ℕ × List ℕ)
words rest = do
  first ← word rest
  second ← word first.1
  if is_end second.1 then Some (first.0, second.0) else None

-- what has to stand after a word
unfoldable pub new_request : List ℕ → Option (Request (List ℕ))
new_request rest = do
  n ← arguments (longest_book ∷ []) rest
  Some (request.New (slice_index n 0))

abbrev pub alone_request : {A : Type 0} → List ℕ → A → Option A
alone_request rest request = if is_end rest then Some request else None

unfoldable pub enrol_request : List ℕ → Option (Request (List ℕ))
enrol_request rest = do
  n ← arguments enrol_most rest
  let at : ℕ → ℕ = slice_index n
  Some (request.Enrol (at 0) (at 1) (at 2) (at 3) (at 4) (at 5) (at 6) (at 7))

unfoldable pub elect_request : List ℕ → Option (Request (List ℕ))
elect_request rest = do
  n ← arguments elect_most rest
  let at : ℕ → ℕ = slice_index n
  Some (request.Elect (at 0) (at 1) (at 2) (at 3) (at 4))

unfoldable pub advance_request : List ℕ → Option (Request (List ℕ))
advance_request rest = do
  n ← arguments advance_most rest
  let at : ℕ → ℕ = slice_index n
  Some (request.Advance (at 0) (at 1) (at 2) (at 3) (at 4) (at 5))

unfoldable pub number_alone : List ℕ → Option ℕ
number_alone rest = do
  n ← arguments (most32 ∷ []) rest
  Some (slice_index n 0)

unfoldable pub raise_request : List ℕ → Option (Request (List ℕ))
raise_request rest = do
  sheet ← word rest
  n ← arguments (most32 ∷ []) sheet.1
  Some (request.Raise sheet.0 (slice_index n 0))

-- a sheet, a month and a band
unfoldable pub more_sun_request : List ℕ → Option (Request (List ℕ))
more_sun_request rest = do
  sheet ← word rest
  n ← arguments (most32 ∷ most32 ∷ []) sheet.1
  Some (request.MoreSun sheet.0 (slice_index n 0) (slice_index n 1))

-- the request of a word, by what stands after it
unfoldable pub request_of_word : List ℕ → List ℕ → Option (Request (List ℕ))
request_of_word w rest =
    if bytes_eq w (codes "new") then new_request rest
    else (if bytes_eq w (codes "load") then option_map request.Load (bytes rest)
    else (if bytes_eq w (codes "fresh") then alone_request rest request.Fresh
    else (if bytes_eq w (codes "dump") then alone_request rest request.Dump
    else (if bytes_eq w (codes "list") then alone_request rest request.List
    else (if bytes_eq w (codes "enrol") then enrol_request rest
    else (if bytes_eq w (codes "elect") then elect_request rest
    else (if bytes_eq w (codes "advance") then advance_request rest
    else (if bytes_eq w (codes "close") then option_map request.Close (bytes rest)
    else (if bytes_eq w (codes "charge") then option_map request.Charge (number_alone rest)
    else (if bytes_eq w (codes "statement") then option_map request.Statement (number_alone rest)
    else (if bytes_eq w (codes "moresun") then more_sun_request rest
    else (if bytes_eq w (codes "raise") then raise_request rest
    else (if bytes_eq w (codes "archive") then option_map (λ two. request.Archive two.0 two.1) (words rest)
    else (if bytes_eq w (codes "restore") then option_map (λ two. request.Restore two.0 two.1) (words rest)
    else (if bytes_eq w (codes "readmeasures") then option_map (λ two. request.ReadMeasures two.0 two.1) (words rest)
    else (if bytes_eq w (codes "writemeasures") then option_map (λ two. request.WriteMeasures two.0 two.1) (words rest)
    else None))))))))))))))))

-- the request of a line: its word stands before the first blank, and a line is not longer than `load` with the longest book
unfoldable pub request_of : List ℕ → Option (Request (List ℕ))
request_of line = if nat_lt longest_line (length line) then None else request_of_word (first_word line) (after_word line)
