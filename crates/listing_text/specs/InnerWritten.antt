-- The pieces of a line: a number with the byte after it, and the line of an account. What is answered of a listing.
use Rattle.std.specs.Prelude.{ℕ, ◌+◌, ◌-◌, ◌*◌, ◌≤◌, ◌<◌, ◌≡◌, List, [], ◌∷◌, ◌++◌, length, Option, MatchOption}
use Rattle.units.specs.Limits.{most_records}
use Rattle.account_steps.specs.declared.Account.{Account}
use Rattle.codec.specs.Bytes.{stored}
use Rattle.decimals.specs.Decimals.{line_feed}
use Rattle.listing_text.specs.Listing.{most_digits, decimal, blank, listing}

-- the lengths of a number with a byte after it, of "refused " with one, of three of them, and of the lines of all users
abbrev pub longest_field : ℕ
longest_field = most_digits + 1

abbrev pub longest_refusal : ℕ
longest_refusal = 8 + longest_field

abbrev pub longest_user_line : ℕ
longest_user_line = 3 * longest_field

-- all records but the head
abbrev pub most_users : ℕ
most_users = most_records - 1

abbrev pub longest_text : ℕ
longest_text = most_users * longest_user_line

unfoldable pub field : ℕ → ℕ → List ℕ
field n after = decimal n ++ (after ∷ [])

-- a number with the byte after it stands at its place, and is not too long
pub record FieldPut (at n stop : ℕ) (before after : List ℕ) (r : ℕ) : Type 0 where
  pub end : r ≡ at + length (field n stop)
  pub stands : after ≡ stored at (field n stop) before
  pub most : r ≤ at + longest_field

-- a text stands at the front
pub record TextFirst (text before after : List ℕ) (r : ℕ) : Type 0 where
  pub end : r ≡ length text
  pub stands : after ≡ stored 0 text before

-- "number, open year and credit of each user, decimal, one blank between .. A line feed ends each line"
unfoldable pub account_line : Account → List ℕ
account_line a = field a.number.0 blank ++ (field a.open_year blank ++ field a.credit.0 line_feed)

-- the whole listing stands at the front of the text; there was room for the longest one
pub record AllWritten (b before after : List ℕ) (n : ℕ) : Type 0 where
  pub room : longest_text ≤ length before
  pub count : n ≡ length (listing b)
  pub text : after ≡ stored 0 (listing b) before
  pub within : n ≤ length after

-- a shorter text stays as it was, whatever the book
pub record NoneWritten (before after : List ℕ) : Type 0 where
  pub short : length before < longest_text
  pub same : after ≡ before

abbrev pub ListingAnswered : List ℕ → List ℕ → List ℕ → Option ℕ → Type 0
ListingAnswered b before after r = MatchOption r (NoneWritten before after) (AllWritten b before after)
