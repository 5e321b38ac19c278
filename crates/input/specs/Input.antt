-- How much is read, and line feeds among bytes.
use Rattle.std.specs.Prelude.{ℕ, ◌≤◌, ◌<◌, ◌≡◌, ◌≢◌, List, length, get_or, take, All, Option, Result, Ok, Err}
use Rattle.std.specs.Io.KnownBytes.{Consumes, IsAtEnd}
use Rattle.std.specs.declared.io.Error.{Error}

abbrev pub room_for_lines : ℕ
room_for_lines = 262144

-- a byte more than the longest book has
abbrev pub room_for_book : ℕ
room_for_book = 64001

-- no line feed is among these bytes
abbrev pub Unfed : List ℕ → Type 0
Unfed bytes = All (λ b. b ≢ 10) bytes

-- the first line feed stands at a place
pub record FirstFeed (bytes : List ℕ) (at : ℕ) : Type 0 where
  pub within : at < length bytes
  pub before : Unfed (take at bytes)
  pub feed : get_or bytes at 0 ≡ 10

-- What stands at the front of lent bytes is what the reader had next: all that it had where they are not full. What came before a
-- failure stands there too.
abbrev pub AllTaken : Option (List ℕ) → Option (List ℕ) → List ℕ → Result ℕ Error → Type 0
AllTaken old new bytes (Ok n) = Consumes old new (take n bytes) × (n < length bytes → IsAtEnd new)
AllTaken old new bytes (Err e) = (n : ℕ) × (n ≤ length bytes) × Consumes old new (take n bytes)
