-- A text that is written into a slice.
use Rattle.std.specs.Prelude.{ℕ, ◌+◌, ◌≡◌, List, length}
use Rattle.codec.specs.Bytes.{stored}

-- it stands at its place, and its end is told
pub record TextPut (at : ℕ) (text before after : List ℕ) (r : ℕ) : Type 0 where
  pub end : r ≡ at + length text
  pub stands : after ≡ stored at text before
