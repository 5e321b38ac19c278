-- Input that fills the buffer, 64,001 bytes or more, has no length that a book has.
use Prim.Native.Nat.{ℕ}
use mathlib.Core.Path.{◌≡◌}
use mathlib.Core.Bool.{false}
use mathlib.Core.List.{List}
use lib.ListN.{length}
use Rattle.book_rules.specs.Book.{length_fits}
use Rattle.input.specs.Input.{room_for_book}

pub full-refused : (b : List ℕ) → length b ≡ room_for_book → length_fits b ≡ false
unfolding length_fits
full-refused b full = rw full
