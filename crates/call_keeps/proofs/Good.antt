-- A good book: bytes, a length that fits, no fault; and the sizes that follow from it.
use Prim.Native.Nat.{ℕ, ◌%◌, ◌≤◌, ◌<◌}
use mathlib.Core.Path.{◌≡◌}
use mathlib.Core.Bool.{true}
use mathlib.Core.List.{List}
use native.Mathlib.Omega.{arith}
use borrow.Author.Tests.{eqb-false, not-true}
use lib.Dec.{eqb}
use lib.ListN.{length}
use Rattle.units.specs.Limits.{record_length}
use Rattle.book_layout.specs.Fields.{capacity}
use Rattle.book_layout.proofs.ByteRanges.{Bytes}
use Rattle.book_rules.specs.Book.{length_fits, used, used_fits, sound}
use Rattle.book_rules.proofs.Lengths.{length-least, length_most, length_whole}
use Rattle.book_rules.proofs.Faults.{used-within}
use Rattle.book_rules.proofs.Faultless.{Faultless, sound-faultless, faultless-sound}
use Rattle.call_rules.specs.Refusals.{has_room}

pub record Good (b : List ℕ) : Type 0 where
  pub bytes : Bytes b
  pub length : length_fits b ≡ true
  pub faultless : Faultless b

pub record Sizes (b : List ℕ) : Type 0 where
  pub from : 160 ≤ length b
  pub to : length b ≤ 64000
  pub whole : length b % record_length ≡ 0
  pub some : 1 ≤ used b
  pub most : used b ≤ capacity b

pub sizes : (b : List ℕ) → Good b → Sizes b
sizes b g =
    let l = g.length in
    let u = used-within b g.faultless.used-fits in
    record { from = length-least b l; to = length_most b l; whole = length_whole b l; some = u.0; most = u.1 }

-- sound books are good, and good ones sound
pub sound-good : (b : List ℕ) → Bytes b → length_fits b ≡ true → sound b ≡ true → Good b
sound-good b bytes l s = record { bytes = bytes; length = l; faultless = sound-faultless b l s }

pub good-sound : (b : List ℕ) → Good b → sound b ≡ true
good-sound b g = faultless-sound b g.faultless

-- "3 u equals the capacity"
pub room-left : (b : List ℕ) → used_fits b ≡ true → has_room b ≡ true → used b < capacity b
unfolding has_room
room-left b u h =
    let other = eqb-false (used b) (capacity b) (not-true (eqb (used b) (capacity b)) h) in
    omega (arith, (used-within b u).1)

pub room : (b : List ℕ) → Good b → has_room b ≡ true → used b < capacity b
room b g h = room-left b g.faultless.used-fits h
