-- What a length that fits says, in bytes and in records.
use Prim.Native.Nat.{ℕ, ◌%◌, ◌≤◌}
use mathlib.Core.Path.{◌≡◌}
use mathlib.Core.Bool.{true, ◌&&◌}
use mathlib.Core.List.{List}
use native.Mathlib.Omega.{arith}
use borrow.Author.Tests.{leb-true, eqb-true}
use lib.Dec.{leb, eqb}
use lib.ListN.{length}
use Rattle.units.specs.Limits.{record_length, most_records}
use Rattle.units.proofs.Bools.{and_left, and_right}
use Rattle.book_layout.specs.Fields.{capacity}
use Rattle.book_rules.specs.Book.{length_fits}

module _ (b : List ℕ) (fits : length_fits b ≡ true) where
  within-length : (leb 160 (length b) && leb (length b) 64000) ≡ true
  unfolding length_fits
  within-length = and_left (leb 160 (length b) && leb (length b) 64000) (eqb (length b % record_length) 0) fits

  pub length-least : 160 ≤ length b
  length-least = leb-true 160 (length b) (and_left (leb 160 (length b)) (leb (length b) 64000) within-length)

  pub length_most : length b ≤ 64000
  length_most = leb-true (length b) 64000 (and_right (leb 160 (length b)) (leb (length b) 64000) within-length)

  pub length_whole : length b % record_length ≡ 0
  unfolding length_fits
  length_whole = eqb-true (length b % record_length) 0 (and_right (leb 160 (length b) && leb (length b) 64000) (eqb (length b % record_length) 0) fits)

  pub capacity-least : 2 ≤ capacity b
  capacity-least = let l = length-least in omega arith

  pub capacity-most : capacity b ≤ most_records
  capacity-most = let l = length_most in omega arith
