-- The image of the head: its length and its zero bytes, and what its two fields read.
use Prim.Native.Nat.{ℕ, ◌^◌, ◌<◌}
use mathlib.Core.Path.{◌≡◌, refl}
use mathlib.Core.Bool.{true}
use lib.ListN.{length}
use Rattle.units.specs.Limits.{record_length}
use Rattle.book_layout.specs.Fields.{get, all_zero, unnamed_of_head, used_field, first_user_field}
use Rattle.book_layout.proofs.Cells.{length-image, read-image, unnamed-image}
use Rattle.book_layout.proofs.ByteRanges.{Bytes, bytes-image}
use Rattle.book_records.specs.Records.{head_cells, head_image}

module _ (used first : ℕ) where
  pub length-head-image : length (head_image used first) ≡ record_length
  unfolding head_image
  length-head-image = length-image (head_cells used first) refl

  pub bytes-head-image : Bytes (head_image used first)
  unfolding head_image
  bytes-head-image = bytes-image (head_cells used first)

  pub head-unnamed : all_zero unnamed_of_head (head_image used first) ≡ true
  unfolding head_image
  head-unnamed = unnamed-image (head_cells used first) refl unnamed_of_head refl

  pub head-used : used < 2 ^ 32 → get used_field (head_image used first) ≡ used
  unfolding head_image
  head-used h = read-image (head_cells used first) refl refl 0 h

  pub head_first : first < 2 ^ 32 → get first_user_field (head_image used first) ≡ first
  unfolding head_image
  head_first h = read-image (head_cells used first) refl refl 1 h
