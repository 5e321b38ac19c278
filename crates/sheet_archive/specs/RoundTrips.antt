-- What holds of the archive and the way back, for every number of columns and of months; the two calls are the case of 24
-- and twelve. The bytes are any: all that is asked of them is that each is a byte.
use Rattle.std.specs.Prelude.{◌≡◌, ℕ, ◌<◌, List, length, slice_index}
use Rattle.sheet.specs.YearSheet.{sheet_length}
use Rattle.sheet_archive.specs.Tables.{table_length}
use Rattle.sheet_archive.specs.Archive.{archive_of, sheet_of, archive_after, restored_after}

pub record Buffer (size : ℕ) (b : List ℕ) : Type 0 where
  pub long : length b ≡ size
  pub bytes : (k : ℕ) → slice_index b k < 256

pub record RoundTrips (columns months : ℕ) : Type 0 where
  -- "The way back restores all 1,184 bytes, whatever they are."
  pub restored : (s : List ℕ) → Buffer (table_length months columns) s → sheet_of columns months (archive_of columns months s) ≡ s
  -- "Any buffer of that size is a valid archive."
  pub valid : (a : List ℕ) → Buffer (table_length columns months) a → archive_of columns months (sheet_of columns months a) ≡ a

-- the same of the buffers that the two calls write, whatever stood in them
pub record CallsBack : Type 0 where
  pub restored : (s a t : List ℕ) → Buffer sheet_length s → length a ≡ sheet_length → length t ≡ sheet_length
      → restored_after (archive_after s a) t ≡ s
  pub valid : (a s b : List ℕ) → Buffer sheet_length a → length s ≡ sheet_length → length b ≡ sheet_length
      → archive_after (restored_after a s) b ≡ a
