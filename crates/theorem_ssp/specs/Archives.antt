-- "Sheets for the archive" (document 02, ticket 14), over the functions of `ssp`, under whose contracts other programs link them
-- (`Rattle.ssp_c.proofs.Linked`): what one of two accepted calls wrote, the other turns back, byte by byte. In a call `a` are the
-- arguments, `r` the answer, `s` the arguments at the end; the source is the first, the buffer that is written the second.
use Rattle.std.specs.Prelude.{ℕ, ◌<◌, ◌≡◌, List, get_or}
use Rattle.ssp.proofs.ssp_archive.Reads as archive-of
use Rattle.ssp.proofs.ssp_restore.Reads as restore-of

abbrev pub Bytes : List ℕ → Type 0
Bytes b = (k : ℕ) → get_or b k 0 < 256

pub record ArchivesBack : Type 1 where
  -- "The way back restores all 1,184 bytes, whatever they are."
  pub restored : (κs : _) (a : _) (r : _) (s : _) → archive-of.Post κs a r s → r ≡ 0
      → (κs' : _) (a' : _) (r' : _) (s' : _) → restore-of.Post κs' a' r' s' → r' ≡ 0 → a'.0.now ≡ s.1.0.now
      → Bytes a.0.now → s'.1.0.now ≡ a.0.now
  -- "Any buffer of that size is a valid archive."
  pub valid : (κs : _) (a : _) (r : _) (s : _) → restore-of.Post κs a r s → r ≡ 0
      → (κs' : _) (a' : _) (r' : _) (s' : _) → archive-of.Post κs' a' r' s' → r' ≡ 0 → a'.0.now ≡ s.1.0.now
      → Bytes a.0.now → s'.1.0.now ≡ a.0.now
