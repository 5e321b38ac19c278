-- "Grid operator's text file" (document 02, ticket 2), over the functions of `ssp`, under whose contracts other programs link them
-- (`Rattle.ssp_c.proofs.Linked`): what the writer wrote, the reader reads back. In a call `a` are the arguments, `r` the answer, `s`
-- the arguments at the end; the writer's are the sheet and the text, the reader's too.
use Rattle.std.specs.Prelude.{ℕ, ◌<◌, ◌≡◌, length, take}
use Rattle.sheet.specs.YearSheet.{sheet_length, word}
use Rattle.sheet_text.specs.Lines.{months, readings}
use Rattle.ssp.proofs.ssp_read_measures.Reads as read-of
use Rattle.ssp.proofs.ssp_write_measures.Reads as write-of

-- "Reading them back restores those kWh", in any sheet: the reader is lent the bytes that the writer answered for
pub record MeasuresBack : Type 1 where
  pub accepted : (κs : _) (a : _) (r : _) (s : _) → write-of.Post κs a r s → r.refusal ≡ 0
      → (κs' : _) (a' : _) (r' : _) (s' : _) → read-of.Post κs' a' r' s'
      → a'.1.0.now ≡ take r.length s.1.0.now
      → length a'.0.now ≡ sheet_length → r'.refusal ≡ 0
  pub restored : (κs : _) (a : _) (r : _) (s : _) → write-of.Post κs a r s → r.refusal ≡ 0
      → (κs' : _) (a' : _) (r' : _) (s' : _) → read-of.Post κs' a' r' s'
      → a'.1.0.now ≡ take r.length s.1.0.now
      → length a'.0.now ≡ sheet_length
      → (m p : ℕ) → m < months → p < readings → word s'.0.now m p ≡ word a.0.now m p
