-- Both round trips are the identity: the numbers written are read back, differences and sums undo each other, and a table is
-- put together again from its own numbers.
use Rattle.std.proofs.Common.{◌≡◌, ℕ, ◌+◌, ◌*◌, ◌^◌, ◌<◌, ◌≤◌, Bool, true, false, List, ◌++◌, length, sym, refl, ap, ◌∙◌, ap₂, arith, length-append}
use Rattle.sheet.specs.YearSheet.{sheet_length}
use Rattle.codec.proofs.ByteRanges.{Bytes, number-below}
use Rattle.sheet_archive.specs.Tables.{header_length, header, number_in, table_lines, table_length}
use Rattle.sheet_archive.specs.Archive.{differences, sums, in_sheet, in_archive, archive_of, sheet_of, sheet_columns, sheet_months, sizes_fit, size_answer, archive_after, restored_after}
use Rattle.sheet_archive.specs.RoundTrips.{Buffer, RoundTrips, CallsBack}
use Rattle.sheet_archive.proofs.Tables.{length-header, header-first, length-lines, lines-cong, number-in-lines, table-back}
use Rattle.sheet_archive.proofs.Calls.{source_fits, destination-fits, sizes-fit, accepted-archive, accepted-sheet}
use Rattle.sheet_archive.proofs.Columns.{Words, differences-words, sums-words, differences-cong, sums-cong, sums-of-differences, differences-of-sums}

numbers-words : (places : ℕ) (t : List ℕ) → Bytes t → (i j : ℕ) → number_in places t i j < 2 ^ 32
unfolding number_in
numbers-words places t b i j = number-below 4 (header_length + 4 * (places * i + j)) t b

module _ (columns months : ℕ) where
  module _ (s : List ℕ) (b : Buffer (table_length months columns) s) where
    column-words : (column : ℕ) → Words (in_sheet columns s column)
    column-words column month = numbers-words columns s b.bytes month column

    long-header : length (header s) ≡ header_length
    long-header = length-header s (omega (arith, b.long))

    -- the archive has the differences of the sheet's columns
    archived : (column month : ℕ) → column < columns → month < months
        → in_archive months (archive_of columns months s) column month ≡ differences (in_sheet columns s column) month
    unfolding archive_of
    archived column month lc lm =
        number-in-lines columns months (header s) (λ c. differences (in_sheet columns s c)) column month long-header lc lm
        (differences-words (in_sheet columns s column) (column-words column) month)

    summed : (month column : ℕ) → month < months → column < columns
        → sums (in_archive months (archive_of columns months s) column) month ≡ number_in columns s month column
    summed month column lm lc =
        sums-cong (in_archive months (archive_of columns months s) column) (differences (in_sheet columns s column)) month
        (λ i l. archived column i lc (omega arith))
        ∙ sums-of-differences (in_sheet columns s column) (column-words column) month

    pub restored : sheet_of columns months (archive_of columns months s) ≡ s
    unfolding sheet_of archive_of
    restored =
        ap₂ ◌++◌ (header-first (header s) (table_lines columns months (λ c. differences (in_sheet columns s c))) long-header)
        (lines-cong months columns (λ m c. sums (in_archive months (archive_of columns months s) c) m) (number_in columns s) summed)
        ∙ table-back months columns s b.long b.bytes

  module _ (a : List ℕ) (b : Buffer (table_length columns months) a) where
    row_words : (column : ℕ) → Words (in_archive months a column)
    row_words column month = numbers-words months a b.bytes column month

    long-front : length (header a) ≡ header_length
    long-front = length-header a (omega (arith, b.long))

    -- the sheet has the sums of the archive's columns
    unpacked : (column month : ℕ) → column < columns → month < months
        → in_sheet columns (sheet_of columns months a) column month ≡ sums (in_archive months a column) month
    unfolding sheet_of
    unpacked column month lc lm =
        number-in-lines months columns (header a) (λ m c. sums (in_archive months a c) m) month column long-front lm lc
        (sums-words (in_archive months a column) (row_words column) month)

    parted : (column month : ℕ) → column < columns → month < months
        → differences (in_sheet columns (sheet_of columns months a) column) month ≡ number_in months a column month
    parted column month lc lm =
        differences-cong (in_sheet columns (sheet_of columns months a) column) (sums (in_archive months a column)) month
        (λ i l. unpacked column i lc (omega arith))
        ∙ differences-of-sums (in_archive months a column) (row_words column) month

    pub valid : archive_of columns months (sheet_of columns months a) ≡ a
    unfolding sheet_of archive_of
    valid =
        ap₂ ◌++◌ (header-first (header a) (table_lines months columns (λ m c. sums (in_archive months a c) m)) long-front)
        (lines-cong columns months (λ c. differences (in_sheet columns (sheet_of columns months a) c)) (number_in months a) parted)
        ∙ table-back columns months a b.long b.bytes

length-archive : (columns months : ℕ) (s : List ℕ) → header_length ≤ length s → length (archive_of columns months s) ≡ table_length columns months
unfolding archive_of
length-archive columns months s l =
    rw length-append (omega (arith, length-header s l, length-lines columns months (λ c. differences (in_sheet columns s c))))

length-sheet : (columns months : ℕ) (a : List ℕ) → header_length ≤ length a → length (sheet_of columns months a) ≡ table_length months columns
unfolding sheet_of
length-sheet columns months a l =
    rw length-append (omega (arith, length-header a l, length-lines months columns (λ m c. sums (in_archive months a c) m)))

pub round-trips : (columns months : ℕ) → RoundTrips columns months
round-trips columns months = record { restored = restored columns months; valid = valid columns months }

-- of the calls: each is accepted, and what stood in the buffer that it writes is gone
pub calls_back : CallsBack
calls_back =
    record {
      restored =
          λ s a t b la lt.
          let archived = sym (accepted-archive s a (sizes-fit (length s) (length a) b.long la)).1 in
          let long : length (archive_after s a) ≡ sheet_length = ap length archived ∙ length-archive sheet_columns sheet_months s (omega (arith, b.long)) in
          sym (accepted-sheet (archive_after s a) t (sizes-fit (length (archive_after s a)) (length t) long lt)).1
          ∙ ap (sheet_of sheet_columns sheet_months) archived
          ∙ restored sheet_columns sheet_months s b;
      valid =
          λ a s b h ls lb.
          let unpacked = sym (accepted-sheet a s (sizes-fit (length a) (length s) h.long ls)).1 in
          let long : length (restored_after a s) ≡ sheet_length = ap length unpacked ∙ length-sheet sheet_columns sheet_months a (omega (arith, h.long)) in
          sym (accepted-archive (restored_after a s) b (sizes-fit (length (restored_after a s)) (length b) long lb)).1
          ∙ ap (archive_of sheet_columns sheet_months) unpacked
          ∙ valid sheet_columns sheet_months a h;
    }

-- a call that answers 0 found both sizes right
pub answered-sizes : (source destination : List ℕ) → size_answer source destination ≡ 0 → (length source ≡ sheet_length) × (length destination ≡ sheet_length)
unfolding size_answer
answered-sizes source destination e = by-test (sizes_fit (length source) (length destination)) refl
  where
    by-test : (t : Bool) → sizes_fit (length source) (length destination) ≡ t → (length source ≡ sheet_length) × (length destination ≡ sheet_length)
    by-test true f = (source_fits (length source) (length destination) f, destination-fits (length source) (length destination) f)
    by-test false f = let wrong : ◌≡◌ {A = ℕ} 27 0 = rw f at e in let no : ⊥ = omega arith in absurd no
