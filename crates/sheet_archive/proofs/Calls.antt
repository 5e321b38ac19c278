-- The two calls: what they answer, and their loops, which write the lines of the destination one after the other.
use Rattle.std.proofs.Common.{◌≡◌, ℕ, suc, ◌+◌, ◌*◌, ◌<◌, ◌≤◌, Bool, true, false, eqb, List, ◌++◌, length, refl, ap, ◌∙◌, mul-le-mul_left, add-one, arith, eq-eqb, eqb-true}
use Rattle.units.proofs.Bools.{and_left, and_right, and_both}
use Rattle.codec.specs.Bytes.{number, stored}
use Rattle.sheet.specs.YearSheet.{sheet_length, word}
use Rattle.sheet_archive.specs.Tables.{header_length, header, number_in, table_line, table_lines, table_length}
use Rattle.sheet_archive.specs.Archive.{differences, in_sheet, archive_of, sheet_of, sheet_columns, sheet_months, sizes_fit, size_answer, archive_after, restored_after}
use Rattle.sheet_archive.proofs.Tables.{length-header}
use Rattle.sheet_archive.proofs.Writing.{written, table-begun, table-next, table-whole}

-- THE SIZES
module _ (source destination : ℕ) where
  pub source_fits : sizes_fit source destination ≡ true → source ≡ sheet_length
  source_fits e = eqb-true source sheet_length (and_left (eqb source sheet_length) (eqb destination sheet_length) e)

  pub destination-fits : sizes_fit source destination ≡ true → destination ≡ sheet_length
  destination-fits e = eqb-true destination sheet_length (and_right (eqb source sheet_length) (eqb destination sheet_length) e)

  pub sizes-fit : source ≡ sheet_length → destination ≡ sheet_length → sizes_fit source destination ≡ true
  sizes-fit s d = and_both (eq-eqb source sheet_length s) (eq-eqb destination sheet_length d)

-- the answers of a refused and of an accepted call
module _ (source destination : List ℕ) where
  abbrev fit : Bool
  fit = sizes_fit (length source) (length destination)

  pub refused-archive : fit ≡ false → (27 ≡ size_answer source destination) × (destination ≡ archive_after source destination)
  unfolding size_answer archive_after
  refused-archive e = (rw e, rw e)

  pub refused-sheet : fit ≡ false → (27 ≡ size_answer source destination) × (destination ≡ restored_after source destination)
  unfolding size_answer restored_after
  refused-sheet e = (rw e, rw e)

  pub accepted-archive : fit ≡ true → (0 ≡ size_answer source destination) × (archive_of sheet_columns sheet_months source ≡ archive_after source destination)
  unfolding size_answer archive_after
  accepted-archive e = (rw e, rw e)

  pub accepted-sheet : fit ≡ true → (0 ≡ size_answer source destination) × (sheet_of sheet_columns sheet_months source ≡ restored_after source destination)
  unfolding size_answer restored_after
  accepted-sheet e = (rw e, rw e)

-- THE SHEET: its numbers are those of "Year sheet"
pub in-year-sheet : (s : List ℕ) (column month : ℕ) → in_sheet sheet_columns s column month ≡ word s month column
unfolding number_in word
in-year-sheet s column month =
    let place : header_length + 4 * (sheet_columns * month + column) ≡ 32 + 96 * month + 4 * column = omega arith in
    ap (λ (at : ℕ). number 4 at s) place

-- THE LINES: n of them, from a source, into the destination t₀ whose header is copied already
module _ (n places : ℕ) (source : List ℕ) (f : ℕ → ℕ → ℕ) (t₀ : List ℕ) where
  pub record Filling (t : List ℕ) (i : ℕ) : Type 0 where
    pub long : length source ≡ sheet_length
    pub long₀ : length t₀ ≡ sheet_length
    pub same : length t ≡ length t₀
    pub within : i ≤ n
    pub filled : t ≡ written places (header source) f t₀ i

  pub begins : (t : List ℕ) → length source ≡ sheet_length → length t ≡ sheet_length → length t₀ ≡ length t → t₀ ≡ stored 0 (header source) t
      → Filling t₀ 0
  begins t l lt same e =
      let short : length (header source) ≤ length t = omega (arith, length-header source (omega arith)) in
      record {
        long = l;
        long₀ = same ∙ lt;
        same = refl;
        within = omega arith;
        filled = table-begun places (header source) f t₀ t short e;
      }

  module _ (size : sheet_length ≡ table_length n places) {t : List ℕ} {i : ℕ} (w : Filling t i) where
    header-long : length (header source) ≡ header_length
    header-long = length-header source (omega (arith, w.long))

    pub goes_on : (t' bs : List ℕ) → i < n → bs ≡ table_line places (f i) → t' ≡ stored (header_length + 4 * places * i) bs t → length t' ≡ length t
        → Filling t' (i + 1)
    goes_on t' bs l b e s =
        let more : places * suc i ≤ places * n = mul-le-mul_left places l in
        let next : places * (i + 1) ≤ places * n = rw (add-one i) more in
        record {
          long = w.long;
          long₀ = w.long₀;
          same = s ∙ w.same;
          within = omega arith;
          filled = e ∙ table-next places (header source) f t₀ header-long i t bs (omega (arith, w.long₀)) w.filled b;
        }

    pub ends : i ≡ n → t ≡ header source ++ table_lines n places f
    ends e =
        w.filled
        ∙ ap (written places (header source) f t₀) e
        ∙ table-whole places (header source) f t₀ header-long n (w.long₀ ∙ size)

-- the numbers of the archive's lines
abbrev pub archive_lines : List ℕ → ℕ → ℕ → ℕ
archive_lines s column = differences (in_sheet sheet_columns s column)
