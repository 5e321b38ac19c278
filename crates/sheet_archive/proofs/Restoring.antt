-- A sheet is restored by four columns, and these month by month: a number that is stored leaves all others, and a sheet whose
-- numbers all stand is the sheet of the archive.
use Rattle.std.proofs.Common.{◌≡◌, ℕ, ◌+◌, ◌-◌, ◌*◌, ◌<◌, ◌≤◌, List, [], ◌∷◌, ◌++◌, length, get_or, drop, sym, refl, ap, ◌∙◌, subst, not-suc-le-zero, arith, below_more}
use native.Mathlib.Decide.{dec_lt}
use Rattle.codec.specs.Bytes.{bytes_of, part, stored}
use Rattle.codec.proofs.Numbers.{length-bytes}
use Rattle.codec.proofs.ByteRanges.{Bytes, number-below}
use Rattle.codec.proofs.Stores.{length-stored, part-stored, part-before, part-after}
use Rattle.sheet.specs.YearSheet.{sheet_length}
use Rattle.sheet_archive.specs.Tables.{header_length, header, number_in, table_lines}
use Rattle.sheet_archive.specs.Archive.{plus, sums, in_archive, sheet_columns, sheet_months}
use Rattle.sheet_archive.specs.InnerSteps.{before, next_four, number_stored, four_stored, Stands, Restored}
use Rattle.sheet_archive.proofs.Tables.{length-header, header-first, table-of-parts}
use Rattle.sheet_archive.proofs.Columns.{Words, before-next, sum-from-before}

column-words : (a : List ℕ) → Bytes a → (column : ℕ) → Words (in_archive sheet_months a column)
unfolding number_in
column-words a bytes column m = number-below 4 (header_length + 4 * (sheet_months * column + m)) a bytes

-- the numbers of the sheet's lines
abbrev pub sheet_lines : List ℕ → ℕ → ℕ → ℕ
sheet_lines a month column = sums (in_archive sheet_months a column) month

module _ (a s : List ℕ) where
  -- the header stands already
  pub restored-none : (s₀ : List ℕ) → length a ≡ sheet_length → length s ≡ sheet_length → s ≡ stored 0 (header a) s₀ → Restored a s 0 0 0
  unfolding stored
  restored-none s₀ la ls e =
      record {
        long = ls;
        front = ap header e ∙ header-first (header a) (drop (0 + length (header a)) s₀) (length-header a (omega arith));
        columns = λ m c lm lc. absurd (not-suc-le-zero lc);
        months = λ m c lm lc. absurd (not-suc-le-zero lm);
        numbers = λ j l. absurd (not-suc-le-zero l);
      }

  -- a number goes to its place: month m of column n + i
  module _ {n m i : ℕ} (w : Restored a s n m i) (ln : n + 4 ≤ sheet_columns) (lm : m < sheet_months) (li : i < 4) (place v : ℕ)
      (p : place ≡ header_length + 4 * (sheet_columns * m + (n + i))) where
    abbrev after : List ℕ
    after = stored place (bytes_of 4 v) s

    inside : place ≤ length s
    inside = omega (arith, w.long)

    other-stands : (month column : ℕ) → (sheet_columns * month + column ≡ sheet_columns * m + (n + i) → ⊥) → Stands a s month column
        → Stands a after month column
    other-stands month column other h = either (dec_lt (sheet_columns * month + column) (sheet_columns * m + (n + i)))
      where
        either : Dec (sheet_columns * month + column < sheet_columns * m + (n + i)) → Stands a after month column
        either (yes lower) =
            part-before 4 (header_length + 4 * (sheet_columns * month + column)) place (bytes_of 4 v) s (omega arith) inside ∙ h
        either (no l) =
            let end : place + length (bytes_of 4 v) ≤ header_length + 4 * (sheet_columns * month + column) =
            omega (arith, length-bytes 4 v, l, other) in
            part-after 4 (header_length + 4 * (sheet_columns * month + column)) place (bytes_of 4 v) s end inside ∙ h

    header-kept : header after ≡ header s
    unfolding header part
    header-kept = part-before header_length 0 place (bytes_of 4 v) s (omega arith) inside

    restored-next : v ≡ sheet_lines a m (n + i) → Restored a after n m (i + 1)
    restored-next worked =
        record {
          long = length-stored place (bytes_of 4 v) s (omega (arith, length-bytes 4 v, w.long)) ∙ w.long;
          front = header-kept ∙ w.front;
          columns =
              λ month column h l.
              let other : sheet_columns * month + column ≡ sheet_columns * m + (n + i) → ⊥ = omega arith in
              other-stands month column other (w.columns month column h l);
          months =
              λ month column h l.
              let other : sheet_columns * month + column ≡ sheet_columns * m + (n + i) → ⊥ = omega arith in
              other-stands month column other (w.months month column h l);
          numbers =
              below_more (λ j. Stands a after m (n + j)) i
              (λ j l.
              let other : sheet_columns * m + (n + j) ≡ sheet_columns * m + (n + i) → ⊥ = omega arith in
              other-stands m (n + j) other (w.numbers j l))
              (ap (λ (at : ℕ). part 4 at after) (sym p) ∙ own ∙ ap (bytes_of 4) worked);
        }
      where
        own : part 4 place after ≡ bytes_of 4 v
        own = ap (λ (k : ℕ). part k place after) (sym (length-bytes 4 v)) ∙ part-stored place (bytes_of 4 v) s inside

  -- a month of the four columns stands
  restored-month : (n m : ℕ) → m < sheet_months → Restored a s n m 4 → Restored a s n (m + 1) 0
  restored-month n m lm w =
      record {
        long = w.long;
        front = w.front;
        columns = w.columns;
        months =
            λ month column h l.
            below_more (λ k. (c : ℕ) → c < n + 4 → Stands a s k c) m (λ k b c lc. w.months k c b lc) this month h column l;
        numbers = λ j l. absurd (not-suc-le-zero l);
      }
    where
      by_place : (c : ℕ) → c < n + 4 → Dec (c < n) → Stands a s m c
      by_place c l (yes lower) = w.columns m c lm lower
      by_place c l (no h) =
          let place : n + (c - n) ≡ c = omega (arith, h) in
          subst (λ k. Stands a s m k) place (w.numbers (c - n) (omega (arith, h)))

      this : (c : ℕ) → c < n + 4 → Stands a s m c
      this c l = by_place c l (dec_lt c n)

  pub restored-whole : Restored a s sheet_columns 0 0 → s ≡ header a ++ table_lines sheet_months sheet_columns (sheet_lines a)
  restored-whole w =
      sym (table-of-parts sheet_months sheet_columns s (sheet_lines a) w.long w.columns)
      ∙ ap (λ (h : List ℕ). h ++ table_lines sheet_months sheet_columns (sheet_lines a)) w.front

-- the numbers of four columns: those of a month, and those before it
pub record Hold (f : ℕ → ℕ → ℕ) (column month : ℕ) (numbers : List ℕ) : Type 0 where
  pub first : (get_or numbers 0 0) ≡ f column month
  pub second : (get_or numbers 1 0) ≡ f (column + 1) month
  pub third : (get_or numbers 2 0) ≡ f (column + 2) month
  pub fourth : (get_or numbers 3 0) ≡ f (column + 3) month

pub month-stored : (a s : List ℕ) (n m : ℕ) (v : List ℕ) → n + 4 ≤ sheet_columns → m < sheet_months → Hold (λ c k. sheet_lines a k c) n m v
    → Restored a s n m 0 → Restored a (four_stored n m v s) n (m + 1) 0
month-stored a s n m v ln lm h w =
    let front : n ≡ n + 0 = omega arith in
    let s₁ = number_stored n m (get_or v 0 0) s in
    let s₂ = number_stored (n + 1) m (get_or v 1 0) s₁ in
    let s₃ = number_stored (n + 2) m (get_or v 2 0) s₂ in
    let place : ℕ → ℕ = λ c. header_length + 4 * (sheet_columns * m + c) in
    let w₁ : Restored a s₁ n m 1 =
    restored-next a s w ln lm (omega arith) (place n) (get_or v 0 0) (ap place front) (h.first ∙ ap (sheet_lines a m) front) in
    let w₂ : Restored a s₂ n m 2 = restored-next a s₁ w₁ ln lm (omega arith) (place (n + 1)) (get_or v 1 0) refl h.second in
    let w₃ : Restored a s₃ n m 3 = restored-next a s₂ w₂ ln lm (omega arith) (place (n + 2)) (get_or v 2 0) refl h.third in
    restored-month a (four_stored n m v s) n m lm (restored-next a s₃ w₃ ln lm (omega arith) (place (n + 3)) (get_or v 3 0) refl h.fourth)

-- what is carried from month to month: the number before, of each of the four columns
abbrev pub carried : List ℕ → ℕ → ℕ → ℕ
carried a column month = before (sums (in_archive sheet_months a column)) month

pub carried_none : (a : List ℕ) (column : ℕ) → Hold (carried a) column 0 (0 ∷ 0 ∷ 0 ∷ 0 ∷ [])
unfolding before
carried_none a column = record { first = refl; second = refl; third = refl; fourth = refl }

pub carried_on : (a : List ℕ) (column month : ℕ) (v : List ℕ) → Hold (λ c k. sheet_lines a k c) column month v → Hold (carried a) column (month + 1) v
carried_on a column month v h =
    record {
      first = before-next (sums (in_archive sheet_months a column)) month h.first;
      second = before-next (sums (in_archive sheet_months a (column + 1))) month h.second;
      third = before-next (sums (in_archive sheet_months a (column + 2))) month h.third;
      fourth = before-next (sums (in_archive sheet_months a (column + 3))) month h.fourth;
    }

-- a month is worked from the one before it
pub month-worked : (a : List ℕ) → Bytes a → (column month : ℕ) (last v : List ℕ) → Hold (carried a) column month last → v ≡ next_four a last column month
    → Hold (λ c k. sheet_lines a k c) column month v
month-worked a bytes column month last v h e =
    record {
      first = ap (λ (x : List ℕ). get_or x 0 0) e ∙ worked column (get_or last 0 0) h.first;
      second = ap (λ (x : List ℕ). get_or x 1 0) e ∙ worked (column + 1) (get_or last 1 0) h.second;
      third = ap (λ (x : List ℕ). get_or x 2 0) e ∙ worked (column + 2) (get_or last 2 0) h.third;
      fourth = ap (λ (x : List ℕ). get_or x 3 0) e ∙ worked (column + 3) (get_or last 3 0) h.fourth;
    }
  where
    worked : (c n : ℕ) → n ≡ carried a c month → plus n (in_archive sheet_months a c month) ≡ sheet_lines a month c
    worked c n l =
        ap (λ (x : ℕ). plus x (in_archive sheet_months a c month)) l ∙ sum-from-before (in_archive sheet_months a c) month (column-words a bytes c month)
