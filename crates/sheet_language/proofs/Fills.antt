-- The sheet that is filled: each kWh stands at its place, and every other byte stays.
use Prim.Native.Nat.{ℕ, zero, suc, ◌+◌, ◌*◌, ◌≤◌, ◌<◌}
use mathlib.Core.Path.{◌≡◌, refl, sym, ap, subst, ◌∙◌}
use mathlib.Core.Bool.{Bool, true, false, cond, not, ◌&&◌, true≢false}
use mathlib.Core.List.{List}
use native.Mathlib.Decide.{dec_lt}
use native.Mathlib.Omega.{arith}
use lib.Dec.{eqb}
use borrow.Author.Tests.{eq-eqb, eqb-true}
use lib.ListN.{length, get_or}
use Rattle.units.specs.Limits.{max_kwh}
use Rattle.codec.specs.Bytes.{little_endian, bytes_of, number, stored}
use Rattle.codec.proofs.Numbers.{length-bytes, number-one}
use Rattle.codec.proofs.Stores.{part-before, part-after, number-stored}
use Rattle.sheet.specs.YearSheet.{sheet_length, word}
use Rattle.std.specs.Result.{is_err}
use Rattle.sheet_text.specs.Lines.{months, readings, kwh_in}
use Rattle.sheet_text.specs.Reading.{Within, accepted, wrong_size, some_refused, text_answer, month_filled, months_filled, filled, read_answer, read_after}
use Rattle.sheet_text.proofs.Filling.{month-length, months-length}
use Rattle.sheet_text.proofs.ReadCalls.{text-taken}
use Rattle.sheet_language.specs.Language.{Same, InKwh, Fills}
use Rattle.sheet_language.proofs.Texts.{taken-within}

-- a number before the four bytes that are stored stays, and one behind them
number-before : (w o at n : ℕ) (s : List ℕ) → at ≤ length s → o + w ≤ at → number w o (stored at (bytes_of 4 n) s) ≡ number w o s
unfolding number
number-before w o at n s l h = ap little_endian (part-before w o at (bytes_of 4 n) s h l)

number_behind : (w o at n : ℕ) (s : List ℕ) → at ≤ length s → at + 4 ≤ o → number w o (stored at (bytes_of 4 n) s) ≡ number w o s
unfolding number
number_behind w o at n s l h = ap little_endian (part-after w o at (bytes_of 4 n) s (omega (arith, length-bytes 4 n)) l)

-- ONE MONTH
module _ (kwh : ℕ → ℕ) (m : ℕ) (s : List ℕ) (hm : m < months) (long : length s ≡ sheet_length) where
  month-here : (p j : ℕ) → p ≤ readings → j < p → kwh j ≤ max_kwh → word (month_filled kwh m p s) m j ≡ kwh j
  unfolding month_filled word
  month-here zero j hp hj small = let z : ⊥ = omega arith in absurd z
  month-here (suc p) j hp hj small = by_place (dec_lt j p) (λ less. month-here p j (omega arith) less small)
    where
      size : length (month_filled kwh m p s) ≡ sheet_length
      size = month-length kwh m s p long hm (omega arith)

      by_place : Dec (j < p) → (j < p → number 4 (32 + 96 * m + 4 * j) (month_filled kwh m p s) ≡ kwh j)
          → number 4 (32 + 96 * m + 4 * j) (stored (32 + 96 * m + 4 * p) (bytes_of 4 (kwh p)) (month_filled kwh m p s)) ≡ kwh j
      by_place (yes less) before =
          number-before 4 (32 + 96 * m + 4 * j) (32 + 96 * m + 4 * p) (kwh p) (month_filled kwh m p s) (omega (arith, size)) (omega arith) ∙ before less
      by_place (no more) before =
          let same : j ≡ p = omega (arith, more) in
          rw same
          (number-stored 4 (32 + 96 * m + 4 * p) (kwh p) (month_filled kwh m p s) (let fits : kwh p ≤ max_kwh = rw same at small in omega arith) (omega (arith, size)))

  month-other : (p i j : ℕ) → p ≤ readings → (i ≡ m → ⊥) → j < readings → word (month_filled kwh m p s) i j ≡ word s i j
  unfolding month_filled word
  month-other zero i j hp hi hj = refl
  month-other (suc p) i j hp hi hj = by_place (dec_lt i m) ∙ month-other p i j (omega arith) hi hj
    where
      size : length (month_filled kwh m p s) ≡ sheet_length
      size = month-length kwh m s p long hm (omega arith)

      by_place : Dec (i < m) → number 4 (32 + 96 * i + 4 * j) (stored (32 + 96 * m + 4 * p) (bytes_of 4 (kwh p)) (month_filled kwh m p s))
          ≡ number 4 (32 + 96 * i + 4 * j) (month_filled kwh m p s)
      by_place (yes less) =
          number-before 4 (32 + 96 * i + 4 * j) (32 + 96 * m + 4 * p) (kwh p) (month_filled kwh m p s) (omega (arith, size)) (omega arith)
      by_place (no more) =
          number_behind 4 (32 + 96 * i + 4 * j) (32 + 96 * m + 4 * p) (kwh p) (month_filled kwh m p s) (omega (arith, size))
          (let later : m + 1 ≤ i = omega (arith, hi, more) in omega arith)

  month-byte : (p k : ℕ) → p ≤ readings → ((j : ℕ) → j < readings → InKwh k m j → ⊥) → get_or (month_filled kwh m p s) k 0 ≡ get_or s k 0
  unfolding month_filled
  month-byte zero k hp out = refl
  month-byte (suc p) k hp out = by_place (dec_lt k (32 + 96 * m + 4 * p)) ∙ month-byte p k (omega arith) out
    where
      size : length (month_filled kwh m p s) ≡ sheet_length
      size = month-length kwh m s p long hm (omega arith)

      kept : number 1 k (stored (32 + 96 * m + 4 * p) (bytes_of 4 (kwh p)) (month_filled kwh m p s)) ≡ number 1 k (month_filled kwh m p s)
          → get_or (stored (32 + 96 * m + 4 * p) (bytes_of 4 (kwh p)) (month_filled kwh m p s)) k 0 ≡ get_or (month_filled kwh m p s) k 0
      kept e = sym (number-one k (stored (32 + 96 * m + 4 * p) (bytes_of 4 (kwh p)) (month_filled kwh m p s))) ∙ e ∙ number-one k (month_filled kwh m p s)

      beyond : (k < 32 + 96 * m + 4 * p → ⊥) → 32 + 96 * m + 4 * p + 4 ≤ k
      beyond more = by_end (dec_lt k (32 + 96 * m + 4 * p + 4))
        where
          by_end : Dec (k < 32 + 96 * m + 4 * p + 4) → 32 + 96 * m + 4 * p + 4 ≤ k
          by_end (yes inside) = absurd (out p (omega arith) (omega (arith, more), inside))
          by_end (no outside) = omega (arith, outside)

      by_place : Dec (k < 32 + 96 * m + 4 * p)
          → get_or (stored (32 + 96 * m + 4 * p) (bytes_of 4 (kwh p)) (month_filled kwh m p s)) k 0 ≡ get_or (month_filled kwh m p s) k 0
      by_place (yes less) = kept (number-before 1 k (32 + 96 * m + 4 * p) (kwh p) (month_filled kwh m p s) (omega (arith, size)) (omega arith))
      by_place (no more) = kept (number_behind 1 k (32 + 96 * m + 4 * p) (kwh p) (month_filled kwh m p s) (omega (arith, size)) (beyond more))

-- THE YEAR
module _ (kwh : ℕ → ℕ → ℕ) (s : List ℕ) (long : length s ≡ sheet_length) where
  months-number : (n i j : ℕ) → n ≤ months → i < n → j < readings → kwh i j ≤ max_kwh → word (months_filled kwh n s) i j ≡ kwh i j
  unfolding months_filled
  months-number zero i j hn hi hj small = let z : ⊥ = omega arith in absurd z
  months-number (suc n) i j hn hi hj small = by_place (dec_lt i n) (λ less. months-number n i j (omega arith) less hj small)
    where
      size : length (months_filled kwh n s) ≡ sheet_length
      size = months-length kwh s n long (omega arith)

      by_place : Dec (i < n) → (i < n → word (months_filled kwh n s) i j ≡ kwh i j) → word (month_filled (kwh n) n readings (months_filled kwh n s)) i j ≡ kwh i j
      by_place (yes less) before =
          month-other (kwh n) n (months_filled kwh n s) (omega arith) size readings i j (omega arith) (λ e. omega arith) hj ∙ before less
      by_place (no more) before =
          let same : n ≡ i = omega (arith, more) in
          subst (λ (k : ℕ). word (month_filled (kwh n) n readings (months_filled kwh n s)) k j ≡ kwh k j) same
          (month-here (kwh n) n (months_filled kwh n s) (omega arith) size readings j (omega arith) hj (rw same small))

  months-byte : (n k : ℕ) → n ≤ months → ((m p : ℕ) → m < months → p < readings → InKwh k m p → ⊥) → get_or (months_filled kwh n s) k 0 ≡ get_or s k 0
  unfolding months_filled
  months-byte zero k hn out = refl
  months-byte (suc n) k hn out =
      month-byte (kwh n) n (months_filled kwh n s) (omega arith) (months-length kwh s n long (omega arith)) readings k (omega arith) (λ j l. out n j (omega arith) l)
      ∙ months-byte n k (omega arith) out

  pub filled-numbers : Within kwh → Same (word (filled kwh s)) kwh
  filled-numbers within m p hm hp = months-number months m p (omega arith) hm hp (within m p hm hp)

  filled-byte : (k : ℕ) → ((m p : ℕ) → m < months → p < readings → InKwh k m p → ⊥) → get_or (filled kwh s) k 0 ≡ get_or s k 0
  filled-byte k out = months-byte months k (omega arith) out

-- THE CALL: a sheet that is filled, and one that is left
sheet-cases : (P : List ℕ → Type 0) (s t : List ℕ) → (length s ≡ sheet_length → P (filled (kwh_in t) s)) → P s → P (read_after s t)
unfolding read_after
sheet-cases P s t fill left = by-test (eqb (length s) sheet_length) refl (not (some_refused t))
  where
    by-test : (a : Bool) → eqb (length s) sheet_length ≡ a → (b : Bool) → P (cond (a && b) (filled (kwh_in t) s) s)
    by-test true e true = fill (eqb-true (length s) sheet_length e)
    by-test true e false = left
    by-test false e b = left

accepted-sheet : (s t : List ℕ) → read_answer s t ≡ accepted → (length s ≡ sheet_length) × (some_refused t ≡ false)
unfolding read_answer
accepted-sheet s t e = by-test (eqb (length s) sheet_length) refl e
  where
    by-test : (a : Bool) → eqb (length s) sheet_length ≡ a → cond a (text_answer t) wrong_size ≡ accepted → (length s ≡ sheet_length) × (some_refused t ≡ false)
    by-test true q r = (eqb-true (length s) sheet_length q, text-taken t r)
    by-test false q r = absurd (true≢false (ap is_err r))

pub sheet-filled : (s t : List ℕ) → length s ≡ sheet_length → some_refused t ≡ false → read_after s t ≡ filled (kwh_in t) s
unfolding read_after
sheet-filled s t long none = rw (eq-eqb (length s) sheet_length long, none)

pub fills : Fills
fills =
    record {
      long = λ s t. sheet-cases (λ u. length u ≡ length s) s t (λ l. months-length (kwh_in t) s months l (omega arith) ∙ sym l) refl;
      numbers =
          λ s t e.
          let ok = accepted-sheet s t e in
          rw (sheet-filled s t ok.0 ok.1) (filled-numbers (kwh_in t) s ok.0 (taken-within t ok.1));
      others = λ s t k out. sheet-cases (λ u. get_or u k 0 ≡ get_or s k 0) s t (λ l. filled-byte (kwh_in t) s l k out) refl;
    }
