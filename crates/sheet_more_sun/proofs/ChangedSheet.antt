-- The sheet with more in one injected field: that number, every other number, the header and O.
use Prim.Native.Nat.{ℕ, ◌+◌, ◌*◌, ◌≤◌, ◌<◌}
use mathlib.Core.Path.{◌≡◌, ap}
use mathlib.Core.List.{List}
use native.Mathlib.Decide.{dec_lt}
use native.Mathlib.Omega.{arith}
use lib.ListN.{length}
use Rattle.units.specs.Limits.{max_kwh}
use Rattle.units.specs.Folds.{sum_below}
use Rattle.units.proofs.Folds.{sum-cong}
use Rattle.codec.specs.Bytes.{little_endian, bytes_of, part, number, stored}
use Rattle.codec.proofs.Numbers.{length-bytes}
use Rattle.codec.proofs.Stores.{length-stored, part-before, part-after, number-stored}
use Rattle.sheet.specs.YearSheet.{sheet_length, word, withdrawn_reading, injected_reading, injected}
use Rattle.sheet_prices.specs.ValueAndCost.{cost_in, cost_of}
use Rattle.sheet_more_sun.specs.MoreSun.{with_more}
use Rattle.sheet_more_sun.specs.Laws.{ChangesOneField}

module _ (s : List ℕ) (m band added : ℕ) (long : length s ≡ sheet_length) (lm : m < 12) (lb : band < 3) where
  abbrev at : ℕ
  at = 32 + 96 * m + 4 * (3 + band)

  abbrev more : ℕ
  more = injected s m band + added

  inside : at ≤ length s
  inside = omega (arith, long)

  -- bytes before the field, and those of another number
  kept-before : (w o : ℕ) → o + w ≤ 32 → part w o (with_more s m band added) ≡ part w o s
  unfolding with_more
  kept-before w o l = part-before w o at (bytes_of 4 more) s (omega arith) inside

  kept-part : (n place : ℕ) → (24 * n + place ≡ 24 * m + (3 + band) → ⊥)
      → part 4 (32 + 96 * n + 4 * place) (with_more s m band added) ≡ part 4 (32 + 96 * n + 4 * place) s
  unfolding with_more
  kept-part n place other = either (dec_lt (24 * n + place) (24 * m + (3 + band)))
    where
      either : Dec (24 * n + place < 24 * m + (3 + band))
          → part 4 (32 + 96 * n + 4 * place) (stored at (bytes_of 4 more) s) ≡ part 4 (32 + 96 * n + 4 * place) s
      either (yes lower) = part-before 4 (32 + 96 * n + 4 * place) at (bytes_of 4 more) s (omega arith) inside
      either (no l) =
          let end : at + length (bytes_of 4 more) ≤ 32 + 96 * n + 4 * place = omega (arith, length-bytes 4 more, l, other) in
          part-after 4 (32 + 96 * n + 4 * place) at (bytes_of 4 more) s end inside

  pub kept-other : (n place : ℕ) → (24 * n + place ≡ 24 * m + (3 + band) → ⊥) → word (with_more s m band added) n place ≡ word s n place
  unfolding word number
  kept-other n place other = ap little_endian (kept-part n place other)

  pub kept-injected-reading : injected_reading (with_more s m band added) ≡ injected_reading s
  unfolding injected_reading number
  kept-injected-reading = ap little_endian (kept-before 1 7 (omega arith))

  kept-withdrawn-reading : withdrawn_reading (with_more s m band added) ≡ withdrawn_reading s
  unfolding withdrawn_reading number
  kept-withdrawn-reading = ap little_endian (kept-before 1 6 (omega arith))

  pub raised : injected s m band + added ≤ max_kwh → injected (with_more s m band added) m band ≡ injected s m band + added
  unfolding with_more word
  raised fits = number-stored 4 at more s (omega arith) inside

  kept-cost-in : (n : ℕ) → n < 12 → cost_in (with_more s m band added) n ≡ cost_in s n
  unfolding cost_in sum_below
  kept-cost-in n l =
      rw (
        kept-withdrawn-reading,
        kept-other n 0 (omega arith),
        kept-other n 1 (omega arith),
        kept-other n 2 (omega arith),
        kept-other n 6 (omega arith),
        kept-other n 7 (omega arith),
        kept-other n 8
            (omega arith),
        kept-other n 9 (omega arith),
      )

  kept-cost : cost_of (with_more s m band added) ≡ cost_of s
  unfolding cost_of
  kept-cost = sum-cong 12 (cost_in (with_more s m band added)) (cost_in s) kept-cost-in

  kept-long : length (with_more s m band added) ≡ length s
  unfolding with_more
  kept-long = length-stored at (bytes_of 4 more) s (omega (arith, length-bytes 4 more, long))

pub changes-one-field : ChangesOneField
changes-one-field s m band added long lm lb fits =
    record {
      long = kept-long s m band added long lm lb;
      header = kept-before s m band added long lm lb 32 0 (omega arith);
      field = raised s m band added long lm lb fits;
      others = λ n place ln lp. kept-other s m band added long lm lb n place;
      cost = kept-cost s m band added long lm lb;
    }
