-- The bounds of a month's and a year's energy, and the sheet that reaches them.
use Prim.Native.Nat.{ℕ, ◌+◌, ◌*◌, ◌≤◌, ◌<◌}
use mathlib.Core.Path.{◌≡◌, refl}
use mathlib.Core.Bool.{true, false}
use mathlib.Core.List.{List}
use native.Mathlib.Omega.{arith}
use borrow.Author.Tests.{eqb-true}
use lib.Dec.{lit<, eqb}
use Rattle.units.specs.Folds.{sum_below, all_below, any_below}
use Rattle.units.proofs.Folds.{sum-capped, all-at}
use Rattle.codec.specs.Bytes.{little_endian, bytes_of, part, number, zeros}
use Rattle.sheet.specs.YearSheet.{withdrawn_reading, injected_reading, word, header_fits, last_words_fit, form_fits, refused11, limit_at, above_limit, unused_band, stray_band, at_fault, earliest}
use Rattle.sheet.specs.YearSheet.{refused13}
use Rattle.sheet.specs.YearSheet.{refused19, month_withdrawn, Past13}
use Rattle.sheet.proofs.Limits.{passed-energy, month-withdrawn-capped}
use Rattle.sheet_values.specs.YearsValues.{month_injected, withdrawn_over, injected_over}
use Rattle.sheet_values.specs.Bounds.{month_bound, year_bound, SheetsBounded, numbers, months, full_sheet, BoundsReached}

module _ (s : List ℕ) (h : Past13 s) where
  injected-month : (m : ℕ) → m < 12 → month_injected s m ≤ month_bound
  unfolding month_injected
  injected-month m l = omega (arith, passed-energy s h m 3 l (lit< tt), passed-energy s h m 4 l (lit< tt), passed-energy s h m 5 l (lit< tt))

  withdrawn-stretch : (from n : ℕ) → from + n ≤ 12 → withdrawn_over s from n ≤ month_bound * n
  unfolding withdrawn_over
  withdrawn-stretch from n w = sum-capped n month_bound (λ i. month_withdrawn s (from + i)) (λ i l. month-withdrawn-capped s h (from + i) (omega arith))

  injected-stretch : (from n : ℕ) → from + n ≤ 12 → injected_over s from n ≤ month_bound * n
  unfolding injected_over
  injected-stretch from n w = sum-capped n month_bound (λ i. month_injected s (from + i)) (λ i l. injected-month (from + i) (omega arith))

pub sheets-bounded : SheetsBounded
sheets-bounded s h =
    record {
      month-withdrawn = month-withdrawn-capped s h;
      month-injected = injected-month s h;
      year-withdrawn = withdrawn-stretch s h 0 12 (omega arith);
      year-injected = injected-stretch s h 0 12 (omega arith);
      withdrawn-over = withdrawn-stretch s h;
      injected-over = injected-stretch s h;
    }

past11 : refused11 full_sheet ≡ false
unfolding full_sheet months numbers all_below little_endian bytes_of part number zeros withdrawn_reading injected_reading word header_fits last_words_fit form_fits refused11
past11 = refl

past13 : Past13 full_sheet
unfolding full_sheet months numbers all_below any_below little_endian bytes_of part number withdrawn_reading injected_reading word limit_at above_limit unused_band stray_band at_fault
    earliest refused13 refused19
past13 = (refl, refl)

withdrawn-full : all_below 12 (λ m. eqb (month_withdrawn full_sheet m) month_bound) ≡ true
unfolding full_sheet months numbers all_below little_endian bytes_of part number word month_withdrawn
withdrawn-full = refl

injected-full : all_below 12 (λ m. eqb (month_injected full_sheet m) month_bound) ≡ true
unfolding full_sheet months numbers all_below little_endian bytes_of part number word month_injected
injected-full = refl

withdrawn-year-full : withdrawn_over full_sheet 0 12 ≡ year_bound
unfolding full_sheet months numbers sum_below little_endian bytes_of part number word month_withdrawn withdrawn_over
withdrawn-year-full = refl

injected-year-full : injected_over full_sheet 0 12 ≡ year_bound
unfolding full_sheet months numbers sum_below little_endian bytes_of part number word month_injected injected_over
injected-year-full = refl

pub bounds-reached : BoundsReached
bounds-reached =
    record {
      passed = record { past11 = past11; past13 = past13 };
      month-withdrawn = λ m l. eqb-true (month_withdrawn full_sheet m) month_bound (all-at 12 (λ n. eqb (month_withdrawn full_sheet n) month_bound) withdrawn-full m l);
      month-injected = λ m l. eqb-true (month_injected full_sheet m) month_bound (all-at 12 (λ n. eqb (month_injected full_sheet n) month_bound) injected-full m l);
      year-withdrawn = withdrawn-year-full;
      year-injected = injected-year-full;
    }
