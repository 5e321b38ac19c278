-- What a sheet that has passed 11 and 13 has: its length, and every number within its limit.
use Prim.Native.Nat.{ℕ, ◌*◌, ◌≤◌, ◌<◌}
use mathlib.Core.Path.{◌≡◌}
use mathlib.Core.Bool.{true, false, ◌&&◌}
use mathlib.Core.List.{List}
use native.Mathlib.Omega.{arith}
use borrow.Author.Tests.{eqb-true, ltb-false, lt-ltb, le-ltb, not-false}
use lib.Dec.{lit<, eqb}
use lib.ListN.{length}
use Rattle.units.specs.Limits.{max_kwh, max_price}
use Rattle.units.proofs.Bools.{and_left, or_left}
use Rattle.sheet.specs.YearSheet.{sheet_length, word, limit_at, above_limit, stray_band, at_fault, header_fits, last_words_fit, form_fits, version_zero, point_zero, refused11, month_withdrawn, Past13}
use Rattle.sheet.proofs.Faults.{past-none}

pub form-length : (s : List ℕ) → form_fits s ≡ true → length s ≡ sheet_length
unfolding form_fits
form-length s h = eqb-true (length s) sheet_length (and_left (eqb (length s) sheet_length) (header_fits s && last_words_fit s) h)

pub passed_length : (s : List ℕ) → refused11 s ≡ false → length s ≡ sheet_length
unfolding refused11
passed_length s h =
    let all : (form_fits s && (version_zero s && point_zero s)) ≡ true = not-false _ h in
    form-length s (and_left (form_fits s) (version_zero s && point_zero s) all)

passed-limit : (s : List ℕ) → Past13 s → (m place : ℕ) → m < 12 → place < 23 → word s m place ≤ limit_at place
unfolding at_fault above_limit
passed-limit s h m place hm hp =
    ltb-false (limit_at place) (word s m place) (or_left (above_limit s m place) (stray_band s m place) (past-none s h m hm place hp))

-- places 0–5 are kWh, 6–22 prices and rates
pub passed-energy : (s : List ℕ) → Past13 s → (m place : ℕ) → m < 12 → place < 6 → word s m place ≤ max_kwh
unfolding limit_at
passed-energy s h m place hm hp = rw (lt-ltb place 6 hp) at (passed-limit s h m place hm (omega arith))

pub passed-price : (s : List ℕ) → Past13 s → (m place : ℕ) → m < 12 → 6 ≤ place → place < 23 → word s m place ≤ max_price
unfolding limit_at
passed-price s h m place hm lo hp = rw (le-ltb place 6 lo) at (passed-limit s h m place hm hp)

-- three numbers of a month: 32 bits hold their sum
pub month-withdrawn-capped : (s : List ℕ) → Past13 s → (m : ℕ) → m < 12 → month_withdrawn s m ≤ 3 * max_kwh
unfolding month_withdrawn
month-withdrawn-capped s h m l = omega (arith, passed-energy s h m 0 l (lit< tt), passed-energy s h m 1 l (lit< tt), passed-energy s h m 2 l (lit< tt))
