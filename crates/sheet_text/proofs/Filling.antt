-- The kWh of a sheet are filled in place by place, month by month; the sheet stays as long as it was.
use Prim.Native.Nat.{ℕ, zero, suc, ◌+◌, ◌*◌, ◌≤◌, ◌<◌}
use mathlib.Core.Path.{◌≡◌, refl, ap, ap₂, ◌∙◌}
use mathlib.Core.List.{List}
use native.Mathlib.Numerals.{add-one}
use native.Mathlib.Omega.{arith}
use lib.ListN.{length}
use Rattle.codec.specs.Bytes.{bytes_of, stored}
use Rattle.codec.proofs.Numbers.{length-bytes}
use Rattle.codec.proofs.Stores.{length-stored}
use Rattle.sheet.specs.YearSheet.{sheet_length}
use Rattle.sheet_text.specs.Lines.{months, readings}
use Rattle.sheet_text.specs.Reading.{month_filled, months_filled}

module _ (kwh : ℕ → ℕ) (m : ℕ) (s : List ℕ) where
  pub month-none : s ≡ month_filled kwh m 0 s
  unfolding month_filled
  month-none = refl

  pub month-next : (p : ℕ) → stored (32 + 96 * m + 4 * p) (bytes_of 4 (kwh p)) (month_filled kwh m p s) ≡ month_filled kwh m (p + 1) s
  unfolding month_filled
  month-next p = rw add-one

  pub month-length : (p : ℕ) → length s ≡ sheet_length → m < months → p ≤ readings → length (month_filled kwh m p s) ≡ sheet_length
  unfolding month_filled
  month-length zero long hm hp = long
  month-length (suc p) long hm hp =
      let before : length (month_filled kwh m p s) ≡ sheet_length = month-length p long hm (omega arith) in
      length-stored (32 + 96 * m + 4 * p) (bytes_of 4 (kwh p)) (month_filled kwh m p s) (omega (arith, length-bytes 4 (kwh p))) ∙ before

month-same : (f g : ℕ → ℕ) (m : ℕ) (s : List ℕ) (p : ℕ) → ((i : ℕ) → i < p → f i ≡ g i) → month_filled f m p s ≡ month_filled g m p s
unfolding month_filled
month-same f g m s zero h = refl
month-same f g m s (suc p) h =
    ap₂ (λ (n : ℕ) (l : List ℕ). stored (32 + 96 * m + 4 * p) (bytes_of 4 n) l) (h p (omega arith)) (month-same f g m s p (λ i l. h i (omega arith)))

module _ (kwh : ℕ → ℕ → ℕ) (s : List ℕ) where
  pub months-none : s ≡ months_filled kwh 0 s
  unfolding months_filled
  months-none = refl

  pub months-next : (m : ℕ) → month_filled (kwh m) m readings (months_filled kwh m s) ≡ months_filled kwh (m + 1) s
  unfolding months_filled
  months-next m = rw add-one

  pub months-length : (m : ℕ) → length s ≡ sheet_length → m ≤ months → length (months_filled kwh m s) ≡ sheet_length
  unfolding months_filled
  months-length zero long hm = long
  months-length (suc m) long hm =
      month-length (kwh m) m (months_filled kwh m s) readings (months-length m long (omega arith)) (omega arith) (omega arith)

pub months-same : (f g : ℕ → ℕ → ℕ) (s : List ℕ) (m : ℕ) → ((i p : ℕ) → i < m → p < readings → f i p ≡ g i p)
    → months_filled f m s ≡ months_filled g m s
unfolding months_filled
months-same f g s zero h = refl
months-same f g s (suc m) h =
    month-same (f m) (g m) m (months_filled f m s) readings (λ p l. h m p (omega arith) l)
    ∙ ap (month_filled (g m) m readings) (months-same f g s m (λ i p l k. h i p (omega arith) k))
