-- What holds of the raised readings.
use Rattle.std.specs.Prelude.{ℕ, ◌+◌, ◌*◌, ◌≤◌, ◌<◌, ◌≡◌, ◌⊎◌, List, length, get_or}
use Rattle.units.specs.Folds.{sum_below}
use Rattle.sheet.specs.YearSheet.{injected}
use Rattle.sheet_losses.specs.Losses.{rest_to, raised, decembers_rest, injected_place, raise_refusal, raised_after}

-- "For each band, 1,000 times the raised kWh of the year, plus that rest, equals the raw sum multiplied by the sum of 1,000 and
-- the factor", of any number of months and any readings
abbrev pub YearKept : Type 0
YearKept =
    (factor : ℕ) (raw : ℕ → ℕ) (months : ℕ)
    → 1000 * sum_below months (raised factor raw) + rest_to factor raw months ≡ sum_below months raw * (1000 + factor)

-- a byte that belongs to no injected reading
abbrev pub Elsewhere : ℕ → Type 0
Elsewhere k = (month : ℕ) → month < 12 → (k < injected_place month) ⊎ (injected_place month + 12 ≤ k)

-- the same of the sheet that an accepted call leaves; its other bytes; and a factor of 0
pub record RaisedWell (factor : ℕ) (s : List ℕ) : Type 0 where
  pub bands : (band : ℕ) → band < 3
      → 1000 * sum_below 12 (λ m. injected (raised_after factor s) m band) + decembers_rest factor s band
      ≡ sum_below 12 (λ m. injected s m band) * (1000 + factor)
  pub long : length (raised_after factor s) ≡ length s
  pub others : (k : ℕ) → Elsewhere k → get_or (raised_after factor s) k 0 ≡ get_or s k 0
  pub unraised : factor ≡ 0 → ((k : ℕ) → get_or s k 0 < 256) → raised_after factor s ≡ s

abbrev pub AcceptedRaise : Type 0
AcceptedRaise = (factor : ℕ) (s : List ℕ) → raise_refusal factor s ≡ 0 → RaisedWell factor s
