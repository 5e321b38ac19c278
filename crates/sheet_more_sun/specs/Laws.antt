-- What holds of the answer and of the changed sheet.
use Rattle.std.specs.Prelude.{ℕ, ◌+◌, ◌*◌, ◌≤◌, ◌<◌, ◌≡◌, Bool, true, false, List, length, Option, Some, None}
use Rattle.units.specs.Limits.{max_kwh}
use Rattle.codec.specs.Bytes.{part}
use Rattle.sheet.specs.YearSheet.{sheet_length, word, injected}
use Rattle.sheet_prices.specs.ValueAndCost.{cost_of}
use Rattle.sheet_values.specs.declared.Details.{Details}
use Rattle.units.specs.declared.Kwh.{Kwh}
use Rattle.sheet_more_sun.specs.MoreSun.{with_more, covers_cost, additions, more_sun}

-- "the least added kWh which does this": it does, and no smaller addition does. "the answer that none does": no addition below n
-- does.
abbrev pub IsLeast : ℕ → (ℕ → Bool) → Option Kwh → Type 0
IsLeast n test (Some x) = (x.0 < n) × ((test x.0 ≡ true) × ((y : ℕ) → y < x.0 → test y ≡ false))
IsLeast n test None = (y : ℕ) → y < n → test y ≡ false

abbrev pub AnswersLeast : Type 0
AnswersLeast = (s : List ℕ) (d : Details) (m band : ℕ) → IsLeast (additions s m band) (covers_cost s d m band) (more_sun s d m band)

-- "The added energy changes that one field only": header and all other numbers stay, and so does O
pub record OneFieldMore (s t : List ℕ) (m band added : ℕ) : Type 0 where
  pub long : length t ≡ length s
  pub header : part 32 0 t ≡ part 32 0 s
  pub field : injected t m band ≡ injected s m band + added
  pub others : (n place : ℕ) → n < 12 → place < 24 → (24 * n + place ≡ 24 * m + (3 + band) → ⊥) → word t n place ≡ word s n place
  pub cost : cost_of t ≡ cost_of s

abbrev pub ChangesOneField : Type 0
ChangesOneField =
    (s : List ℕ) (m band added : ℕ) → length s ≡ sheet_length → m < 12 → band < 3 → injected s m band + added ≤ max_kwh
    → OneFieldMore s (with_more s m band added) m band added
