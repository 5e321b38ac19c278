-- RAW INJECTED READINGS (document 02, ticket 12), over the function of `ssp`, under whose contract other programs link it
-- (`Rattle.ssp_c.proofs.Linked`). Of a call of it no more is known than its contract (`Post κs a r s`: a the arguments, r the
-- answer, s the arguments at the end).
use Rattle.std.specs.Prelude.{ℕ, ◌+◌, ◌*◌, ◌≡◌, List, get_or}
use Rattle.units.specs.Folds.{sum_below}
use Rattle.sheet.specs.YearSheet.{injected}
use Rattle.sheet_losses.specs.Laws.{Elsewhere}
use Rattle.ssp.proofs.ssp_raise.Reads as raise-of
use Rattle.theorem_ssp.specs.Archives.{Bytes}

-- "1,000 times the raised kWh of the year, plus that rest, equals the raw sum multiplied by the sum of 1,000 and the factor"
abbrev pub SumKept : (before after : List ℕ) (factor band rest : ℕ) → Type 0
SumKept before after factor band rest =
    1000 * sum_below 12 (λ m. injected after m band) + rest ≡ sum_below 12 (λ m. injected before m band) * (1000 + factor)

pub record Raises : Type 1 where
  -- "For each band"
  pub band1 : (κs : _) (a : _) (r : _) (s : _) → raise-of.Post κs a r s → r.refusal ≡ 0
      → SumKept a.0.now s.0.now a.1.0 0 r.rest1
  pub band2 : (κs : _) (a : _) (r : _) (s : _) → raise-of.Post κs a r s → r.refusal ≡ 0
      → SumKept a.0.now s.0.now a.1.0 1 r.rest2
  pub band3 : (κs : _) (a : _) (r : _) (s : _) → raise-of.Post κs a r s → r.refusal ≡ 0
      → SumKept a.0.now s.0.now a.1.0 2 r.rest3
  -- bytes that belong to no injected reading stay, whatever the answer is
  pub others : (κs : _) (a : _) (r : _) (s : _) → raise-of.Post κs a r s → (k : ℕ) → Elsewhere k
      → get_or s.0.now k 0 ≡ get_or a.0.now k 0
  -- a refusal leaves the sheet, and so does a factor of 0
  pub refused : (κs : _) (a : _) (r : _) (s : _) → raise-of.Post κs a r s → (r.refusal ≡ 0 → ⊥) → s.0.now ≡ a.0.now
  pub unraised : (κs : _) (a : _) (r : _) (s : _) → raise-of.Post κs a r s → a.1.0 ≡ 0 → Bytes a.0.now → s.0.now ≡ a.0.now
