-- "How much more sun" (document 02, ticket 10), over the function of `ssp`, under whose contract other programs link it
-- (`Rattle.ssp_c.proofs.Linked`): what it finds is the least, and where it finds nothing there is nothing. In a call `a` are the
-- arguments, `r` the answer, `s` the arguments at the end; months and bands are counted from 1.
use Rattle.std.specs.Prelude.{ℕ, ◌+◌, ◌-◌, ◌≤◌, ◌<◌, ◌≡◌, Bool, true, false, List}
use Rattle.units.specs.Limits.{max_kwh}
use Rattle.sheet.specs.YearSheet.{sheet_user, injected}
use Rattle.call_rules.specs.Refusals.{user_at}
use Rattle.sheet_more_sun.specs.MoreSun.{covers_cost}
use Rattle.ssp.proofs.ssp_more_sun.Reads as more-sun-of

-- so many kWh more bring C to O or above, for the user of the sheet
abbrev pub reaches_for : (book sheet : List ℕ) (month band added : ℕ) → Bool
reaches_for b s month band added = covers_cost s (user_at b (sheet_user s)).details (month - 1) (band - 1) added

-- so many kWh more leave the field within its limit
abbrev pub AdditionFits : (sheet : List ℕ) (month band added : ℕ) → Type 0
AdditionFits s month band added = injected s (month - 1) (band - 1) + added ≤ max_kwh

pub record LeastAnswered : Type 1 where
  -- "the least added kWh which does this"
  pub found : (κs : _) (a : _) (r : _) (s : _) → more-sun-of.Post κs a r s → r.refusal ≡ 0 → r.found ≡ 1
      → AdditionFits a.1.0.now a.1.1.0 a.1.1.1.0 r.added
      × ((reaches_for a.0.now a.1.0.now a.1.1.0 a.1.1.1.0 r.added ≡ true)
      × ((y : ℕ) → y < r.added → reaches_for a.0.now a.1.0.now a.1.1.0 a.1.1.1.0 y ≡ false))
  -- "or the answer that none does within the 20,000,000 limit"
  pub none : (κs : _) (a : _) (r : _) (s : _) → more-sun-of.Post κs a r s → r.refusal ≡ 0 → r.found ≡ 0
      → (y : ℕ) → AdditionFits a.1.0.now a.1.1.0 a.1.1.1.0 y
      → reaches_for a.0.now a.1.0.now a.1.1.0 a.1.1.1.0 y ≡ false
