-- An account by value, and what an election, an advance and a closing make of it ("Closing", "Election and advances").
use Rattle.std.specs.Prelude.{ℕ, ◌+◌, ◌*◌, ◌<◌, ◌≤◌, cond, ℤ, ◌==◌}
use Rattle.std.specs.Int.{w64, int_wrap}
use Rattle.units.specs.Units.{ticks}
use Rattle.units.specs.Limits.{max_year_ticks, max_flat_rate, last_open_year, most_years}
use Rattle.sheet_values.specs.declared.YearValues.{YearValues}
use Rattle.account_steps.specs.declared.Account.{Account}
use Rattle.account_steps.specs.declared.Balance.{Balance}
use Rattle.account_steps.specs.declared.Outcome.{Outcome}
use Rattle.account_steps.specs.declared.Outcome.TheVariants.{Carried, Liquidated}
use Rattle.account_steps.specs.declared.Settlement.{Settlement}
use Rattle.account_steps.specs.declared.Closed.{Closed}
use Rattle.account_steps.specs.declared.ClosingSums.{ClosingSums}
use Rattle.account_steps.specs.Closing.{liquidates, contribution_of, liquidation_of, lapsed_of, credit_after, balance_of}

abbrev pub balance : ℤ → Balance
balance z = record { 0 = z }

-- what 64 bits hold of a signed amount: the amount itself from −2^63 to below 2^63, as every balance of amounts in their ranges is
abbrev pub held_balance : ℤ → Balance
held_balance z = balance (int_wrap w64 z)

-- the result of a closing: carried with its credit, or liquidated with amount and lapse
unfoldable pub outcome_of : ℕ → ℕ → ℕ → ℕ → Outcome
outcome_of option k c o =
    cond (liquidates option) (Liquidated (ticks (liquidation_of option c o)) (ticks (lapsed_of option k)))
    (Carried (ticks (credit_after option k c o)))

-- what an outcome means for document 01's figures
unfoldable pub liquidation_in : Outcome → ℕ
liquidation_in (Carried credit) = 0
liquidation_in (Liquidated amount lapse) = amount.0

unfoldable pub lapsed_in : Outcome → ℕ
lapsed_in (Carried credit) = 0
lapsed_in (Liquidated amount lapse) = lapse.0

unfoldable pub credit_in : Outcome → ℕ
credit_in (Carried credit) = credit.0
credit_in (Liquidated amount lapse) = 0

unfoldable pub settlement_of : ℕ → ℕ → ℕ → ℕ → ℕ → ℕ → Settlement
settlement_of option k a c o f =
    record {
      contribution = ticks (contribution_of option k c o f);
      balance = held_balance (balance_of (contribution_of option k c o f) a);
      outcome = outcome_of option k c o;
    }

-- "An election sets the option of the open year a and those after it."
unfoldable pub account_elected : ℕ → Account → Account
account_elected option a = record a { option = option }

-- "An account may have two open years, and a run names either. Each year has its own runs and advances" (ticket 6): those of the
-- open year if that is the year, else of the one after it
unfoldable pub runs_in : ℕ → Account → ℕ
runs_in year a = cond (year == a.open_year) a.runs a.later_runs

unfoldable pub advances_in : ℕ → Account → ℕ
advances_in year a = cond (year == a.open_year) a.advances.0 a.later_advances.0

-- "Each run adds one entry, joins the advances field and sets its bit.", of the year that it names. The bit is not set before.
unfoldable pub account_advanced : ℕ → ℕ → ℕ → Account → Account
account_advanced year run paid a =
    record a {
      runs = cond (year == a.open_year) (a.runs + run) a.runs;
      later_runs = cond (year == a.open_year) a.later_runs (a.later_runs + run);
      advances = ticks (cond (year == a.open_year) (a.advances.0 + paid) a.advances.0);
      later_advances = ticks (cond (year == a.open_year) a.later_advances.0 (a.later_advances.0 + paid));
    }

-- "Then A and the runs become 0, the halves become the sums of the months' exchanged kWh, and the open year rises by
-- one." What the later year has is "moved up by a closing" (ticket 6): that year is now the open one. It
-- has no charge yet; the rest stays (ticket 1).
unfoldable pub account_closed : YearValues → Account → Account
account_closed v a =
    record a {
      open_year = a.open_year + 1;
      runs = a.later_runs;
      later_runs = 0;
      credit = ticks (credit_after a.option a.credit.0 v.value.0 v.cost.0);
      advances = a.later_advances;
      later_advances = ticks 0;
      half1 = v.half1;
      half2 = v.half2;
      charge = record { made = 0; rest = a.charge.rest };
    }

unfoldable pub closed_of : YearValues → Account → Closed
closed_of v a =
    record {
      account = account_closed v a;
      settlement =
          settlement_of a.option a.credit.0 a.advances.0 v.value.0 v.cost.0 v.flat_rate.0;
    }

-- the sums that the closing of an account's open year comes to, with these values
unfoldable pub settled : Account → YearValues → ClosingSums
settled a v =
    record {
      value = v.value;
      cost = v.cost;
      flat_rate = v.flat_rate;
      contribution = ticks (contribution_of a.option a.credit.0 v.value.0 v.cost.0 v.flat_rate.0);
      liquidation = ticks (liquidation_of a.option v.value.0 v.cost.0);
      lapsed = ticks (lapsed_of a.option a.credit.0);
      balance =
          held_balance (balance_of (contribution_of a.option a.credit.0 v.value.0 v.cost.0 v.flat_rate.0)
          a.advances.0);
    }

-- the ranges of "Book" in which every sum of a closing fits, k the credit before it, ..
pub record SumsInRange (k : ℕ) (v : YearValues) : Type 0 where
  pub value : v.value.0 ≤ max_year_ticks
  pub cost : v.cost.0 ≤ max_year_ticks
  pub flat_rate : v.flat_rate.0 ≤ max_flat_rate
  pub credit : k ≤ max_year_ticks * most_years

-- .. and a year after the open one
pub record InRange (v : YearValues) (a : Account) : Type 0 where
  pub sums : SumsInRange a.credit.0 v
  pub year : a.open_year < last_open_year
