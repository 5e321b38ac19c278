-- What an advance answers, and what must hold where a run is booked.
use Rattle.std.specs.Prelude.{ℕ, ◌+◌, ◌^◌, ◌≤◌, ◌<◌, cond, List, eqb}
use Rattle.units.specs.Units.{ticks}
use Rattle.units.specs.declared.Ticks.{Ticks}
use Rattle.account_steps.specs.declared.Account.{Account}
use Rattle.account_steps.specs.Account.{runs_in, advances_in, account_advanced}
use Rattle.account_steps.specs.Charges.{withheld_from, account_withheld}
use Rattle.book_records.specs.Entries.{advance_entry}
use Rattle.call_rules.specs.Refusals.{user_at}
use Rattle.call_rules.specs.Changes.{Change, enters, booked_in, run_amount}
use Rattle.call_answers.specs.InnerRooms.{EntryFits}

-- "An accepted call answers 0 and: .. advance the ticks", and zero beside a refusal
unfoldable pub ticks_answered : List ℕ → ℕ → ℕ → ℕ → ℕ → ℕ → ℕ → ℕ → Ticks
ticks_answered b number year run rate estimate1 estimate2 refusal =
    ticks (cond (eqb refusal 0) (run_amount (user_at b number) year run rate estimate1 estimate2) 0)

-- what a run that pays so much changes
unfoldable pub run_booked : Account → ℕ → ℕ → ℕ → Change
run_booked a year run paid =
    let withheld = withheld_from a.charge.rest.0 paid in
    enters (account_withheld withheld (account_advanced year run paid a))
    (advance_entry year (booked_in a year) run (ticks paid) (ticks withheld))

-- the run of the user i, whose account is a, fits into the account and its entry into the book
pub record RunFits (b : List ℕ) (i : ℕ) (a : Account) (year run paid : ℕ) : Type 0 where
  pub entry : EntryFits b i a
  pub year-below : year < 2 ^ 16
  pub runs : runs_in year a + run ≤ 7
  pub advances : advances_in year a + paid < 2 ^ 64
