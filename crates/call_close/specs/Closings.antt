-- What a closing answers: "close the entry's sums", and zeros beside a refusal. And what must hold where a year is booked.
use Rattle.std.specs.Prelude.{ℕ, cond, List, eqb, pos}
use Rattle.units.specs.Units.{ticks}
use Rattle.sheet.specs.YearSheet.{sheet_user}
use Rattle.sheet_values.specs.declared.YearValues.{YearValues}
use Rattle.account_steps.specs.declared.Account.{Account}
use Rattle.account_steps.specs.Account.{balance, account_closed, settled, InRange}
use Rattle.account_steps.specs.Charges.{closing_withheld, account_withheld}
use Rattle.book_records.specs.Entries.{closing_entry}
use Rattle.call_rules.specs.Changes.{Change, enters}
use Rattle.sheet_values.specs.YearsValues.{year_values}
use Rattle.call_rules.specs.Refusals.{user_at}
use Rattle.call_answers.specs.InnerRooms.{EntryFits}
use Rattle.account_steps.specs.declared.ClosingSums.{ClosingSums}

unfoldable pub no_sums : ClosingSums
no_sums =
    record {
      value = ticks 0;
      cost = ticks 0;
      flat_rate = ticks 0;
      contribution = ticks 0;
      liquidation = ticks 0;
      lapsed = ticks 0;
      balance = balance (pos 0);
    }

unfoldable pub sums_answered : List ℕ → List ℕ → ℕ → ClosingSums
sums_answered b s refusal =
    cond (eqb refusal 0) (settled (user_at b (sheet_user s)) (year_values s (user_at b (sheet_user s)).details)) no_sums

-- what the closing of an account's open year with these values changes
unfoldable pub year_booked : Account → YearValues → Change
year_booked a v =
    let withheld = closing_withheld a v in
    enters (account_withheld withheld (account_closed v a)) (closing_entry a.open_year a.option (settled a v) (ticks withheld))

-- the year of the user i, whose account is a, can be closed with these values, and its entry fits into the book
pub record YearFits (b : List ℕ) (i : ℕ) (a : Account) (v : YearValues) : Type 0 where
  pub entry : EntryFits b i a
  pub in-range : InRange v a
