-- A year that is booked: for the contract of an inner function alone.
use Rattle.std.specs.Prelude.{ℕ, ◌≡◌, List}
use Rattle.sheet_values.specs.declared.YearValues.{YearValues}
use Rattle.account_steps.specs.declared.Account.{Account}
use Rattle.account_steps.specs.declared.ClosingSums.{ClosingSums}
use Rattle.account_steps.specs.Account.{settled}
use Rattle.call_rules.specs.Changes.{applied}
use Rattle.call_close.specs.Closings.{year_booked}

pub record YearEntered (user : ℕ) (account : Account) (values : YearValues) (before after : List ℕ) (r : ClosingSums) : Type 0 where
  pub book : after ≡ applied user (year_booked account values) before
  pub sums : r ≡ settled account values
