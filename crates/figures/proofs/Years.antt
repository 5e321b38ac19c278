-- The three years of figure (10) are within the ranges of a closing.
use native.Mathlib.Omega.{arith}
use Rattle.account_steps.specs.declared.Account.{Account}
use Rattle.account_steps.specs.Closing.{credit_after}
use Rattle.account_steps.specs.Account.{account_elected, account_closed, closed_of, InRange}
use Rattle.figures.specs.Accounts.{opened, year_with}

abbrev second : Account
second = (closed_of (year_with 10 4) opened).account

pub second-in-range : InRange (year_with 3 5) second
unfolding closed_of account_closed credit_after
second-in-range =
    record {
      sums = record { value = omega arith; cost = omega arith; flat_rate = omega arith; credit = omega arith };
      year = omega arith;
    }

abbrev third : Account
third = account_elected 1 (closed_of (year_with 3 5) second).account

pub third-in-range : InRange (year_with 9 2) third
unfolding closed_of account_closed account_elected credit_after
third-in-range =
    record {
      sums = record { value = omega arith; cost = omega arith; flat_rate = omega arith; credit = omega arith };
      year = omega arith;
    }
