-- The ranges of an account taken apart and put together, and the widths of bytes that they stay within.
use Prim.Native.Nat.{ℕ, ◌≤◌}
use mathlib.Core.Path.{◌≡◌}
use mathlib.Core.Bool.{true, not}
use borrow.Author.Tests.{leb-true}
use lib.Dec.{eqb}
use Rattle.units.proofs.Bools.{and_left, and_right, and_both}
use Rattle.units.specs.Limits.{max_power, first_activation, last_activation}
use Rattle.sheet_values.specs.declared.Details.{Details}
use Rattle.account_steps.specs.declared.Account.{Account}
use Rattle.book_rules.specs.Book.{details_fit, open_year_fits, runs_fit, advances_fit, later_fits, charge_fits, credit_fits, halves_fit, account_fits}

pub ruleset conjuncts = (and_left, and_right)

-- an account that fits, rule by rule
pub record AccountGood (a : Account) : Type 0 where
  pub number : not (eqb a.number.0 0) ≡ true
  pub details : details_fit a.details a.option ≡ true
  pub open_year : open_year_fits a ≡ true
  pub runs : runs_fit a ≡ true
  pub advances : advances_fit a ≡ true
  pub later : later_fits a ≡ true
  pub charge : charge_fits a ≡ true
  pub credit : credit_fits a ≡ true
  pub halves : halves_fit a ≡ true

pub account-good : (a : Account) → account_fits a ≡ true → AccountGood a
unfolding account_fits
account-good a h = search conjuncts

pub account-fits : (a : Account) → AccountGood a → account_fits a ≡ true
unfolding account_fits
account-fits a g =
    and_both (and_both g.number (and_both g.details g.open_year)) (and_both (and_both (and_both (and_both g.runs g.advances) g.later) g.charge) (and_both g.credit g.halves))

-- the ranges of the details and the option
pub record DetailsWithin (d : Details) (elected : ℕ) : Type 0 where
  pub class : d.class ≤ 11
  pub plant : d.plant ≤ 17
  pub power : d.power ≤ max_power
  pub from : first_activation ≤ d.year
  pub to : d.year ≤ last_activation
  pub month : d.month ≤ 12
  pub option : elected ≤ 1
  pub island : d.island ≤ 1

pub details-within : (d : Details) (option : ℕ) → details_fit d option ≡ true → DetailsWithin d option
unfolding details_fit
details-within d option h = search (conjuncts, leb-true)
