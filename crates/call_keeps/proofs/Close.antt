-- An accepted closing keeps a sound book sound: each sum of the entry stays in its range, and the new account fits.
use Prim.Native.Nat.{ℕ, ◌+◌, ◌-◌, ◌*◌, ◌≤◌}
use mathlib.Core.Path.{◌≡◌, refl}
use mathlib.Core.Bool.{true, ◌&&◌}
use native.Mathlib.Nat.{le_trans}
use native.Mathlib.Omega.{arith}
use borrow.Author.Tests.{le-leb}
use lib.IntN.{pos, neg_ℤ}
use Rattle.std.specs.Int.{w64, int_wrap}
use Rattle.std.specs.Prelude.{FitsSigned, int_le}
use Rattle.std.proofs.lemmas.Int.{SFits-int_wrap}
use Rattle.units.proofs.Bools.{and_both}
use Rattle.units.specs.Units.{ticks}
use Rattle.units.specs.Limits.{max_year_ticks, max_flat_rate, max_contribution, last_activation}
use Rattle.sheet_values.specs.declared.YearValues.{YearValues}
use Rattle.sheet_values.specs.YearsValues.{ValuesFit}
use Rattle.account_steps.specs.declared.Account.{Account}
use Rattle.account_steps.specs.Account.{account_closed}
use Rattle.account_steps.specs.Closing.{contribution_of, liquidation_of, lapsed_of, balance_of}
use Rattle.account_steps.proofs.Closing.{contribution-capped, liquidation-capped, lapsed-at-most}
use Rattle.account_steps.proofs.Balances.{balance-held, by_sign}
use Rattle.account_steps.specs.Charges.{positive_part, closing_withheld, account_withheld}
use Rattle.account_steps.proofs.Charges.{closing-paid}
use Rattle.book_rules.specs.Book.{account_fits, year_fits, balance_fits, paid_balance, withheld_fits, closing_fits}
use Rattle.call_keeps.proofs.Widths.{account-within}
use Rattle.call_keeps.proofs.Accounts.{closed-fits, withheld-fits}
use Rattle.book_records.specs.Entries.{closing_entry, closing_record}
use Rattle.call_keeps.proofs.Changes.{Joins, a-closing}
use Rattle.account_steps.specs.Account.{settled}

-- the balance of a closing, which 64 bits hold, is in its range, and pays its positive part
balance-fits-range : (x a : ℕ) → x ≤ max_contribution → a ≤ max_year_ticks → balance_fits (int_wrap w64 (balance_of x a)) ≡ true
unfolding balance_fits
balance-fits-range x a hx ha =
    rw (balance-held x a (omega arith) (omega arith))
    (by_sign (λ z. (int_le (neg_ℤ (pos max_year_ticks)) z && int_le z (pos max_contribution)) ≡ true) x a (λ n h. le-leb n max_contribution (omega arith))
    (λ n h. and_both (le-leb n (max_year_ticks - 1) (omega arith)) refl))

paid-part : (x a : ℕ) → x ≤ max_contribution → a ≤ max_year_ticks → paid_balance (int_wrap w64 (balance_of x a)) ≡ positive_part (balance_of x a)
unfolding paid_balance positive_part
paid-part x a hx ha =
    rw (balance-held x a (omega arith) (omega arith))
    (by_sign (λ z. paid_balance z ≡ positive_part z) x a (λ n h. rw (le-leb n max_contribution (omega arith)) refl) (λ n h. refl))

-- the account and the entry of a closed year
pub record YearBooked (a : Account) (v : YearValues) : Type 0 where
  pub fits : account_fits (account_withheld (closing_withheld a v) (account_closed v a)) ≡ true
  pub joins : Joins (account_withheld (closing_withheld a v) (account_closed v a)) a.open_year
      (closing_entry a.open_year a.option (settled a v) (ticks (closing_withheld a v)))

module _ (a : Account) (v : YearValues) (before : account_fits a ≡ true) (values : ValuesFit v) where
  pub contribution-below : contribution_of a.option a.credit.0 v.value.0 v.cost.0 v.flat_rate.0 ≤ max_contribution
  contribution-below = contribution-capped a.option a.credit.0 v.value.0 v.cost.0 v.flat_rate.0 values.cost values.flat_rate

  -- it withholds at most what it pays
  held-in-range : withheld_fits (closing_record 0 0 a.open_year a.option (settled a v) (ticks (closing_withheld a v))) ≡ true
  unfolding withheld_fits settled closing_withheld
  held-in-range =
      let w = account-within a before in
      let due = contribution_of a.option a.credit.0 v.value.0 v.cost.0 v.flat_rate.0 in
      let liquidation = liquidation_of a.option v.value.0 v.cost.0 in
      let paid = paid-part due a.advances.0 contribution-below w.advances in
      let most = closing-paid a.charge.rest.0 (balance_of due a.advances.0) liquidation in
      le-leb (closing_withheld a v) (paid_balance (int_wrap w64 (balance_of due a.advances.0)) + liquidation) (omega (arith, paid, most))

  closing-in-range : closing_fits (account_withheld (closing_withheld a v) (account_closed v a)) (closing_record 0 0 a.open_year a.option (settled a v) (ticks (closing_withheld a v))) ≡ true
  unfolding closing_fits year_fits account_closed account_withheld settled
  closing-in-range =
      let w = account-within a before in
      let lapsed = lapsed-at-most a.option a.credit.0 in
      and_both
      (and_both
      (and_both (le-leb a.details.year a.open_year w.from) (le-leb a.open_year (a.open_year + 1) (omega arith)))
      (le-leb a.option 1 w.details.option))
      (and_both
      (and_both (and_both (le-leb v.value.0 max_year_ticks values.value) (le-leb v.cost.0 max_year_ticks values.cost))
      (and_both (le-leb v.flat_rate.0 max_flat_rate values.flat_rate)
      (le-leb (contribution_of a.option a.credit.0 v.value.0 v.cost.0 v.flat_rate.0) max_contribution contribution-below)))
      (and_both
      (and_both
      (le-leb (liquidation_of a.option v.value.0 v.cost.0) max_year_ticks (liquidation-capped a.option v.value.0 v.cost.0 values.value))
      (le-leb (lapsed_of a.option a.credit.0) (max_year_ticks * (a.open_year - a.details.year)) (le_trans lapsed w.credit)))
      (and_both
      (balance-fits-range (contribution_of a.option a.credit.0 v.value.0 v.cost.0 v.flat_rate.0) a.advances.0 contribution-below w.advances)
      held-in-range)))

  balance-small : FitsSigned w64 (settled a v).balance.0
  unfolding settled
  balance-small = SFits-int_wrap w64 (balance_of (contribution_of a.option a.credit.0 v.value.0 v.cost.0 v.flat_rate.0) a.advances.0)

  pub year-booked : a.open_year ≤ last_activation → YearBooked a v
  unfolding account_closed account_withheld
  year-booked last = record { fits = withheld-fits (account_closed v a) (closing_withheld a v) (closed-fits a v before last values); joins = a-closing closing-in-range balance-small refl }
