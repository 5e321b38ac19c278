-- An accepted run: its amount is bounded by the halves that it pays, so that account and entry are in their ranges.
use Prim.Native.Nat.{ℕ, ◌+◌, ◌*◌, ◌≤◌}
use mathlib.Core.Path.{◌≡◌, refl}
use mathlib.Core.Bool.{Bool, true, false, cond}
use mathlib.Core.Logic.{◌⊎◌, inl, inr, ⊎_elim}
use native.Mathlib.Omega.{arith}
use borrow.Author.Tests.{leb-true, le-leb, eq-eqb, ne_eqb, eqb-true, not-true}
use lib.Dec.{eqb}
use Rattle.units.proofs.Bools.{and_both, or_cases, cond-capped}
use Rattle.units.specs.Units.{ticks}
use Rattle.units.specs.Limits.{max_price, max_half_kwh, max_half_ticks, max_year_ticks, last_activation}
use Rattle.calendar.specs.declared.Halves.{Halves}
use Rattle.calendar.specs.ElectionAndAdvances.{halves_paid, halves_count, due, amount_of}
use Rattle.calendar.proofs.Amounts.{half_at_most, halves_at_most, run-of-shares}
use Rattle.account_steps.specs.declared.Account.{Account}
use Rattle.account_steps.specs.Account.{runs_in, account_advanced}
use Rattle.book_rules.specs.Book.{account_fits, is_made, is_run, year_fits, level_from, booked_fits, advance_fits}
use Rattle.call_rules.specs.Changes.{booked_in, run_amount}
use Rattle.call_rules.specs.Refusals.{is_open, run_open, order_fits}
use Rattle.call_keeps.proofs.Ranges.{conjuncts}
use Rattle.call_keeps.proofs.Widths.{account-within}
use Rattle.call_keeps.proofs.Accounts.{advanced-fits, withheld-fits}
use Rattle.account_steps.specs.Charges.{withheld_from, account_withheld}
use Rattle.account_steps.proofs.Charges.{withheld-paid}
use Rattle.book_records.specs.Entries.{advance_entry, advance_record}
use Rattle.call_keeps.proofs.Changes.{Joins, an-advance}

-- each half pays at most its most, and so does the run
amount-at-most : (h : Halves) (price h₁ h₂ : ℕ) → price ≤ max_price → h₁ ≤ max_half_kwh → h₂ ≤ max_half_kwh → amount_of h price h₁ h₂ ≤ max_half_ticks * halves_count h
unfolding amount_of
amount-at-most h price h₁ h₂ p l₁ l₂ =
    (run-of-shares h price h₁ h₂ {paid = ticks (amount_of h price h₁ h₂)} refl refl (share h.first h₁ l₁) (share h.second h₂ l₂) refl).most
  where
    share : (pays : Bool) (energy : ℕ) → energy ≤ max_half_kwh → cond pays (energy * price) 0 ≤ max_half_ticks * cond pays 1 0
    share true energy l = half_at_most l p
    share false energy l = omega arith

-- the two open years
open-years : (a : Account) (year : ℕ) → is_open a year ≡ true → (year ≡ a.open_year) ⊎ (year ≡ a.open_year + 1)
unfolding is_open
open-years a year h =
    ⊎_elim (λ e. inl (eqb-true year a.open_year e)) (λ e. inr (eqb-true year (a.open_year + 1) e))
    (or_cases (eqb year a.open_year) (eqb year (a.open_year + 1)) h)

-- what an accepted run is
pub record RunDue (a : Account) (year run : ℕ) : Type 0 where
  pub year-is : (year ≡ a.open_year) ⊎ (year ≡ a.open_year + 1)
  pub last : year ≤ last_activation
  pub is : is_run run ≡ true
  pub due-then : due (halves_paid a.details.year a.details.month year run) ≡ true
  pub unmade : is_made (runs_in year a) run ≡ false

pub run-due : (a : Account) (year run : ℕ) → run_open a year run ≡ true → RunDue a year run
unfolding run_open
run-due a year run h =
    record {
      year-is = open-years a year (search conjuncts);
      last = search (conjuncts, leb-true);
      is = search conjuncts;
      due-then = search conjuncts;
      unmade = search (not-true, conjuncts);
    }

pub run-at-most : (a : Account) (year run rate estimate1 estimate2 : ℕ) → account_fits a ≡ true → order_fits rate estimate1 estimate2 ≡ true
    → run_amount a year run rate estimate1 estimate2 ≤ max_half_ticks * halves_count (halves_paid a.details.year a.details.month year run)
unfolding run_amount order_fits
run-at-most a year run rate estimate1 estimate2 fits order =
    let w = account-within a fits in
    let price : rate ≤ max_price = search (conjuncts, leb-true) in
    let first : estimate1 ≤ max_half_kwh = search (conjuncts, leb-true) in
    let second : estimate2 ≤ max_half_kwh = search (conjuncts, leb-true) in
    amount-at-most (halves_paid a.details.year a.details.month year run) rate (cond none estimate1 a.half1.0) (cond none estimate2 a.half2.0) price
    (cond-capped none first w.half1) (cond-capped none second w.half2)
  where
    none : Bool
    none = eqb a.open_year a.details.year

-- the level of its entry is the open year
pub booked-level : (a : Account) (year : ℕ) → 1 ≤ a.open_year → (year ≡ a.open_year) ⊎ (year ≡ a.open_year + 1)
    → (level_from year (booked_in a year) ≡ a.open_year) × (booked_fits year (booked_in a year) ≡ true)
unfolding level_from booked_fits booked_in
booked-level a year some (inl same) = (rw (eq-eqb year a.open_year same) same, rw (eq-eqb year a.open_year same))
booked-level a year some (inr later) =
    let other = ne_eqb year a.open_year (λ e. omega arith) in
    let noted = ne_eqb a.open_year 0 (λ e. omega arith) in
    (rw (other, noted), rw (other, noted, eq-eqb (a.open_year + 1) year (omega arith)))

-- the account and the entry of an accepted run
pub record RunBooked (a : Account) (year run paid withheld : ℕ) : Type 0 where
  pub fits : account_fits (account_withheld withheld (account_advanced year run paid a)) ≡ true
  pub joins : Joins (account_withheld withheld (account_advanced year run paid a)) a.open_year (advance_entry year (booked_in a year) run (ticks paid) (ticks withheld))

pub run-booked : (a : Account) (year run rate estimate1 estimate2 : ℕ) → account_fits a ≡ true → run_open a year run ≡ true → order_fits rate estimate1 estimate2 ≡ true
    → RunBooked a year run (run_amount a year run rate estimate1 estimate2) (withheld_from a.charge.rest.0 (run_amount a year run rate estimate1 estimate2))
unfolding advance_fits year_fits account_advanced account_withheld
run-booked a year run rate estimate1 estimate2 before opened order =
    let paid = run_amount a year run rate estimate1 estimate2 in
    let withheld = withheld_from a.charge.rest.0 paid in
    let d = run-due a year run opened in
    let most = run-at-most a year run rate estimate1 estimate2 before order in
    let two = halves_at_most (halves_paid a.details.year a.details.month year run) in
    let w = account-within a before in
    let level = booked-level a year (omega (arith, w.details.from, w.from)) d.year-is in
    let ranges : advance_fits (account_withheld withheld (account_advanced year run paid a)) (advance_record 0 0 year (booked_in a year) run (ticks paid) (ticks withheld)) ≡ true =
    and_both
    (and_both
    (and_both (le-leb a.details.year (level_from year (booked_in a year)) (omega (arith, w.from, level.0))) (le-leb (level_from year (booked_in a year)) a.open_year (omega (arith, level.0))))
    level.1)
    (and_both (and_both d.is (le-leb paid max_year_ticks (omega arith))) (le-leb withheld paid (withheld-paid a.charge.rest.0 paid))) in
    let after = advanced-fits a year run paid before d.year-is d.is d.unmade d.due-then most in
    record { fits = withheld-fits (account_advanced year run paid a) withheld after; joins = an-advance ranges level.0 refl }
