-- What an accepted call changes fits the book: from its rules, by number.
use Prim.Native.Nat.{ℕ, ◌≤◌, ◌<◌, ◌^◌}
use mathlib.Core.Path.{◌≡◌, refl}
use mathlib.Core.Bool.{true, not, ◌&&◌}
use mathlib.Core.List.{List}
use native.Mathlib.Omega.{arith}
use borrow.Author.Tests.{eqb-true, eqb-false, not-true, leb-true}
use lib.Dec.{eqb, leb}
use Rattle.units.specs.Limits.{last_activation}
use Rattle.units.proofs.Bools.{and_left, and_right}
use Rattle.calendar.specs.ElectionAndAdvances.{is_day}
use Rattle.sheet.specs.YearSheet.{sheet_user, sheet_year, refused11, refused13, refused19, SheetPassed}
use Rattle.sheet_values.specs.declared.Details.{Details}
use Rattle.sheet_values.specs.YearsValues.{year_values}
use Rattle.account_steps.specs.declared.Account.{Account}
use Rattle.account_steps.specs.Account.{account_elected}
use Rattle.account_steps.specs.Charges.{account_charged}
use Rattle.book_rules.specs.Book.{is_user, account_at, account_fits}
use Rattle.book_rules.specs.Find.{find_user}
use Rattle.call_rules.specs.Rules.{test_of}
use Rattle.call_rules.specs.Refusals.{look_at, user_at, day_and_option, year_open, charge_open}
use Rattle.call_rules.specs.Changes.{new_account}
use Rattle.call_rules.specs.Calls.{Call, enrol, elect, advance, close, statement, charge, named_by, rules_of, refusal_of, change_of, Typed}
use Rattle.call_rules.proofs.Orders.{fact}
use Rattle.call_keeps.proofs.Good.{Good, room}
use Rattle.call_keeps.proofs.Numbers.{Found, found, none_found}
use Rattle.call_keeps.proofs.YearRanges.{values-fit}
use Rattle.call_keeps.proofs.Accounts.{new-account-fits, elected-fits, elected-same, advanced-same, closed_same, charged-fits, charged-same, withheld-same}
use Rattle.call_keeps.proofs.Enrolment.{NewAccount}
use Rattle.call_keeps.proofs.Changes.{Fits, no_change, a-user, an-account, an-entry}
use Rattle.call_keeps.proofs.Advance.{run-booked}
use Rattle.call_keeps.proofs.Close.{year-booked}

-- the user that a call names
pub named-user : (b : List ℕ) (number : ℕ) → not (eqb (find_user b number) 0) ≡ true → Found b number (find_user b number)
named-user b number h = found b number (eqb-false (find_user b number) 0 (not-true (eqb (find_user b number) 0) h))

new-account : (b : List ℕ) (number : ℕ) (d : Details) (option : ℕ) → number < 2 ^ 32 → refusal_of b (enrol number d option) ≡ 0 → NewAccount b (new_account number d option)
unfolding new_account test_of rules_of look_at named_by
new-account b number d option below h =
    let accepted = fact b (enrol number d option) h in
    let unused : (not (eqb number 0) && eqb (find_user b number) 0) ≡ true = accepted 4 in
    let free = and_right (not (eqb number 0)) (eqb (find_user b number) 0) unused in
    record {
      fits = new-account-fits number d option (and_left (not (eqb number 0)) (eqb (find_user b number) 0) unused) (accepted 5);
      number-below = below;
      no-year = refl;
      number-free = none_found b number (eqb-true (find_user b number) 0 free);
    }

option-fits : (option year month day : ℕ) → day_and_option option year month day ≡ true → leb option 1 ≡ true
unfolding day_and_option
option-fits option year month day h = and_right (is_day year month day) (leb option 1) h

pub year-is-open : (a : Account) (year : ℕ) → year_open a year ≡ true → (year ≡ a.open_year) × (a.open_year ≤ last_activation)
unfolding year_open
year-is-open a year h =
    let same = eqb-true year a.open_year (and_left (eqb year a.open_year) (leb year last_activation) h) in
    let last = leb-true year last_activation (and_right (eqb year a.open_year) (leb year last_activation) h) in
    (same, omega (arith, same, last))

-- the open year has no charge
uncharged : (a : Account) → charge_open a ≡ true → a.charge.made ≡ 0
unfolding charge_open
uncharged a h = eqb-true a.charge.made 0 (and_left (eqb a.charge.made 0) (leb a.open_year last_activation) h)

pub sheet-passed : (b s : List ℕ) → refusal_of b (close s) ≡ 0 → SheetPassed s
unfolding test_of rules_of look_at named_by
sheet-passed b s h =
    let accepted = fact b (close s) h in record { past11 = not-true (refused11 s) (accepted 11); past13 = (not-true (refused13 s) (accepted 13), not-true (refused19 s) (accepted 19)) }

module _ (b : List ℕ) (g : Good b) where
  fits-at : (i : ℕ) → is_user b i ≡ true → account_fits (account_at b i) ≡ true
  fits-at i u = (g.faultless.user i u).fits

  pub call_fits : (c : Call) → Typed c → refusal_of b c ≡ 0 → Fits b (find_user b (named_by c)) (change_of (user_at b (named_by c)) c)
  unfolding change_of account_elected account_charged Typed test_of rules_of look_at named_by
  call_fits (enrol n d o) t h = a-user (new-account b n d o t.0 h) (room b g (fact b (enrol n d o) h 3))
  call_fits (elect n o y m d) t h =
      let accepted = fact b (elect n o y m d) h in
      let user = (named-user b n (accepted 6)).user in
      let a = user_at b n in
      an-account user (elected-same a o) (elected-fits a o (option-fits o y m d (accepted 7)) (fits-at (find_user b n) user)) refl
  call_fits (advance n y r p e₁ e₂) t h =
      let accepted = fact b (advance n y r p e₁ e₂) h in
      let user = (named-user b n (accepted 6)).user in
      let k = run-booked (user_at b n) y r p e₁ e₂ (fits-at (find_user b n) user) (accepted 9) (accepted 10) in
      an-entry user (withheld-same (user_at b n) _ _ (advanced-same (user_at b n) y r _)) k.fits (room b g (accepted 3)) k.joins
  call_fits (close s) t h =
      let accepted = fact b (close s) h in
      let n = sheet_user s in
      let user = (named-user b n (accepted 6)).user in
      let a = user_at b n in
      let v = year_values s a.details in
      let k = year-booked a v (fits-at (find_user b n) user) (values-fit s (sheet-passed b s h) a.details) (year-is-open a (sheet_year s) (accepted 12)).1 in
      an-entry user (withheld-same a _ _ (closed_same a v)) k.fits (room b g (accepted 3)) k.joins
  call_fits (statement n) t h = no_change
  call_fits (charge n) t h =
      let accepted = fact b (charge n) h in
      let user = (named-user b n (accepted 6)).user in
      let a = user_at b n in
      an-account user (charged-same a) (charged-fits a (fits-at (find_user b n) user) (uncharged a (accepted 16))) refl
