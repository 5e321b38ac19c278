-- The account that a booking writes fits its ranges: of a new user, after an election, after an advance, after a closing.
use Prim.Native.Nat.{ℕ, ◌+◌, ◌-◌, ◌*◌, ◌/◌, ◌%◌, ◌≤◌, ◌<◌}
use mathlib.Core.Path.{◌≡◌, refl, sym, subst}
use mathlib.Core.Bool.{Bool, true, false, cond, not, ◌||◌, true≢false}
use mathlib.Core.Logic.{◌⊎◌, inl, inr}
use native.Mathlib.Nat.{le_refl, add-zero}
use native.Mathlib.Omega.{arith}
use borrow.Author.Tests.{leb-true, le-leb, lt-ltb, eqb-true, eqb-false, ne_eqb}
use lib.Dec.{leb, eqb}
use Rattle.units.proofs.Bools.{and_both, and_right, cond-capped}
use Rattle.units.specs.Limits.{max_year_ticks, max_half_ticks, max_half_kwh, max_charge, last_activation, last_open_year}
use Rattle.calendar.specs.ElectionAndAdvances.{june, october, january, halves, halves_paid, due, halves_count}
use Rattle.sheet_values.specs.declared.Details.{Details}
use Rattle.sheet_values.specs.declared.YearValues.{YearValues}
use Rattle.sheet_values.specs.YearsValues.{ValuesFit}
use Rattle.account_steps.specs.declared.Account.{Account}
use Rattle.account_steps.specs.Account.{account_elected, runs_in, account_advanced, account_closed}
use Rattle.account_steps.specs.Closing.{credit_after}
use Rattle.account_steps.specs.Charges.{charge_of, account_charged, account_withheld}
use Rattle.account_steps.proofs.Closing.{credit-capped}
use Rattle.account_steps.proofs.TwoYears.{joined, joined_later, runs-open, advanced-open, runs-later, advanced-later}
use Rattle.book_rules.specs.Book.{details_fit, open_year_fits, halves_of, is_made, run_made, due_if_made, runs_fit, halves_made, advances_fit, later_half, later_fits, charge_fits, credit_fits}
use Rattle.book_rules.specs.Book.{halves_fit}
use Rattle.book_rules.specs.Book.{account_fits, is_run}
use Rattle.call_rules.specs.Changes.{new_account}
use Rattle.book_rules.proofs.Payments.{uncharged}
use Rattle.call_keeps.proofs.Ranges.{conjuncts, account-good, account-fits, details-within}
use Rattle.call_keeps.proofs.Widths.{AccountWithin, account-within}
use Rattle.call_keeps.proofs.Runs.{Run, June, October, January, is-run, other-year, bits_below, bit-joins}
use Rattle.call_keeps.proofs.Frame.{SameUser}
use Rattle.call_keeps.proofs.Bools.{or-second}

-- no runs, no advances and no credit fit
no-runs : (a : Account) → a.runs ≡ 0 → runs_fit a ≡ true
unfolding runs_fit due_if_made is_made
no-runs a e = rw e

no-advances : (a : Account) → a.advances.0 ≡ 0 → advances_fit a ≡ true
unfolding advances_fit
no-advances a e = le-leb a.advances.0 (max_half_ticks * (halves_made a june + halves_made a october + halves_made a january)) (omega arith)

no-later : (a : Account) → a.later_runs ≡ 0 → a.later_advances.0 ≡ 0 → later_fits a ≡ true
unfolding later_fits
no-later a e none =
    and_both (le-leb a.later_runs 3 (omega arith)) (le-leb a.later_advances.0 (max_half_ticks * (later_half a june + later_half a october)) (omega arith))

no-credit : (a : Account) → a.credit.0 ≡ 0 → credit_fits a ≡ true
unfolding credit_fits
no-credit a e = le-leb a.credit.0 (max_year_ticks * (a.open_year - a.details.year)) (omega arith)

-- a new user has no sums and no runs
pub new-account-fits : (number : ℕ) (d : Details) (option : ℕ) → not (eqb number 0) ≡ true → details_fit d option ≡ true
    → account_fits (new_account number d option) ≡ true
unfolding new_account open_year_fits halves_fit
new-account-fits number d option some fits =
    let w = details-within d option fits in
    account-fits (new_account number d option)
    (record {
      number = some;
      details = fits;
      open_year = and_both (le-leb d.year d.year (le_refl d.year)) (le-leb d.year last_open_year (omega (arith, w.to)));
      runs = no-runs (new_account number d option) refl;
      advances = no-advances (new_account number d option) refl;
      later = no-later (new_account number d option) refl refl;
      charge = uncharged (new_account number d option) refl refl;
      credit = no-credit (new_account number d option) refl;
      halves = refl;
    })

-- an election changes the option alone
details-elected : (d : Details) (before option : ℕ) → details_fit d before ≡ true → leb option 1 ≡ true → details_fit d option ≡ true
unfolding details_fit
details-elected d before option h o = search (and_both, conjuncts)

pub elected-fits : (a : Account) (option : ℕ) → leb option 1 ≡ true → account_fits a ≡ true → account_fits (account_elected option a) ≡ true
unfolding account_elected open_year_fits runs_fit due_if_made halves_of advances_fit halves_made later_fits later_half charge_fits credit_fits halves_fit
elected-fits a option o h =
    let g = account-good a h in
    account-fits (account_elected option a)
    (record {
      number = g.number;
      details = details-elected a.details a.option option g.details o;
      open_year = g.open_year;
      runs = g.runs;
      advances = g.advances;
      later = g.later;
      charge = g.charge;
      credit = g.credit;
      halves = g.halves;
    })

pub elected-same : (a : Account) (option : ℕ) → SameUser a (account_elected option a)
unfolding account_elected
elected-same a option = record { number = refl; details = refl; open_year = le_refl a.open_year }

-- an advance sets the bit of its run, which is due and not made before
module _ (a : Account) (run paid : ℕ) (r : Run run) (below : a.runs < 8) (unmade : run_made a run ≡ false) where
  made_after : {other : ℕ} → Run other → run_made (joined run paid a) other ≡ cond (eqb run other) true (run_made a other)
  made_after s = bit-joins r s a.runs below unmade

  due-after : (other : ℕ) → Run other → due (halves_of a run) ≡ true → due_if_made a other ≡ true → due_if_made (joined run paid a) other ≡ true
  unfolding due_if_made halves_of
  due-after other s d h = by_value (eqb run other) refl
    where
      by_value : (t : Bool) → eqb run other ≡ t → (not (run_made (joined run paid a) other) || due (halves_of a other)) ≡ true
      by_value true e = or-second (not (run_made (joined run paid a) other)) (subst (λ n. due (halves_of a n) ≡ true) (eqb-true run other e) d)
      by_value false e = rw (made_after s, e) h

  halves-after : (other : ℕ) → Run other → halves_made (joined run paid a) other ≡ cond (eqb run other) (halves_count (halves_of a other)) (halves_made a other)
  unfolding halves_made halves_of
  halves-after other s = by_value (eqb run other) refl
    where
      by_value : (t : Bool) → eqb run other ≡ t
          → cond (run_made (joined run paid a) other) (halves_count (halves_of (joined run paid a) other)) 0
          ≡ cond (eqb run other) (halves_count (halves_of a other)) (halves_made a other)
      by_value true e = rw (made_after s, e)
      by_value false e = rw (made_after s, e)

  unmade-pays : halves_made a run ≡ 0
  unfolding halves_made
  unmade-pays = rw unmade

-- the halves that the runs made pay
abbrev halves_in_all : Account → ℕ
halves_in_all a = halves_made a june + halves_made a october + halves_made a january

halves-joined : {run : ℕ} (a : Account) (paid : ℕ) → Run run → a.runs < 8 → run_made a run ≡ false
    → halves_in_all (joined run paid a) ≡ halves_in_all a + halves_count (halves_of a run)
halves-joined a paid June l u =
    let same = halves-after a june paid June l u in
    omega (arith, same june June, same october October, same january January, unmade-pays a june paid June l u)
halves-joined a paid October l u =
    let same = halves-after a october paid October l u in
    omega (arith, same june June, same october October, same january January, unmade-pays a october paid October l u)
halves-joined a paid January l u =
    let same = halves-after a january paid January l u in
    omega (arith, same june June, same october October, same january January, unmade-pays a january paid January l u)

module _ (a : Account) (run paid : ℕ) (h : account_fits a ≡ true) (is : is_run run ≡ true) (unmade : run_made a run ≡ false)
    (d : due (halves_of a run) ≡ true) (most : paid ≤ max_half_ticks * halves_count (halves_of a run)) where
  runs-advanced : runs_fit (joined run paid a) ≡ true
  unfolding runs_fit
  runs-advanced =
      let made = (account-good a h).runs in
      let below = (account-within a h).runs in
      let r = is-run run is in
      let after = due-after a run paid r below unmade in
      and_both (lt-ltb (a.runs + run) 8 (bits_below r a.runs below unmade))
      (and_both (and_both (after june June d (search conjuncts)) (after october October d (search conjuncts))) (after january January d (search conjuncts)))

  advances-advanced : advances_fit (joined run paid a) ≡ true
  unfolding advances_fit
  advances-advanced =
      let w = account-within a h in
      let before = leb-true a.advances.0 (max_half_ticks * halves_in_all a) (account-good a h).advances in
      le-leb (a.advances.0 + paid) (max_half_ticks * halves_in_all (joined run paid a))
      (omega (arith, before, most, halves-joined a paid (is-run run is) w.runs unmade))

  joined-fits : account_fits (joined run paid a) ≡ true
  unfolding open_year_fits later_fits later_half charge_fits credit_fits halves_fit
  joined-fits =
      let g = account-good a h in
      account-fits (joined run paid a)
      (record {
        number = g.number;
        details = g.details;
        open_year = g.open_year;
        runs = runs-advanced;
        advances = advances-advanced;
        later = g.later;
        charge = g.charge;
        credit = g.credit;
        halves = g.halves;
      })

-- a run of the later year is June's or October's, and pays one half
module _ (a : Account) (run paid : ℕ) (h : account_fits a ≡ true) (is : is_run run ≡ true) (unmade : is_made a.later_runs run ≡ false)
    (d : due (halves (eqb run june) (eqb run october)) ≡ true) (most : paid ≤ max_half_ticks * halves_count (halves (eqb run june) (eqb run october))) where
  later-advanced : later_fits (joined_later run paid a) ≡ true
  unfolding later_fits later_half is_made due halves_count
  later-advanced = by-run (is-run run is) d unmade most
    where
      w : AccountWithin a
      w = account-within a h

      below : a.later_runs < 8
      below = omega (arith, w.later_runs)

      before : a.later_advances.0 ≤ max_half_ticks * (later_half a june + later_half a october)
      before =
          leb-true a.later_advances.0 (max_half_ticks * (later_half a june + later_half a october))
          (and_right (leb a.later_runs 3) (leb a.later_advances.0 (max_half_ticks * (later_half a june + later_half a october))) (account-good a h).later)

      by-run : {r : ℕ} → Run r → due (halves (eqb r june) (eqb r october)) ≡ true → is_made a.later_runs r ≡ false
          → paid ≤ max_half_ticks * halves_count (halves (eqb r june) (eqb r october)) → later_fits (joined_later r paid a) ≡ true
      by-run June pays u l =
          let out = eqb-false (a.later_runs / june % 2) 1 u in
          let set = bit-joins June June a.later_runs below u in
          let stays = bit-joins June October a.later_runs below u in
          let unpaid = rw u at before in
          and_both (le-leb (a.later_runs + june) 3 (omega (arith, w.later_runs)))
          (rw (set, stays) (le-leb (a.later_advances.0 + paid) (max_half_ticks * (1 + cond (is_made a.later_runs october) 1 0)) (omega arith)))
      by-run October pays u l =
          let out = eqb-false (a.later_runs / october % 2) 1 u in
          let stays = bit-joins October June a.later_runs below u in
          let set = bit-joins October October a.later_runs below u in
          let unpaid = rw u at before in
          and_both (le-leb (a.later_runs + october) 3 (omega (arith, w.later_runs)))
          (rw (stays, set) (le-leb (a.later_advances.0 + paid) (max_half_ticks * (cond (is_made a.later_runs june) 1 0 + 1)) (omega arith)))
      by-run January pays u l = absurd (true≢false (sym pays))

  later-fits : account_fits (joined_later run paid a) ≡ true
  unfolding open_year_fits runs_fit due_if_made halves_of advances_fit halves_made charge_fits credit_fits halves_fit
  later-fits =
      let g = account-good a h in
      account-fits (joined_later run paid a)
      (record {
        number = g.number;
        details = g.details;
        open_year = g.open_year;
        runs = g.runs;
        advances = g.advances;
        later = later-advanced;
        charge = g.charge;
        credit = g.credit;
        halves = g.halves;
      })

-- either way the account fits
pub advanced-fits : (a : Account) (year run paid : ℕ) → account_fits a ≡ true → (year ≡ a.open_year) ⊎ (year ≡ a.open_year + 1) → is_run run ≡ true
    → is_made (runs_in year a) run ≡ false → due (halves_paid a.details.year a.details.month year run) ≡ true
    → paid ≤ max_half_ticks * halves_count (halves_paid a.details.year a.details.month year run) → account_fits (account_advanced year run paid a) ≡ true
unfolding halves_of
advanced-fits a year run paid h (inl same) is unmade d most =
    subst (λ x. account_fits x ≡ true) (advanced-open year a same run paid)
    (joined-fits a run paid h is (rw (runs-open year a same) at unmade) (rw same at d) (rw same at most))
advanced-fits a year run paid h (inr later) is unmade d most =
    let other : year ≡ a.open_year → ⊥ = λ e. omega arith in
    let first : year ≡ a.details.year → ⊥ = λ e. omega (arith, (account-within a h).from) in
    let pays = other-year a.details.year a.details.month year run first in
    subst (λ x. account_fits x ≡ true) (advanced-later year a other run paid)
    (later-fits a run paid h is (rw (runs-later year a other) at unmade) (rw pays at d) (rw pays at most))

pub advanced-same : (a : Account) (year run paid : ℕ) → SameUser a (account_advanced year run paid a)
unfolding account_advanced
advanced-same a year run paid = record { number = refl; details = refl; open_year = le_refl a.open_year }

-- a closing takes the year on, and the next starts with what was paid for it as the later year
module _ (a : Account) (v : YearValues) (h : account_fits a ≡ true) (last : a.open_year ≤ last_activation) (values : ValuesFit v) where
  credit-closed : credit_fits (account_closed v a) ≡ true
  unfolding credit_fits account_closed
  credit-closed =
      let w = account-within a h in
      let years : a.open_year + 1 - a.details.year ≡ a.open_year - a.details.year + 1 = omega (arith, w.from) in
      le-leb (credit_after a.option a.credit.0 v.value.0 v.cost.0) (max_year_ticks * (a.open_year + 1 - a.details.year))
      (rw years (credit-capped a.option a.credit.0 v.value.0 v.cost.0 (a.open_year - a.details.year) w.credit values.value))

  -- the year that was charged is a closed one
  charge-closed : charge_fits (account_closed v a) ≡ true
  unfolding charge_fits account_closed
  charge-closed =
      let w = account-within a h in
      le-leb a.charge.rest.0 (max_charge * (a.open_year + 1 - a.details.year + 0)) (omega (arith, w.rest, w.charged, w.from))

  pays-then : (run : ℕ) → halves_paid a.details.year a.details.month (a.open_year + 1) run ≡ halves (eqb run june) (eqb run october)
  pays-then run = other-year a.details.year a.details.month (a.open_year + 1) run (λ e. omega (arith, (account-within a h).from))

  -- no bit of January is among 0 to 3
  no-january : is_made a.later_runs january ≡ false
  unfolding is_made
  no-january = ne_eqb (a.later_runs / january % 2) 1 (λ e. let l = (account-within a h).later_runs in omega arith)

  runs_closed : runs_fit (account_closed v a) ≡ true
  unfolding runs_fit due_if_made halves_of account_closed due
  runs_closed =
      and_both (lt-ltb a.later_runs 8 (omega (arith, (account-within a h).later_runs)))
      (rw (pays-then june, pays-then october, pays-then january, no-january)
      (and_both (and_both (or-second (not (is_made a.later_runs june)) refl) (or-second (not (is_made a.later_runs october)) refl)) refl))

  advances-closed : advances_fit (account_closed v a) ≡ true
  unfolding advances_fit halves_made halves_of account_closed halves_count later_fits later_half
  advances-closed = rw (pays-then june, pays-then october, pays-then january, no-january, add-zero) later-paid
    where
      later-paid : leb a.later_advances.0 (max_half_ticks * (cond (is_made a.later_runs june) 1 0 + cond (is_made a.later_runs october) 1 0)) ≡ true
      later-paid =
          and_right (leb a.later_runs 3) (leb a.later_advances.0 (max_half_ticks * (cond (is_made a.later_runs june) 1 0 + cond (is_made a.later_runs october) 1 0)))
          (account-good a h).later

  pub closed-fits : account_fits (account_closed v a) ≡ true
  unfolding account_closed open_year_fits halves_fit
  closed-fits =
      let g = account-good a h in
      let w = account-within a h in
      account-fits (account_closed v a)
      (record {
        number = g.number;
        details = g.details;
        open_year = and_both (le-leb a.details.year (a.open_year + 1) (omega (arith, w.from))) (le-leb (a.open_year + 1) last_open_year (omega arith));
        runs = runs_closed;
        advances = advances-closed;
        later = no-later (account_closed v a) refl refl;
        charge = charge-closed;
        credit = credit-closed;
        halves = and_both (le-leb v.half1.0 max_half_kwh values.half1) (le-leb v.half2.0 max_half_kwh values.half2);
      })

-- the charge of the open year, which has none
charge_of-capped : (power : ℕ) → charge_of power ≤ max_charge
unfolding charge_of
charge_of-capped power = cond-capped (leb power 3000) (omega arith) (cond-capped (leb power 20000) (omega arith) (omega arith))

pub charged-fits : (a : Account) → account_fits a ≡ true → a.charge.made ≡ 0 → account_fits (account_charged a) ≡ true
unfolding account_charged open_year_fits runs_fit due_if_made halves_of advances_fit halves_made later_fits later_half charge_fits credit_fits halves_fit
charged-fits a h none =
    let g = account-good a h in
    let w = account-within a h in
    account-fits (account_charged a)
    (record {
      number = g.number;
      details = g.details;
      open_year = g.open_year;
      runs = g.runs;
      advances = g.advances;
      later = g.later;
      charge =
          le-leb (a.charge.rest.0 + charge_of a.details.power) (max_charge * (a.open_year - a.details.year + 1))
          (omega (arith, w.rest, none, charge_of-capped a.details.power));
      credit = g.credit;
      halves = g.halves;
    })

pub charged-same : (a : Account) → SameUser a (account_charged a)
unfolding account_charged
charged-same a = record { number = refl; details = refl; open_year = le_refl a.open_year }

-- what is withheld leaves a smaller rest
pub withheld-fits : (a : Account) (withheld : ℕ) → account_fits a ≡ true → account_fits (account_withheld withheld a) ≡ true
unfolding account_withheld open_year_fits runs_fit due_if_made halves_of advances_fit halves_made later_fits later_half charge_fits credit_fits halves_fit
withheld-fits a withheld h =
    let g = account-good a h in
    let w = account-within a h in
    account-fits (account_withheld withheld a)
    (record {
      number = g.number;
      details = g.details;
      open_year = g.open_year;
      runs = g.runs;
      advances = g.advances;
      later = g.later;
      charge =
          and_both (le-leb a.charge.made 1 w.charged)
          (le-leb (a.charge.rest.0 - withheld) (max_charge * (a.open_year - a.details.year + a.charge.made)) (omega (arith, w.rest)));
      credit = g.credit;
      halves = g.halves;
    })

pub withheld-same : (a b : Account) (withheld : ℕ) → SameUser a b → SameUser a (account_withheld withheld b)
unfolding account_withheld
withheld-same a b withheld s = record { number = s.number; details = s.details; open_year = s.open_year }

pub closed_same : (a : Account) (v : YearValues) → SameUser a (account_closed v a)
unfolding account_closed
closed_same a v = record { number = refl; details = refl; open_year = omega arith }
