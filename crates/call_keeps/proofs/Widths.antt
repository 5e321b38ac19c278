-- What fits its ranges fits its bytes: the widths of a user, an advance and a closing that a booking writes.
use Prim.Native.Nat.{ℕ, ◌+◌, ◌-◌, ◌*◌, ◌^◌, ◌≤◌, ◌<◌}
use mathlib.Core.Path.{◌≡◌, refl}
use mathlib.Core.Bool.{Bool, true, false, cond}
use native.Mathlib.Omega.{arith}
use borrow.Author.Tests.{leb-true, ltb-true, eqb-true}
use lib.Dec.{leb, eqb}
use lib.IntN.{ℤ, pos, negsuc}
use Rattle.std.specs.Int.{w64}
use Rattle.std.specs.Prelude.{FitsSigned}
use Rattle.units.proofs.Bools.{and_right, cond-capped}
use Rattle.units.specs.Units.{record_index}
use Rattle.units.specs.Limits.{max_year_ticks, max_flat_rate, max_contribution, max_half_ticks, max_half_kwh, max_charge, last_open_year}
use Rattle.account_steps.specs.declared.Account.{Account}
use Rattle.book_records.specs.declared.AdvanceRecord.{AdvanceRecord}
use Rattle.book_records.specs.declared.ClosingRecord.{ClosingRecord}
use Rattle.book_records.proofs.Users.{UserFits}
use Rattle.book_records.proofs.Advances.{AdvanceFits}
use Rattle.book_records.proofs.Closings.{ClosingFits}
use Rattle.calendar.specs.ElectionAndAdvances.{june, october, january}
use Rattle.book_rules.specs.Book.{open_year_fits, runs_fit, advances_fit, later_half, later_fits, charge_fits, is_made, credit_fits, halves_fit, account_fits, halves_made, year_fits, is_run}
use Rattle.book_rules.specs.Book.{level_from, booked_fits}
use Rattle.book_rules.specs.Book.{advance_fits, paid_balance, withheld_fits, closing_fits}
use Rattle.call_keeps.proofs.Ranges.{conjuncts, account-good, DetailsWithin, details-within}
use Rattle.call_keeps.proofs.Runs.{made-two-halves, is-run, Run, June, October, January}

-- the numbers of an account that fits
pub record AccountWithin (a : Account) : Type 0 where
  pub details : DetailsWithin a.details a.option
  pub from : a.details.year ≤ a.open_year
  pub to : a.open_year ≤ last_open_year
  pub runs : a.runs < 8
  pub advances : a.advances.0 ≤ max_year_ticks
  pub later_runs : a.later_runs ≤ 3
  pub later_advances : a.later_advances.0 ≤ max_year_ticks
  pub credit : a.credit.0 ≤ max_year_ticks * (a.open_year - a.details.year)
  pub half1 : a.half1.0 ≤ max_half_kwh
  pub half2 : a.half2.0 ≤ max_half_kwh
  pub charged : a.charge.made ≤ 1
  pub rest : a.charge.rest.0 ≤ max_charge * (a.open_year - a.details.year + a.charge.made)

advances-capped : (a : Account) → advances_fit a ≡ true → a.advances.0 ≤ max_year_ticks
unfolding advances_fit
advances-capped a h =
    let capped = leb-true a.advances.0 (max_half_ticks * (halves_made a june + halves_made a october + halves_made a january)) h in
    omega (arith, made-two-halves a)

later-capped : (a : Account) → later_fits a ≡ true → a.later_advances.0 ≤ max_year_ticks
unfolding later_fits later_half
later-capped a h =
    let halves = later_half a june + later_half a october in
    let capped = leb-true a.later_advances.0 (max_half_ticks * halves) (and_right (leb a.later_runs 3) (leb a.later_advances.0 (max_half_ticks * halves)) h) in
    let first : later_half a june ≤ 1 = cond-capped (is_made a.later_runs june) (omega arith) (omega arith) in
    let second : later_half a october ≤ 1 = cond-capped (is_made a.later_runs october) (omega arith) (omega arith) in
    omega arith

pub account-within : (a : Account) → account_fits a ≡ true → AccountWithin a
unfolding open_year_fits runs_fit later_fits charge_fits credit_fits halves_fit
account-within a h =
    let g = account-good a h in
    let open-year = g.open_year in
    let runs = g.runs in
    let later = g.later in
    let charge = g.charge in
    let halves = g.halves in
    record {
      details = details-within a.details a.option g.details;
      from = search (conjuncts, leb-true);
      to = search (conjuncts, leb-true);
      runs = search (conjuncts, ltb-true);
      advances = advances-capped a g.advances;
      later_runs = search (conjuncts, leb-true);
      later_advances = later-capped a g.later;
      credit = leb-true a.credit.0 (max_year_ticks * (a.open_year - a.details.year)) g.credit;
      half1 = search (conjuncts, leb-true);
      half2 = search (conjuncts, leb-true);
      charged = search (conjuncts, leb-true);
      rest = search (conjuncts, leb-true);
    }

pub user-fits : (next first : ℕ) (a : Account) → next < 2 ^ 32 → first < 2 ^ 32 → a.number.0 < 2 ^ 32 → account_fits a ≡ true
    → UserFits (record { next = record_index next; first = record_index first; account = a })
user-fits next first a hn hf number h =
    let w = account-within a h in
    let d = w.details in
    record {
      next = hn;
      class = omega (arith, d.class);
      plant = omega (arith, d.plant);
      option = omega (arith, d.option);
      number = number;
      first = hf;
      power = omega (arith, d.power);
      year = omega (arith, d.to);
      month = omega (arith, d.month);
      island = omega (arith, d.island);
      open_year = omega (arith, w.to);
      runs = omega (arith, w.runs);
      credit = omega (arith, w.credit, w.to);
      advances = omega (arith, w.advances);
      half1 = omega (arith, w.half1);
      half2 = omega (arith, w.half2);
      later_runs = omega (arith, w.later_runs);
      later_advances = omega (arith, w.later_advances);
      charged = omega (arith, w.charged);
      rest = omega (arith, w.rest, w.charged, w.to);
    }

-- the level of an entry bounds its year and what it notes
level-bounds : (year booked last : ℕ) → level_from year booked ≤ last → booked_fits year booked ≡ true → (year ≤ last + 1) × (booked ≤ last)
unfolding level_from booked_fits
level-bounds year booked last l h = by-note (eqb booked 0) refl
  where
    by-note : (t : Bool) → eqb booked 0 ≡ t → (year ≤ last + 1) × (booked ≤ last)
    by-note true e = let none = eqb-true booked 0 e in let own : year ≤ last = rw e at l in (omega arith, omega arith)
    by-note false e =
        let noted : booked ≤ last = rw e at l in
        let next = eqb-true (booked + 1) year (rw e at h) in
        (omega arith, noted)

-- an entry of an account that fits
pub advance-widths : (owner : Account) (x : AdvanceRecord) → account_fits owner ≡ true → advance_fits owner x ≡ true → x.next.0 < 2 ^ 32 → x.owner.0 < 2 ^ 32
    → AdvanceFits x
unfolding advance_fits year_fits
advance-widths owner x account h next own =
    let w = account-within owner account in
    let run : is_run x.run ≡ true = search conjuncts in
    let level : level_from x.year x.booked ≤ owner.open_year = search (conjuncts, leb-true) in
    let noted : booked_fits x.year x.booked ≡ true = search conjuncts in
    let years = level-bounds x.year x.booked owner.open_year level noted in
    let paid : x.ticks.0 ≤ max_year_ticks = search (conjuncts, leb-true) in
    let held : x.withheld.0 ≤ x.ticks.0 = search (conjuncts, leb-true) in
    record {
      next = next;
      run = run-below (is-run x.run run);
      year = omega (arith, w.to, years.0);
      ticks = omega arith;
      owner = own;
      booked = omega (arith, w.to, years.1);
      withheld = omega arith;
    }
  where
    run-below : {run : ℕ} → Run run → run < 2 ^ 8
    run-below June = omega arith
    run-below October = omega arith
    run-below January = omega arith

pub paid-capped : (balance : ℤ) → paid_balance balance ≤ max_contribution
unfolding paid_balance
paid-capped (pos n) = by_size (leb n max_contribution) refl
  where
    by_size : (t : Bool) → leb n max_contribution ≡ t → cond t n 0 ≤ max_contribution
    by_size true e = leb-true n max_contribution e
    by_size false e = omega arith
paid-capped (negsuc n) = omega arith

held_below : (c : ClosingRecord) → withheld_fits c ≡ true → c.sums.liquidation.0 ≤ max_year_ticks → c.withheld.0 < 2 ^ 64
unfolding withheld_fits
held_below c h l =
    let balance = c.sums.balance.0 in
    let at_most = leb-true c.withheld.0 (paid_balance balance + c.sums.liquidation.0) h in
    omega (arith, paid-capped balance)

pub closing-widths : (owner : Account) (c : ClosingRecord) → account_fits owner ≡ true → closing_fits owner c ≡ true → c.next.0 < 2 ^ 32 → c.owner.0 < 2 ^ 32
    → FitsSigned w64 c.sums.balance.0 → ClosingFits c
unfolding closing_fits year_fits
closing-widths owner c account h next own balance =
    let w = account-within owner account in
    let year : c.year ≤ owner.open_year = search (conjuncts, leb-true) in
    let option : c.option ≤ 1 = search (conjuncts, leb-true) in
    let value : c.sums.value.0 ≤ max_year_ticks = search (conjuncts, leb-true) in
    let cost : c.sums.cost.0 ≤ max_year_ticks = search (conjuncts, leb-true) in
    let flat : c.sums.flat_rate.0 ≤ max_flat_rate = search (conjuncts, leb-true) in
    let contribution : c.sums.contribution.0 ≤ max_contribution = search (conjuncts, leb-true) in
    let liquidation : c.sums.liquidation.0 ≤ max_year_ticks = search (conjuncts, leb-true) in
    let lapsed : c.sums.lapsed.0 ≤ max_year_ticks * (c.year - owner.details.year) = search (conjuncts, leb-true) in
    let held : withheld_fits c ≡ true = search conjuncts in
    let last = w.to in
    record {
      next = next;
      option = omega arith;
      year = omega arith;
      value = omega arith;
      cost = omega arith;
      flat_rate = omega arith;
      contribution = omega arith;
      liquidation = omega arith;
      lapsed = omega arith;
      balance = balance;
      owner = own;
      withheld = held_below c held liquidation;
    }
