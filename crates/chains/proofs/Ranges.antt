-- The ranges of an entry of a sound book, as facts.
use Prim.Native.Nat.{ℕ, ◌-◌, ◌*◌, ◌≤◌}
use mathlib.Core.Path.{◌≡◌}
use mathlib.Core.Bool.{true, not, ◌&&◌}
use mathlib.Core.List.{List}
use native.Mathlib.Omega.{arith}
use lib.Dec.{leb, eqb}
use lib.IntN.{ℤ, pos, negsuc, nat_abs}
use borrow.Author.Tests.{leb-true}
use Rattle.units.specs.Limits.{max_year_ticks, max_flat_rate, max_contribution, max_power, first_activation, last_activation, last_open_year, most_years}
use Rattle.units.proofs.Bools.{and_left, and_right}
use Rattle.account_steps.specs.declared.Account.{Account}
use Rattle.book_layout.specs.Fields.{record_at}
use Rattle.account_steps.specs.declared.ClosingSums.{ClosingSums}
use Rattle.book_records.specs.declared.ClosingRecord.{ClosingRecord}
use Rattle.book_records.specs.Records.{advance_in, closing_in}
use Rattle.book_rules.specs.Book.{within, is_user, is_advance, is_closing, owner_of, account_at, account_fits, details_fit, open_year_fits, payments_fit, credit_fits, halves_fit, year_fits}
use Rattle.book_rules.specs.Book.{level_from, booked_fits}
use Rattle.book_rules.specs.Book.{is_run, advance_fits, balance_fits, withheld_fits, closing_fits}
use Rattle.book_rules.proofs.Faultless.{Faultless}
use Rattle.book_rules.proofs.Faultless as book
use Rattle.book_rules.proofs.RecordKinds.{advance-entry, closing-entry}
use Rattle.chains.proofs.Links.{entry-owner}

pub record YearsFit (a : Account) : Type 0 where
  pub activation : first_activation ≤ a.details.year
  pub ordered : a.details.year ≤ a.open_year
  pub latest : a.open_year ≤ last_open_year

pub record ClosingRanges (c : ClosingSums) : Type 0 where
  pub value : c.value.0 ≤ max_year_ticks
  pub cost : c.cost.0 ≤ max_year_ticks
  pub flat_rate : c.flat_rate.0 ≤ max_flat_rate
  pub contribution : c.contribution.0 ≤ max_contribution
  pub liquidation : c.liquidation.0 ≤ max_year_ticks
  pub lapsed : c.lapsed.0 ≤ max_year_ticks * most_years
  pub balance : nat_abs c.balance.0 ≤ max_contribution

within-true : (low high n : ℕ) → within low high n ≡ true → (low ≤ n) × (n ≤ high)
within-true low high n h = (leb-true low n (and_left (leb low n) (leb n high) h), leb-true n high (and_right (leb low n) (leb n high) h))

details-year : (a : Account) → details_fit a.details a.option ≡ true → first_activation ≤ a.details.year
unfolding details_fit
details-year a h =
    let d = a.details in
    let near = (within 1 11 d.class && within 1 17 d.plant) && within 1 max_power d.power in
    let dates = within first_activation last_activation d.year && within 1 12 d.month in
    let flags = leb a.option 1 && leb d.island 1 in
    let year = and_left (within first_activation last_activation d.year) (within 1 12 d.month) (and_left dates flags (and_right near (dates && flags) h)) in
    (within-true first_activation last_activation d.year year).0

years-fit : (a : Account) → account_fits a ≡ true → YearsFit a
unfolding account_fits open_year_fits
years-fit a h =
    let named = not (eqb a.number.0 0) in
    let years = details_fit a.details a.option && open_year_fits a in
    let money = payments_fit a && (credit_fits a && halves_fit a) in
    let both = and_right named years (and_left (named && years) money h) in
    let range = within-true a.details.year last_open_year a.open_year (and_right (details_fit a.details a.option) (open_year_fits a) both) in
    record {
      activation = details-year a (and_left (details_fit a.details a.option) (open_year_fits a) both);
      ordered = range.0;
      latest = range.1;
    }

-- "Credit is at most 3.6·10^14 times the closed years"
credit-of : (a : Account) → account_fits a ≡ true → a.credit.0 ≤ max_year_ticks * most_years
unfolding account_fits credit_fits
credit-of a h =
    let own = not (eqb a.number.0 0) && (details_fit a.details a.option && open_year_fits a) in
    let sums = credit_fits a && halves_fit a in
    let runs = payments_fit a in
    let y = years-fit a h in
    let first = y.activation in
    let last = y.latest in
    let closed = leb-true a.credit.0 (max_year_ticks * (a.open_year - a.details.year)) (and_left (credit_fits a) (halves_fit a) (and_right runs sums (and_right own (runs && sums) h))) in
    omega arith

-- a balance of −3.6·10^14 to 1.08·10^15, by its size
balance-size : (z : ℤ) → balance_fits z ≡ true → nat_abs z ≤ max_contribution
unfolding balance_fits
balance-size (pos n) h = leb-true n max_contribution h
balance-size (negsuc n) h =
    let least = and_left (leb n (max_year_ticks - 1)) true h in
    let l = leb-true n (max_year_ticks - 1) least in
    omega arith

closing-ranges-of : (owner : Account) (c : ClosingRecord) → YearsFit owner → closing_fits owner c ≡ true → ClosingRanges c.sums
unfolding closing_fits year_fits
closing-ranges-of owner c y h =
    let year = year_fits owner c.year in
    let option = leb c.option 1 in
    let value = leb c.sums.value.0 max_year_ticks in
    let cost = leb c.sums.cost.0 max_year_ticks in
    let flat = leb c.sums.flat_rate.0 max_flat_rate in
    let due = leb c.sums.contribution.0 max_contribution in
    let paid = leb c.sums.liquidation.0 max_year_ticks in
    let lapsed = leb c.sums.lapsed.0 (max_year_ticks * (c.year - owner.details.year)) in
    let near = (value && cost) && (flat && due) in
    let money = balance_fits c.sums.balance.0 && withheld_fits c in
    let far = (paid && lapsed) && money in
    let sums : (near && far) ≡ true = and_right (year && option) (near && far) h in
    let n : near ≡ true = and_left near far sums in
    let m : far ≡ true = and_right near far sums in
    let years = within-true owner.details.year owner.open_year c.year (and_left year option (and_left (year && option) (near && far) h)) in
    let lapse = leb-true c.sums.lapsed.0 (max_year_ticks * (c.year - owner.details.year)) (and_right paid lapsed (and_left (paid && lapsed) money m)) in
    let a = y.activation in
    let l = y.latest in
    record {
      value = leb-true c.sums.value.0 max_year_ticks (and_left value cost (and_left (value && cost) (flat && due) n));
      cost = leb-true c.sums.cost.0 max_year_ticks (and_right value cost (and_left (value && cost) (flat && due) n));
      flat_rate = leb-true c.sums.flat_rate.0 max_flat_rate (and_left flat due (and_right (value && cost) (flat && due) n));
      contribution = leb-true c.sums.contribution.0 max_contribution (and_right flat due (and_right (value && cost) (flat && due) n));
      liquidation = leb-true c.sums.liquidation.0 max_year_ticks (and_left paid lapsed (and_left (paid && lapsed) money m));
      lapsed = omega arith;
      balance = balance-size c.sums.balance.0 (and_left (balance_fits c.sums.balance.0) (withheld_fits c) (and_right (paid && lapsed) money m));
    }

module _ (b : List ℕ) (f : Faultless b) where
  pub user-years : (i : ℕ) → is_user b i ≡ true → YearsFit (account_at b i)
  user-years i u = years-fit (account_at b i) (f.user i u).fits

  pub credit-range : (i : ℕ) → is_user b i ≡ true → (account_at b i).credit.0 ≤ max_year_ticks * most_years
  credit-range i u = credit-of (account_at b i) (f.user i u).fits

  pub closing-ranges : (e : ℕ) → is_closing b e ≡ true → ClosingRanges (closing_in (record_at b e)).sums
  closing-ranges e c =
      closing-ranges-of (account_at b (owner_of b e)) (closing_in (record_at b e)) (user-years (owner_of b e) (entry-owner b f e (closing-entry b e c)).0)
      (book.closing-ranges b e (f.entry e (closing-entry b e c)).own c)

  pub advance-range : (e : ℕ) → is_advance b e ≡ true → (advance_in (record_at b e)).ticks.0 ≤ max_year_ticks
  unfolding advance_fits
  advance-range e a =
      let owner = account_at b (owner_of b e) in
      let r = advance_in (record_at b e) in
      let amount = leb r.ticks.0 max_year_ticks in
      let held = leb r.withheld.0 r.ticks.0 in
      let dated = year_fits owner (level_from r.year r.booked) && booked_fits r.year r.booked in
      leb-true r.ticks.0 max_year_ticks
      (and_right (is_run r.run) amount (and_left (is_run r.run && amount) held
      (and_right dated ((is_run r.run && amount) && held) (book.advance-ranges b e (f.entry e (advance-entry b e a)).own a))))
