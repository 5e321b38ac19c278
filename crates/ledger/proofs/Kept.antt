-- What every accepted call keeps of a ledger: enrolment makes it so, an election, an advance of either open year and a closing of
-- the open year keep it. One year's sums join by the closing law, its balance by the advances of its year.
use Prim.Native.Nat.{ℕ, ◌+◌, ◌≤◌}
use mathlib.Core.Path.{◌≡◌, refl, ap, ap₂, ◌∙◌}
use mathlib.Core.Bool.{cond}
use native.Mathlib.Omega.{arith}
use lib.Dec.{eqb, ltb}
use lib.IntN.{pos, ◌+ℤ◌, ◌-ℤ◌, +ℤ_comm}
use Rattle.sheet_values.specs.declared.Details.{Details}
use Rattle.account_steps.specs.Closing.{liquidates, contribution_of, lapsed_of, credit_after, balance_of}
use Rattle.account_steps.proofs.Closing.{one-year}
use Rattle.account_steps.proofs.Charges.{withheld-rest, closing-rest}
use Rattle.ledger.specs.Ledger.{Ledger, year_after, open_year, sum_items, sum_balances, sum_all, sum_advances, enrolled, elected, charged, advance_amount, advanced, item_of, Figures, item_with}
use Rattle.ledger.specs.Ledger.{closed_with, statement_of}
use Rattle.ledger.specs.Accounting.{lapsed_over, conserved, Consecutive, Accounts}
use Rattle.ledger.proofs.Standing.{figure, standing-exists}
use Rattle.ledger.proofs.Years.{from-activation, NoneBefore, closed-advances-before}
use Rattle.ledger.proofs.Advances.{advances-split, advance-not-before, NoneAfter, none-after-later, none-of-later}
use Rattle.ledger.proofs.Integers.{balance-joins, regrouped}

-- the advances of the years before the open one: those of closed years
abbrev pub paid_before : Ledger → ℕ
paid_before l = sum_advances (λ y. ltb y (open_year l)) l.advances

-- the ledger l, whose closed years' sheets have the value `injected` in all
pub record Kept (injected : ℕ) (l : Ledger) : Type 0 where
  pub values : (statement_of l).value ≡ injected
  pub sums : (statement_of l).contribution + (statement_of l).liquidation + (statement_of l).lapsed + l.credit ≡ (statement_of l).value + (statement_of l).flat_rate
  pub balances : (statement_of l).balance +ℤ pos (paid_before l) ≡ pos (statement_of l).contribution
  pub credit : l.credit ≡ figure l.items
  pub lapsed : (statement_of l).lapsed ≡ lapsed_over figure l.items
  pub years : Consecutive l.details.year l.items
  pub none_later : NoneAfter (open_year l + 1) l.advances
  pub none_earlier : NoneBefore l.details.year l.advances
  pub charged : l.charges ≡ sum_all l.withheld + l.rest

pub kept-enrolled : (d : Details) (o : ℕ) → Kept 0 (enrolled d o)
unfolding enrolled statement_of sum_items sum_balances sum_advances sum_all figure lapsed_over Consecutive NoneAfter NoneBefore
kept-enrolled d o =
    record { values = refl; sums = refl; balances = refl; credit = refl; lapsed = refl; years = tt; none_later = tt; none_earlier = tt; charged = refl }

pub kept-elected : {n : ℕ} {l : Ledger} (o : ℕ) → Kept n l → Kept n (elected o l)
unfolding elected statement_of
kept-elected o k =
    record {
      values = k.values;
      sums = k.sums;
      balances = k.balances;
      credit = k.credit;
      lapsed = k.lapsed;
      years = k.years;
      none_later = k.none_later;
      none_earlier = k.none_earlier;
      charged = k.charged;
    }

-- a charge joins both sides
pub kept-charged : {n : ℕ} {l : Ledger} → Kept n l → Kept n (charged l)
unfolding charged statement_of
kept-charged {n} {l} k =
    record {
      values = k.values;
      sums = k.sums;
      balances = k.balances;
      credit = k.credit;
      lapsed = k.lapsed;
      years = k.years;
      none_later = k.none_later;
      none_earlier = k.none_earlier;
      charged = omega (arith, k.charged);
    }

-- an advance of the open year or of the one after it
pub kept-advanced : {n : ℕ} {l : Ledger} (y r p e₁ e₂ : ℕ) → open_year l ≤ y → y ≤ open_year l + 1 → Kept n l → Kept n (advanced y r p e₁ e₂ l)
unfolding advanced statement_of sum_advances sum_all NoneAfter NoneBefore
kept-advanced {n} {l} y r p e₁ e₂ from to k =
    let paid : ℕ = advance_amount y r p e₁ e₂ l in
    let before : ℕ = sum_advances (λ z. ltb z (open_year l)) l.advances in
    let same : cond (ltb y (open_year l)) paid 0 + before ≡ before = omega (arith, advance-not-before y (open_year l) paid from) in
    record {
      values = k.values;
      sums = k.sums;
      balances = ap (λ a. sum_balances l.items +ℤ pos a) same ∙ k.balances;
      credit = k.credit;
      lapsed = k.lapsed;
      years = k.years;
      none_later = (to, k.none_later);
      none_earlier = (omega (arith, from-activation l.details.year l.items k.years), k.none_earlier);
      charged = omega (arith, k.charged, withheld-rest l.rest paid);
    }

-- the sums of one year join those of the years before
sums_join : (x g p k' c f k xs gs ps cs fs : ℕ)
    → x + g + p + k' ≡ k + c + f → xs + gs + ps + k ≡ cs + fs
    → (x + xs) + (g + gs) + (p + ps) + k' ≡ (c + cs) + (f + fs)
sums_join x g p k' c f k xs gs ps cs fs year before = omega arith

-- a closing of the open year, with any figures
module _ {n : ℕ} {l : Ledger} (year : ℕ) (f : Figures) (open-year : year ≡ open_year l) (k : Kept n l) where
  abbrev after : Ledger
  after = closed_with year f l

  -- the advances of the closed years, once the year is closed
  closed-advances : paid_before after ≡ paid_before l + sum_advances (eqb (year)) l.advances
  unfolding closed_with item_of year_after
  closed-advances =
      advances-split (year) l.advances
      ∙ ap (λ y. sum_advances (λ z. ltb z y) l.advances + sum_advances (eqb (year)) l.advances) open-year

  closed-sums : (statement_of after).contribution + (statement_of after).liquidation + (statement_of after).lapsed + after.credit
      ≡ (statement_of after).value + (statement_of after).flat_rate
  unfolding statement_of closed_with item_of sum_items
  closed-sums =
      sums_join _ _ _ _ _ _ _ _ _ _ _ _
      (one-year l.option l.credit f.value f.cost f.flat_rate) k.sums

  closed-balances : (statement_of after).balance +ℤ pos (paid_before after)
      ≡ pos (statement_of after).contribution
  unfolding statement_of closed_with item_of sum_items sum_balances balance_of
  closed-balances =
      ap (λ a. (statement_of after).balance +ℤ pos a) closed-advances
      ∙ balance-joins (pos (contribution_of l.option l.credit f.value f.cost f.flat_rate))
      (pos (sum_advances (eqb (year)) l.advances)) (sum_balances l.items) (pos (paid_before l))
      (pos (sum_items (λ i. i.contribution) l.items)) k.balances

  closed-lapsed : (statement_of after).lapsed ≡ lapsed_over figure after.items
  unfolding statement_of closed_with item_of sum_items lapsed_over lapsed_of
  closed-lapsed = ap₂ ◌+◌ (ap (λ c. cond (liquidates l.option) c 0) k.credit) k.lapsed

  pub kept-closed : Kept (n + f.value) after
  unfolding closed_with item_of sum_items sum_all statement_of figure Consecutive year_after
  kept-closed =
      record {
        values = omega (arith, k.values);
        sums = closed-sums;
        balances = closed-balances;
        credit = ap (λ c. credit_after l.option c f.value f.cost) k.credit;
        lapsed = closed-lapsed;
        years = (open-year, k.years);
        none_later = none-after-later (omega arith) l.advances k.none_later;
        none_earlier = k.none_earlier;
        charged = omega (arith, k.charged, closing-rest l.rest (item_with year f l).balance (item_with year f l).liquidation);
      }

  -- the year after the one that it opens has no advance yet
  pub no-advance-yet : sum_advances (eqb (open_year after + 1)) after.advances ≡ 0
  unfolding closed_with item_of year_after
  no-advance-yet = none-of-later (omega arith) l.advances k.none_later

-- "A year with an item is closed": the advances of closed years are those of the years before the open one
pub closed-paid : {n : ℕ} {l : Ledger} → Kept n l → (statement_of l).closed_advances ≡ paid_before l
unfolding statement_of
closed-paid {n} {l} k = closed-advances-before l.details.year l.items k.years l.advances k.none_earlier

kept-conserved : {n : ℕ} {l : Ledger} → Kept n l → conserved (statement_of l) ≡ pos n
unfolding conserved statement_of
kept-conserved {n} {l} k =
    let t = statement_of l in
    ap (λ w. (((w -ℤ pos t.flat_rate) +ℤ pos t.liquidation) +ℤ pos t.lapsed) +ℤ pos t.credit)
    (ap (λ (a : ℕ). pos a +ℤ t.balance) (closed-paid k) ∙ +ℤ_comm (pos (paid_before l)) t.balance ∙ k.balances)
    ∙ regrouped t.contribution t.liquidation t.lapsed t.credit t.value t.flat_rate k.sums
    ∙ ap pos k.values

-- (a) to (d) of the third demand, of such a ledger's statement
pub accounts : {n : ℕ} {l : Ledger} → Kept n l → Accounts l n (statement_of l)
unfolding statement_of
accounts {n} {l} k =
    record {
      statement = refl;
      conserved_sum = kept-conserved k;
      standing_credit = rw k.credit (standing-exists l.items);
      years = k.years;
      figure = figure;
      figures = standing-exists;
      lapsed_credit = k.lapsed;
    }
