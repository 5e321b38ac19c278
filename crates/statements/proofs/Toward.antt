-- The sums so far and the sum over the entries that follow come to the whole: kept by each entry, room for the next one, and
-- at the end the statement.
use Rattle.std.proofs.Common.{◌≡◌, ℕ, ◌+◌, ◌*◌, ◌^◌, ◌<◌, ◌≤◌, true, ltb, List, [], ◌∷◌, ℤ, pos, negsuc, ◌+ℤ◌, nat_abs, sym, ap, ◌∙◌, arith, w64}
use lib.IntN.{+ℤ_assoc, +ℤ_idr}
use lib.Signed.{mag}
use Rattle.std.specs.Prelude.{FitsSigned}
use Rattle.units.specs.Units.{ticks}
use Rattle.units.specs.Limits.{max_contribution, most_years}
use Rattle.book_layout.specs.Fields.{record_at}
use Rattle.book_records.specs.declared.AdvanceRecord.{AdvanceRecord}
use Rattle.account_steps.specs.declared.ClosingSums.{ClosingSums}
use Rattle.book_records.specs.Records.{advance_in, closing_in}
use Rattle.book_rules.specs.Book.{is_advance, is_closing}
use Rattle.ledger.specs.Ledger.{Statement}
use Rattle.chains.specs.Statements.{closing_part, advance_part, balance_part, sum_over, sum_over_ℤ}
use Rattle.chains.proofs.Sums.{size-before, size-of-sum}
use Rattle.chains.proofs.Fit.{SumsFit}
use Rattle.statements.proofs.Joins.{closing-joins, closing-passes, balance-part, advance-joins, advance-passes, advance-keeps-balance}
use Rattle.statements.specs.declared.Sums.{Sums}
use Rattle.statements.specs.InnerWalk.{sums_of, closing_added, advance_added, ClosingRoom, AdvanceRoom}

pub record Toward (b : List ℕ) (whole : Statement) (es : List ℕ) (s : Sums) : Type 0 where
  pub open_year : s.open_year ≡ whole.open_year
  pub credit : s.credit.0 ≡ whole.credit
  pub value : s.value.0 + sum_over (closing_part (λ c. c.value.0) b) es ≡ whole.value
  pub cost : s.cost.0 + sum_over (closing_part (λ c. c.cost.0) b) es ≡ whole.cost
  pub flat_rate : s.flat_rate.0 + sum_over (closing_part (λ c. c.flat_rate.0) b) es ≡ whole.flat_rate
  pub contribution : s.contribution.0 + sum_over (closing_part (λ c. c.contribution.0) b) es ≡ whole.contribution
  pub liquidation : s.liquidation.0 + sum_over (closing_part (λ c. c.liquidation.0) b) es ≡ whole.liquidation
  pub lapsed : s.lapsed.0 + sum_over (closing_part (λ c. c.lapsed.0) b) es ≡ whole.lapsed
  pub balance : s.balance.0 +ℤ sum_over_ℤ (balance_part b) es ≡ whole.balance
  pub sizes : sum_over (λ e. nat_abs (balance_part b e)) es ≤ max_contribution * most_years
  pub advances : s.advances.0 + sum_over (advance_part (λ y. true) b) es ≡ whole.advances
  pub closed_advances : s.closed_advances.0 + sum_over (advance_part (λ y. ltb y whole.open_year) b) es ≡ whole.closed_advances

-- THE NEXT ENTRY
mag-size : (z : ℤ) → mag z ≤ nat_abs z
mag-size (pos n) = omega arith
mag-size (negsuc n) = omega arith

fewer-sizes : (f : ℕ → ℕ) (e : ℕ) (es : List ℕ) (cap : ℕ) → sum_over f (e ∷ es) ≤ cap → sum_over f es ≤ cap
unfolding sum_over
fewer-sizes f e es cap h = omega arith

module _ (b : List ℕ) (whole : Statement) (e : ℕ) (es : List ℕ) (s : Sums) (fit : SumsFit whole) (t : Toward b whole (e ∷ es) s) where
  sizes-left : sum_over (λ k. nat_abs (balance_part b k)) es ≤ max_contribution * most_years
  sizes-left = fewer-sizes (λ k. nat_abs (balance_part b k)) e es (max_contribution * most_years) t.sizes

  module _ (closing : is_closing b e ≡ true) where
    abbrev c : ClosingSums
    c = (closing_in (record_at b e)).sums

    abbrev sum : ℤ
    sum = s.balance.0 +ℤ c.balance.0

    balance-left : s.balance.0 +ℤ (c.balance.0 +ℤ sum_over_ℤ (balance_part b) es) ≡ whole.balance
    unfolding sum_over_ℤ
    balance-left = ap (λ z. s.balance.0 +ℤ (z +ℤ sum_over_ℤ (balance_part b) es)) (sym (balance-part b e es closing)) ∙ t.balance

    balance-room : FitsSigned w64 sum
    balance-room =
        let rest = sum_over_ℤ (balance_part b) es in
        let small : mag sum < 2 ^ 63 = omega (arith, mag-size sum, size-before (s.balance.0) (c.balance.0) rest whole.balance balance-left, size-of-sum (balance_part b) es, sizes-left, fit.balance) in
        record { sfits = small }

    room : (g : ClosingSums → ℕ) (x w : ℕ) → w < 2 ^ 63 → x + sum_over (closing_part g b) (e ∷ es) ≡ w → x + g c < 2 ^ 64
    room g x w l h = omega (arith, closing-joins b e es closing g x w h)

    pub closing-room : ClosingRoom c s
    closing-room =
        record {
          value = room (λ r. r.value.0) s.value.0 whole.value fit.value t.value;
          cost = room (λ r. r.cost.0) s.cost.0 whole.cost fit.cost t.cost;
          flat_rate = room (λ r. r.flat_rate.0) s.flat_rate.0 whole.flat_rate fit.flat_rate t.flat_rate;
          contribution = room (λ r. r.contribution.0) s.contribution.0 whole.contribution fit.contribution t.contribution;
          liquidation = room (λ r. r.liquidation.0) s.liquidation.0 whole.liquidation fit.liquidation t.liquidation;
          lapsed = room (λ r. r.lapsed.0) s.lapsed.0 whole.lapsed fit.lapsed t.lapsed;
          balance = balance-room;
        }

    pub after-closing : Toward b whole es (closing_added c s)
    unfolding closing_added
    after-closing =
        record {
          open_year = t.open_year;
          credit = t.credit;
          value = closing-joins b e es closing (λ r. r.value.0) s.value.0 whole.value t.value;
          cost = closing-joins b e es closing (λ r. r.cost.0) s.cost.0 whole.cost t.cost;
          flat_rate = closing-joins b e es closing (λ r. r.flat_rate.0) s.flat_rate.0 whole.flat_rate t.flat_rate;
          contribution = closing-joins b e es closing (λ r. r.contribution.0) s.contribution.0 whole.contribution t.contribution;
          liquidation = closing-joins b e es closing (λ r. r.liquidation.0) s.liquidation.0 whole.liquidation t.liquidation;
          lapsed = closing-joins b e es closing (λ r. r.lapsed.0) s.lapsed.0 whole.lapsed t.lapsed;
          balance =
              +ℤ_assoc (s.balance.0) (c.balance.0) (sum_over_ℤ (balance_part b) es)
              ∙ balance-left;
          sizes = sizes-left;
          advances = closing-passes b e es closing (λ y. true) s.advances.0 whole.advances t.advances;
          closed_advances = closing-passes b e es closing (λ y. ltb y whole.open_year) s.closed_advances.0 whole.closed_advances t.closed_advances;
        }

  module _ (advance : is_advance b e ≡ true) where
    abbrev a : AdvanceRecord
    a = advance_in (record_at b e)

    pub advance-room : AdvanceRoom a s
    advance-room =
        let joins = advance-joins b e es advance (λ y. true) s.advances.0 whole.advances t.advances in
        let all = fit.advances in
        let closed = fit.closed_advances in
        let before = t.closed_advances in
        record { advances = omega arith; closed_advances = omega arith }

    pub after-advance : Toward b whole es (advance_added a s)
    unfolding advance_added
    after-advance =
        record {
          open_year = t.open_year;
          credit = t.credit;
          value = advance-passes b e es advance (λ r. r.value.0) s.value.0 whole.value t.value;
          cost = advance-passes b e es advance (λ r. r.cost.0) s.cost.0 whole.cost t.cost;
          flat_rate = advance-passes b e es advance (λ r. r.flat_rate.0) s.flat_rate.0 whole.flat_rate t.flat_rate;
          contribution = advance-passes b e es advance (λ r. r.contribution.0) s.contribution.0 whole.contribution t.contribution;
          liquidation = advance-passes b e es advance (λ r. r.liquidation.0) s.liquidation.0 whole.liquidation t.liquidation;
          lapsed = advance-passes b e es advance (λ r. r.lapsed.0) s.lapsed.0 whole.lapsed t.lapsed;
          balance = advance-keeps-balance b e es advance (s.balance.0) whole.balance t.balance;
          sizes = sizes-left;
          advances = advance-joins b e es advance (λ y. true) s.advances.0 whole.advances t.advances;
          closed_advances = rw t.open_year (advance-joins b e es advance (λ y. ltb y whole.open_year) s.closed_advances.0 whole.closed_advances t.closed_advances);
        }

-- THE END
pub arrived : (b : List ℕ) (whole : Statement) (s : Sums) → Toward b whole [] s → s ≡ sums_of whole
unfolding sums_of sum_over sum_over_ℤ
arrived b whole s t =
    let none : (x w : ℕ) → x + 0 ≡ w → x ≡ w = λ x w h. omega arith in
    let balance : s.balance.0 ≡ whole.balance = sym (+ℤ_idr s.balance.0) ∙ t.balance in
    λ i.
    record {
      open_year = t.open_year i;
      credit = ticks (t.credit i);
      value = ticks (none s.value.0 whole.value t.value i);
      cost = ticks (none s.cost.0 whole.cost t.cost i);
      flat_rate = ticks (none s.flat_rate.0 whole.flat_rate t.flat_rate i);
      contribution = ticks (none s.contribution.0 whole.contribution t.contribution i);
      liquidation = ticks (none s.liquidation.0 whole.liquidation t.liquidation i);
      lapsed = ticks (none s.lapsed.0 whole.lapsed t.lapsed i);
      balance = record { 0 = balance i };
      advances = ticks (none s.advances.0 whole.advances t.advances i);
      closed_advances = ticks (none s.closed_advances.0 whole.closed_advances t.closed_advances i);
    }
