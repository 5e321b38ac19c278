-- "Statement: open year, credit, and the sums over the chain of C, O, F, contribution, liquidation, lapsed, balance, all
-- advances, advances of closed years." (document 01, "Election and advances")
use Rattle.std.specs.Prelude.{ℕ, ◌+◌, Bool, true, cond, ◌&&◌, List, [], ◌∷◌, ltb, ℤ, pos, ◌+ℤ◌}
use Rattle.book_layout.specs.Fields.{record_at}
use Rattle.account_steps.specs.declared.ClosingSums.{ClosingSums}
use Rattle.book_records.specs.Records.{advance_in, closing_in}
use Rattle.book_rules.specs.Book.{is_advance, is_closing, account_at}
use Rattle.ledger.specs.Ledger.{Statement}
use Rattle.book_rules.specs.Chains.{entries_of}

-- what an entry adds to a sum over the closings, and to a sum over the advances whose year passes a test
unfoldable pub closing_part : (ClosingSums → ℕ) → List ℕ → ℕ → ℕ
closing_part f b e = cond (is_closing b e) (f (closing_in (record_at b e)).sums) 0

unfoldable pub advance_part : (ℕ → Bool) → List ℕ → ℕ → ℕ
advance_part p b e = cond (is_advance b e && p (advance_in (record_at b e)).year) (advance_in (record_at b e)).ticks.0 0

-- a balance is signed
unfoldable pub balance_part : List ℕ → ℕ → ℤ
balance_part b e = cond (is_closing b e) (closing_in (record_at b e)).sums.balance.0 (pos 0)

-- sums over the entries of a chain
unfoldable pub sum_over : (ℕ → ℕ) → List ℕ → ℕ
sum_over f [] = 0
sum_over f (e ∷ es) = f e + sum_over f es

unfoldable pub sum_over_ℤ : (ℕ → ℤ) → List ℕ → ℤ
sum_over_ℤ f [] = pos 0
sum_over_ℤ f (e ∷ es) = f e +ℤ sum_over_ℤ f es

-- the statement of the user at an index
unfoldable pub statement_at : List ℕ → ℕ → Statement
statement_at b i =
    record {
      open_year = (account_at b i).open_year;
      credit = (account_at b i).credit.0;
      value = sum_over (closing_part (λ c. c.value.0) b) (entries_of b i);
      cost = sum_over (closing_part (λ c. c.cost.0) b) (entries_of b i);
      flat_rate = sum_over (closing_part (λ c. c.flat_rate.0) b) (entries_of b i);
      contribution = sum_over (closing_part (λ c. c.contribution.0) b) (entries_of b i);
      liquidation = sum_over (closing_part (λ c. c.liquidation.0) b) (entries_of b i);
      lapsed = sum_over (closing_part (λ c. c.lapsed.0) b) (entries_of b i);
      balance = sum_over_ℤ (balance_part b) (entries_of b i);
      advances = sum_over (advance_part (λ y. true) b) (entries_of b i);
      closed_advances = sum_over (advance_part (λ y. ltb y (account_at b i).open_year) b) (entries_of b i);
    }
