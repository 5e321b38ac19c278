-- What the sums of a closing come to, and the ranges they keep, over plain numbers: each law by the two options, each
-- option by linear arithmetic.
use Rattle.std.proofs.Common.{◌≡◌, ℕ, ◌+◌, ◌-◌, ◌*◌, ◌≤◌, min, Bool, true, false, cond, arith}
use Rattle.units.specs.Limits.{max_year_ticks, max_flat_rate, max_contribution}
use Rattle.units.proofs.Bools.{cond-capped}
use Rattle.account_steps.specs.Closing.{liquidates, contribution_of, liquidation_of, lapsed_of, credit_after}

one-year-by : (liquidated : Bool) (k c o f : ℕ)
    → cond liquidated (min o c + f) (min o c + min k (o - c) + f) + cond liquidated (c - o) 0 + cond liquidated k 0
    + cond liquidated 0 (k + c - o)
    ≡ k + c + f
one-year-by true k c o f = omega arith
one-year-by false k c o f = omega arith

-- the closing law: what a year brings in, and the credit before it, go out as contribution, liquidation, lapsed credit and
-- credit after it, and the flat-rate part is on top
pub one-year : (option k c o f : ℕ)
    → contribution_of option k c o f + liquidation_of option c o + lapsed_of option k + credit_after option k c o ≡ k + c + f
unfolding contribution_of liquidation_of lapsed_of credit_after
one-year option k c o f = one-year-by (liquidates option) k c o f

contribution-at-most : (option k c o f : ℕ) → contribution_of option k c o f ≤ o + f
unfolding contribution_of
contribution-at-most option k c o f = cond-capped (liquidates option) (omega arith) (omega arith)

-- "contribution 1.08·10^15"
pub contribution-capped : (option k c o f : ℕ) → o ≤ max_year_ticks → f ≤ max_flat_rate → contribution_of option k c o f ≤ max_contribution
contribution-capped option k c o f ho hf = omega (arith, contribution-at-most option k c o f)

-- "C, O, liquidation and an advance are at most 3.6·10^14"
pub liquidation-capped : (option c o : ℕ) → c ≤ max_year_ticks → liquidation_of option c o ≤ max_year_ticks
unfolding liquidation_of
liquidation-capped option c o h = cond-capped (liquidates option) (omega arith) (omega arith)

pub lapsed-at-most : (option k : ℕ) → lapsed_of option k ≤ k
unfolding lapsed_of
lapsed-at-most option k = cond-capped (liquidates option) (omega arith) (omega arith)

credit-at-most : (option k c o : ℕ) → credit_after option k c o ≤ k + c
unfolding credit_after
credit-at-most option k c o = cond-capped (liquidates option) (omega arith) (omega arith)

-- "Credit is at most 3.6·10^14 times the closed years"
pub credit-capped : (option k c o n : ℕ) → k ≤ max_year_ticks * n → c ≤ max_year_ticks → credit_after option k c o ≤ max_year_ticks * (n + 1)
credit-capped option k c o n hk hc = omega (arith, credit-at-most option k c o)
