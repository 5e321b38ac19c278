-- An outcome holds document 01's liquidation, lapsed credit and credit: by the two options.
use Rattle.std.proofs.Common.{◌≡◌, ℕ, ◌+◌, ◌-◌, Bool, true, false, cond, refl}
use Rattle.units.specs.Units.{ticks}
use Rattle.account_steps.specs.declared.Outcome.{Outcome}
use Rattle.account_steps.specs.declared.Outcome.TheVariants.{Carried, Liquidated}
use Rattle.account_steps.specs.Closing.{liquidates, liquidation_of, lapsed_of, credit_after}
use Rattle.account_steps.specs.Account.{outcome_of, liquidation_in, lapsed_in, credit_in}

abbrev outcome_by : Bool → ℕ → ℕ → ℕ → Outcome
outcome_by liquidated k c o =
    cond liquidated (Liquidated (ticks (cond liquidated (c - o) 0)) (ticks (cond liquidated k 0)))
    (Carried (ticks (cond liquidated 0 (k + c - o))))

liquidation-by : (liquidated : Bool) (k c o : ℕ) → liquidation_in (outcome_by liquidated k c o) ≡ cond liquidated (c - o) 0
unfolding liquidation_in
liquidation-by true k c o = refl
liquidation-by false k c o = refl

pub outcome-liquidation : (option k c o : ℕ) → liquidation_in (outcome_of option k c o) ≡ liquidation_of option c o
unfolding outcome_of liquidation_of lapsed_of credit_after
outcome-liquidation option k c o = liquidation-by (liquidates option) k c o

lapsed-by : (liquidated : Bool) (k c o : ℕ) → lapsed_in (outcome_by liquidated k c o) ≡ cond liquidated k 0
unfolding lapsed_in
lapsed-by true k c o = refl
lapsed-by false k c o = refl

pub outcome-lapsed : (option k c o : ℕ) → lapsed_in (outcome_of option k c o) ≡ lapsed_of option k
unfolding outcome_of liquidation_of lapsed_of credit_after
outcome-lapsed option k c o = lapsed-by (liquidates option) k c o

credit-by : (liquidated : Bool) (k c o : ℕ) → credit_in (outcome_by liquidated k c o) ≡ cond liquidated 0 (k + c - o)
unfolding credit_in
credit-by true k c o = refl
credit-by false k c o = refl

pub outcome-credit : (option k c o : ℕ) → credit_in (outcome_of option k c o) ≡ credit_after option k c o
unfolding outcome_of liquidation_of lapsed_of credit_after
outcome-credit option k c o = credit-by (liquidates option) k c o
