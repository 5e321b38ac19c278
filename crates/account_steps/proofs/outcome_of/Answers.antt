-- By the option.
use Rattle.std.proofs.Common.{rules}
use Rattle.account_steps.specs.Account.{outcome_of}
use Rattle.account_steps.specs.Closing.{liquidation_of, lapsed_of, credit_after}
use Rattle.account_steps.proofs.outcome_of.Goals as goal

pub returns-then-option-eq-LIQUIDATION : goal.returns-then-option-eq-LIQUIDATION
unfolding outcome_of liquidation_of lapsed_of
returns-then-option-eq-LIQUIDATION c = search rules

pub returns-else-option-eq-LIQUIDATION : goal.returns-else-option-eq-LIQUIDATION
unfolding outcome_of credit_after
returns-else-option-eq-LIQUIDATION c = search rules
