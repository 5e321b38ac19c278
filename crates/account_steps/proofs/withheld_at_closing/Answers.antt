-- The balance before the liquidation, as the definition has it.
use Rattle.std.proofs.Common.{arith}
use Rattle.account_steps.specs.Charges.{withheld_from, withheld_at_closing}
use Rattle.account_steps.proofs.Charges.{positive_balance}
use Rattle.account_steps.proofs.withheld_at_closing.Goals as goal

pub returns : goal.returns
unfolding withheld_at_closing withheld_from
returns c = grind (arith, positive_balance)
