-- The settlement is as `settle` says, and the credit is the one that its outcome leaves.
use Rattle.account_steps.proofs.Settlements.{closed_of_parts}
use Rattle.account_steps.proofs.Account.closed.Goals as goal

pub returns : goal.returns
returns c = closed_of_parts _ _ _ _ c.settle-settlement.ensures c.credit.ensures
