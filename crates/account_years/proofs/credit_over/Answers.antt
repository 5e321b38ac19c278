-- The credit of the closing's outcome.
use Rattle.std.proofs.Common.{ap, ◌∙◌}
use Rattle.account_steps.specs.Account.{credit_in}
use Rattle.account_years.proofs.Years.{credited}
use Rattle.account_years.proofs.credit_over.Goals as goal

pub returns : goal.returns
returns c = credited c.args.closing c.args.credit.0 c.requires.0.0 c.credit.result.0 (c.credit.ensures ∙ ap credit_in c.outcome_of.ensures)
