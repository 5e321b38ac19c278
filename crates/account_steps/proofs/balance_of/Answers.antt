-- The difference modulo 2^64, read as a signed number.
use Rattle.std.proofs.Common.{ap, ◌∙◌, rules}
use Rattle.std.specs.Int.{w64}
use Rattle.std.specs.Prelude.{FitsSigned}
use Rattle.std.proofs.lemmas.Int.{to_z-of_z}
use Rattle.account_steps.specs.Account.{balance}
use Rattle.account_steps.proofs.Balances.{wrapped-difference}
use Rattle.account_steps.proofs.balance_of.Goals as goal

pub returns : goal.returns
returns c =
    let fits : FitsSigned w64 c.cast_signed.result = search rules in
    ap balance (to_z-of_z w64 c.cast_signed.result fits ∙ c.cast_signed.ensures ∙ wrapped-difference _ _ (search rules) (search rules))
