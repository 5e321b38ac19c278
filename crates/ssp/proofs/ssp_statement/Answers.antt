-- By the contract of `statement`, flattened.
use Rattle.refusals.specs.Refusals.{refusal_in, record_in}
use Rattle.ssp.proofs.Flat.{stated-or, sums-flat}
use Rattle.ssp.proofs.ssp_statement.Goals as goal

pub returns : goal.returns
returns c =
    let said = c.statement in
    let e = said.ensures in
    let all = sums-flat _ (refusal_in said.result) (record_in (λ s. 0) said.result) _ _ c.from.result c.from.ensures
    (e.reply, stated-or _ _ said.result e.sums) in
    record { reply = all.0; flat = all.1 }
