-- By the contract of `close`, flattened.
use Rattle.refusals.specs.Refusals.{refusal_in, record_in, position_in}
use Rattle.ssp.proofs.Flat.{sums-or, closed-flat}
use Rattle.ssp.proofs.ssp_close.Goals as goal

pub returns : goal.returns
returns c =
    let said = c.close in
    let e = said.ensures in
    let all = closed-flat _ (refusal_in said.result) (record_in (λ s. 0) said.result) _ _ (position_in said.result) _ c.from.result c.from.ensures
    (e.reply, (e.position, sums-or _ _ said.result e.sums)) in
    record { reply = all.0; position = all.1.0; flat = all.1.1 }
