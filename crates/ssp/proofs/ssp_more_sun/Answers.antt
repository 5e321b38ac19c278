-- By the contract of `more_sun`, flattened.
use Rattle.refusals.specs.Refusals.{refusal_in, record_in, position_in}
use Rattle.ssp.proofs.FlatSun.{addition-or, sun-flat}
use Rattle.ssp.proofs.ssp_more_sun.Goals as goal

pub returns : goal.returns
returns c =
    let said = c.more_sun in
    let e = said.ensures in
    let all = sun-flat _ _ _ _ (refusal_in said.result) (record_in (λ x. 0) said.result) (position_in said.result) _ c.from.result c.from.ensures
    (e.reply, (e.position, addition-or _ _ _ _ said.result e.addition)) in
    record { reply = all.0; position = all.1.0; flat = all.1.1 }
