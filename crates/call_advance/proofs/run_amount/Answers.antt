-- Each half's energy is in range, and the amount is that of the definition.
use Rattle.call_advance.proofs.Runs.{run-within, run-paid}
use Rattle.call_advance.proofs.run_amount.Goals as goal

pub amount-requires : goal.amount-requires
amount-requires c =
    let a = c.args in
    let all = run-within a.a a.order.price.0 a.order.estimate1.0 a.order.estimate2.0 c.requires.year_bound.1 c.requires.order
    c.half_or_estimate-first.result.0 c.half_or_estimate-second.result.0
    c.half_or_estimate-first.ensures c.half_or_estimate-second.ensures in record { price_bound = all.0; halves_bound = all.1 }

pub returns : goal.returns
returns c =
    let a = c.args in
    run-paid a.a a.order.price.0 a.order.estimate1.0 a.order.estimate2.0 a.year a.run c.half_or_estimate-first.result.0
    c.half_or_estimate-second.result.0
    c.half_or_estimate-first.ensures c.half_or_estimate-second.ensures c.halves_in.result c.halves_in.ensures c.amount.result
    c.amount.ensures.is
