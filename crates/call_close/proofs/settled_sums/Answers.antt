-- The settlement's figures in the sums.
use Rattle.call_close.proofs.Entries.{sums-are}
use Rattle.call_close.proofs.settled_sums.Goals as goal

pub returns : goal.returns
returns c account e =
    let a = c.args in
    sums-are account a.values a.settlement e c.liquidation.result c.lapsed.result
    c.liquidation.ensures c.lapsed.ensures
