-- A positive balance and the liquidation fit together.
use Rattle.std.proofs.Common.{arith}
use Rattle.call_keeps.proofs.Widths.{paid-capped}
use Rattle.account_years.proofs.by_closing.Goals as goal

pub add-paid-requires : goal.add-paid-requires
add-paid-requires c = omega (arith, c.requires, c.paid_balance.ensures, paid-capped c.args.closing.sums.balance.0)
