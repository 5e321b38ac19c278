-- Three products, each within its limits.
use Prim.Native.Nat.{◌+◌}
use mathlib.Core.Path.{◌≡◌, ap}
use Rattle.units.specs.Units.{ticks}
use Rattle.sheet_prices.proofs.Rows.{row-sum}
use Rattle.std.proofs.Common.{rules}
use Rattle.sheet_prices.proofs.row_value.Goals as goal

pub returns : goal.returns
returns c =
    let sums = row-sum c.args.energy c.args.prices _ _ _ c.requires c.priced-f1.ensures
    c.priced-f2.ensures c.priced-f3.ensures in
    let sum : c.add-2.result ≡ ticks (c.priced-f1.result.0 + c.priced-f2.result.0 + c.priced-f3.result.0) = search rules in
    rw sum (record { is = ap ticks sums.0; most = sums.1 })
