-- Renewable plants, small and large: the cases of the definition.
use Prim.Native.Nat.{min}
use mathlib.Core.Path.{◌≡◌, ap, sym}
use Rattle.std.proofs.Common.{rules}
use Rattle.units.specs.declared.Rate.{Rate}
use Rattle.units.specs.Units.{rate}
use Rattle.tariff.proofs.Rates.{rate-of-small, rate-of-large}
use Rattle.tariff.proofs.Plant.tier_rate.Goals as goal

pub returns-then-self-le-SMALL_POWER-clause-is : goal.returns-then-self-le-SMALL_POWER-clause-is
returns-then-self-le-SMALL_POWER-clause-is c =
    ap rate (sym (rate-of-small c.args.net.0 c.args.system.0 c.if-self-eq-COGENERATION.false c.if-self-le-SMALL_POWER.true))

pub returns-clause-is : goal.returns-clause-is
returns-clause-is c =
    let least : c.min.result.0 ≡ min c.args.system.0 c.limit_of-limit.result.0 = search rules in
    let limit = ap (λ (r : Rate). r.0) c.limit_of-limit.ensures in
    let large = rate-of-large c.args.net.0 c.args.system.0 c.if-self-eq-COGENERATION.false c.if-self-le-SMALL_POWER.false in
    ap rate (rw (least, limit) (sym large))
