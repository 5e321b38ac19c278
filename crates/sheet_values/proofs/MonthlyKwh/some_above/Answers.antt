-- A running test.
use Prim.Native.Nat.{ℕ, ◌+◌, ◌<◌}
use mathlib.Core.Path.{ap, sym}
use native.Mathlib.Omega.{arith}
use lib.Dec.{ltb}
use Rattle.units.proofs.Folds.{any-zero, any_next}
use Rattle.tariff.specs.Tariff.{monthly_threshold}
use Rattle.sheet_prices.specs.InnerArrays.{energy_at}
use Rattle.sheet_values.proofs.SheetEnergies.{in-stretch}
use Rattle.std.proofs.Common.{rules}
use Rattle.sheet_values.proofs.MonthlyKwh.some_above.Goals as goal

pub loop-kwh-init : goal.loop-kwh-init
loop-kwh-init c = (search rules, sym (any-zero (λ j. ltb monthly_threshold (energy_at (c.args.stretch.from + j) c.args.self.months))))

pub loop-kwh-preserved : goal.loop-kwh-preserved
loop-kwh-preserved c =
    let l = c.loop-kwh in
    let a = c.args in
    let months = c.of-kwh-items in
    let index : l.kwh-index < a.stretch.count = omega (arith, c.loop-kwh-test.true, months.ensures.long) in
    let here = in-stretch a.self.months months.result.now a.stretch.from a.stretch.count l.kwh-index months.ensures.part index in
    (omega (arith, index), any_next l.kwh-index (λ j. ltb monthly_threshold (energy_at (a.stretch.from + j) a.self.months)) l.invariant.1 (ap (λ (n : ℕ). ltb monthly_threshold n) here))
