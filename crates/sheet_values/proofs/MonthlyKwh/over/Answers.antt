-- `over` is held to `sum_below`: a running sum.
use Prim.Native.Nat.{◌+◌, ◌<◌}
use mathlib.Core.Path.{sym}
use native.Mathlib.Omega.{arith}
use Rattle.units.proofs.Folds.{sum-zero, sum-next}
use Rattle.sheet_prices.specs.InnerArrays.{energy_at}
use Rattle.sheet_values.proofs.SheetEnergies.{in-stretch}
use Rattle.std.proofs.Common.{rules}
use Rattle.sheet_values.proofs.MonthlyKwh.over.Goals as goal

pub loop-kwh-init : goal.loop-kwh-init
loop-kwh-init c = record {
  within = search rules;
  bounded = search rules;
  sums = sym (sum-zero (λ j. energy_at (c.args.stretch.from + j) c.args.self.months));
}

pub loop-kwh-preserved : goal.loop-kwh-preserved
loop-kwh-preserved c =
    let l = c.loop-kwh in
    let a = c.args in
    let months = c.of-kwh-items in
    let index : l.kwh-index < a.stretch.count = omega (arith, c.loop-kwh-test.true, months.ensures.long) in
    let here = in-stretch a.self.months months.result.now a.stretch.from a.stretch.count l.kwh-index months.ensures.part index in
    let most = a.self.within (a.stretch.from + l.kwh-index) (omega (arith, index, a.stretch.of_year)) in
    record {
      within = omega (arith, index);
      bounded = omega (arith, here, most, l.invariant.bounded);
      sums = sum-next l.kwh-index (λ j. energy_at (a.stretch.from + j) a.self.months) l.invariant.sums here;
    }
