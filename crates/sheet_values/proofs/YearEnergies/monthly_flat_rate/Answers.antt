-- `monthly_flat_rate` is held to `sum_below`: a running sum of the months.
use Prim.Native.Nat.{ℕ, ◌+◌}
use mathlib.Core.Path.{◌≡◌, ap, sym, ◌∙◌}
use native.Mathlib.Omega.{arith}
use Rattle.units.specs.Units.{ticks}
use Rattle.units.proofs.Folds.{sum-zero, sum-next}
use Rattle.sheet_values.specs.YearsValues.{month_flat_rate}
use Rattle.std.proofs.Common.{rules}
use Rattle.sheet_values.proofs.YearEnergies.monthly_flat_rate.Goals as goal

pub loop-i-init : goal.loop-i-init
loop-i-init c =
    let a = c.args in
    record {
      within = search rules;
      bounded = search rules;
      sums = sym (sum-zero (λ j. month_flat_rate a.self.sheet.bytes.now a.plant.kind a.plant.power (a.stretch.from + j)));
    }

pub loop-i-preserved : goal.loop-i-preserved
loop-i-preserved c =
    let l = c.loop-i in
    let a = c.args in
    let s = a.self.sheet.bytes.now in
    let part = c.month_flat_rate.ensures in
    let month = ap (λ (m : ℕ). month_flat_rate s a.plant.kind a.plant.power m) c.month.ensures in
    let sum : c.add_assign.new.self ≡ ticks (l.sum.0 + c.month_flat_rate.result.0) = search rules in
    rw sum
    (record {
      within = search rules;
      bounded = omega (arith, part.most, l.invariant.bounded);
      sums = sum-next l.i (λ j. month_flat_rate s a.plant.kind a.plant.power (a.stretch.from + j)) l.invariant.sums (part.is ∙ month);
    })
