-- `year_value` is held to `sum_below`: a running sum of the months.
use Prim.Native.Nat.{◌+◌}
use mathlib.Core.Path.{◌≡◌, ap, sym}
use mathlib.Core.List.{[]}
use native.Mathlib.Omega.{arith}
use lib.ListN.{get_or}
use Rattle.units.specs.declared.Ticks.{Ticks}
use Rattle.units.specs.Units.{ticks}
use Rattle.units.proofs.Folds.{sum-zero, sum-next}
use Rattle.sheet_prices.specs.InnerArrays.{row_value}
use Rattle.sheet_prices.proofs.SheetRows.{rows_within}
use Rattle.std.proofs.Common.{rules}
use Rattle.sheet_prices.proofs.year_value.Goals as goal

pub loop-month-init : goal.loop-month-init
loop-month-init c = record {
  within = search rules;
  bounded = search rules;
  sums = sym (sum-zero (λ m. row_value (get_or c.args.energies.months m []) (get_or c.args.prices.months m [])));
}

pub row_value-requires : goal.row_value-requires
row_value-requires c =
    let a = c.args in
    rows_within a.energies.months a.prices.months a.energies.within a.prices.within c.loop-month.month (search rules)

pub loop-month-preserved : goal.loop-month-preserved
loop-month-preserved c =
    let l = c.loop-month in
    let a = c.args in
    let value = c.row_value.ensures in
    let sum : c.add_assign.new.self ≡ ticks (l.sum.0 + c.row_value.result.0) = search rules in
    rw sum (record {
      within = search rules;
      bounded = omega arith;
      sums = sum-next l.month (λ m. row_value (get_or a.energies.months m []) (get_or a.prices.months m [])) l.invariant.sums (ap (λ (t : Ticks).
          t.0) value.is);
    })
