-- `rate_over` is held to `sum_below`: a running sum.
use Prim.Native.Nat.{◌+◌}
use mathlib.Core.Path.{◌≡◌, sym}
use native.Mathlib.Omega.{arith}
use Rattle.units.proofs.Folds.{sum-zero, sum-next}
use Rattle.sheet.specs.YearSheet.{word}
use Rattle.std.proofs.Common.{rules}
use Rattle.sheet_values.proofs.rate_over.Goals as goal

pub loop-i-init : goal.loop-i-init
loop-i-init c = record {
  within = search rules;
  bounded = search rules;
  sums = sym (sum-zero (λ j. word c.args.sheet.bytes.now (c.args.stretch.from + j) c.args.column.place));
}

pub loop-i-preserved : goal.loop-i-preserved
loop-i-preserved c =
    let l = c.loop-i in
    let a = c.args in
    let is : c.rate_at-sum.result.0 ≡ word a.sheet.bytes.now (a.stretch.from + l.i) a.column.place = search rules in
    record {
      within = search rules;
      bounded = omega arith;
      sums = sum-next l.i (λ j. word a.sheet.bytes.now (a.stretch.from + j) a.column.place) l.invariant.sums is;
    }
