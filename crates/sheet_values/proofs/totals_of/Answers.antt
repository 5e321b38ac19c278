-- The totals are filled month by month.
use mathlib.Core.Path.{◌≡◌, refl}
use mathlib.Core.List.{[]}
use native.Mathlib.Nat.{not-suc-le-zero}
use native.Mathlib.Omega.{arith}
use lib.ListN.{length-set, get_or}
use Rattle.units.specs.Units.{kwh}
use Rattle.units.proofs.Filled.{filled_next}
use Rattle.sheet_prices.specs.InnerArrays.{row_total}
use Rattle.std.proofs.Common.{rules}
use Rattle.sheet_values.proofs.totals_of.Goals as goal

pub loop-month-init : goal.loop-month-init
loop-month-init c = record { within = search rules; long = refl; filled = λ m l. absurd (not-suc-le-zero l) }

pub row_total-requires : goal.row_total-requires
row_total-requires c = c.args.energies.within c.loop-month.month (search rules)

pub loop-month-preserved : goal.loop-month-preserved
loop-month-preserved c =
    let l = c.loop-month in
    let a = c.args in record {
      within = search rules;
      long = simp length-set l.invariant.long;
      filled = filled_next (kwh 0) (λ m. kwh (row_total (get_or a.energies.months m []))) l.month l.totals c.row_total.result (omega arith)
          c.row_total.ensures
          l.invariant.filled;
    }

pub returns : goal.returns
returns c =
    let l = c.loop-month in
    let end : l.month ≡ 12 = omega arith in
    λ m h. l.invariant.filled m (rw end h)
