-- After each turn one month more stands in the sheet.
use mathlib.Core.Path.{refl}
use native.Mathlib.Omega.{arith}
use Rattle.sheet_losses.specs.InnerSteps.{readings_in}
use Rattle.sheet_losses.proofs.Writing.{none_written, next-written}
use Rattle.std.proofs.Common.{rules}
use Rattle.sheet_losses.proofs.write_year.Goals as goal

pub loop-month-init : goal.loop-month-init
loop-month-init c =
    let a = c.args in
    record { within = search rules; same = refl; written = none_written (readings_in a.months) a.sheet.now }

pub loop-month-preserved : goal.loop-month-preserved
loop-month-preserved c =
    let w = c.store_month in
    let l = c.loop-month in
    let a = c.args in
    record {
      within = search rules;
      same = omega (arith, w.auto.sheet);
      written = next-written (readings_in a.months) a.sheet.now l.month l.sheet w.new.sheet l.invariant.written w.ensures;
    }
