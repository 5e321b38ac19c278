-- `fill` is held to `filled`: month by month.
use mathlib.Core.Path.{refl, ap, ◌∙◌}
use Rattle.sheet_text.specs.Lines.{readings}
use Rattle.sheet_text.specs.Reading.{month_filled}
use Rattle.sheet_text.specs.InnerSteps.{kwh_of_year}
use Rattle.sheet_text.proofs.Filling.{months-none, months-next}
use Rattle.std.proofs.Common.{rules}
use Rattle.sheet_text.proofs.fill.Goals as goal

pub loop-month-init : goal.loop-month-init
loop-month-init c = record {
  within = search rules;
  same = refl;
  written = months-none (kwh_of_year c.args.year) c.args.sheet.now;
}

pub loop-month-preserved : goal.loop-month-preserved
loop-month-preserved c =
    let l = c.loop-month in
    let a = c.args in
    let put = c.fill_month in record {
      within = search rules;
      same = put.auto.sheet ∙ l.invariant.same;
      written = put.ensures
          ∙ ap (month_filled (kwh_of_year a.year l.month) l.month readings) l.invariant.written
          ∙ months-next (kwh_of_year a.year) a.sheet.now l.month;
    }
