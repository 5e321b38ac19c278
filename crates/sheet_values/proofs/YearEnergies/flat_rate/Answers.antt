-- The method decides: the months one by one, or the whole stretch.
use mathlib.Core.Path.{ap, sym, ◌∙◌}
use native.Mathlib.Omega.{arith}
use Rattle.units.specs.Units.{ticks}
use Rattle.tariff.specs.Tariff.{monthly_method}
use Rattle.sheet_values.proofs.SheetEnergies.{above-over, flat-monthly, flat-annually}
use Rattle.sheet_values.proofs.YearEnergies.flat_rate.Goals as goal

pub returns-then-monthly_method : goal.returns-then-monthly_method
returns-then-monthly_method c =
    let a = c.args in
    let s = a.self.sheet.bytes.now in
    let above = c.some_above.ensures ∙ above-over s a.self.withdrawn.months a.self.withdrawn_are a.stretch.from a.stretch.count a.stretch.of_year in
    let test = sym (ap (monthly_method a.class) above) ∙ sym c.monthly_method.ensures ∙ c.if-monthly_method.true in
    record {
      is = ap ticks (flat-monthly s a.stretch.from a.stretch.count a.class a.plant.kind a.plant.power c.monthly_flat_rate.result.0 test
          c.monthly_flat_rate.ensures.is);
      most = omega (arith, c.monthly_flat_rate.ensures.most, a.stretch.of_year);
    }

pub returns-else-monthly_method : goal.returns-else-monthly_method
returns-else-monthly_method c =
    let a = c.args in
    let s = a.self.sheet.bytes.now in
    let above = c.some_above.ensures ∙ above-over s a.self.withdrawn.months a.self.withdrawn_are a.stretch.from a.stretch.count a.stretch.of_year in
    let test = sym (ap (monthly_method a.class) above) ∙ sym c.monthly_method.ensures ∙ c.if-monthly_method.false in
    record {
      is = ap ticks (flat-annually s a.stretch.from a.stretch.count a.class a.plant.kind a.plant.power c.annual_flat_rate.result.0 test
          c.annual_flat_rate.ensures.is);
      most = c.annual_flat_rate.ensures.most;
    }
