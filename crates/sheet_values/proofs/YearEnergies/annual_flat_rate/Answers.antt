-- `annual_flat_rate` is held to `annual_flat_rate`: the energies of the tiers and their rates, as the definitions have them.
use Prim.Native.Nat.{min}
use mathlib.Core.Path.{◌≡◌, ap, ◌∙◌}
use native.Mathlib.Omega.{arith}
use Rattle.units.specs.Units.{kwh}
use Rattle.tariff.specs.Tariff.{annual_tiers}
use Rattle.tariff.proofs.FlatRate.{flat-rate-of-parts}
use Rattle.sheet_values.specs.YearsValues.{annual_rate}
use Rattle.sheet_values.proofs.SheetRates.{annual-rate-capped, rates-capped}
use Rattle.sheet_values.proofs.SheetEnergies.{flat-annual}
use Rattle.std.proofs.Common.{rules}
use Rattle.sheet_values.proofs.YearEnergies.annual_flat_rate.Goals as goal

pub flat_rate_of-requires-clause-tier_rates : goal.flat_rate_of-requires-clause-tier_rates
unfolding annual_rate
flat_rate_of-requires-clause-tier_rates c =
    let a = c.args in
    let s = a.self.sheet.bytes.now in
    rates-capped (annual_rate s a.plant.kind a.plant.power a.stretch.from a.stretch.count) c.annual_rates.result c.annual_rates.ensures
    (λ t l. annual-rate-capped s a.self.sheet.passed a.plant.kind a.plant.power a.stretch.from a.stretch.count t a.stretch.some a.stretch.of_year l)

pub returns : goal.returns
returns c =
    let a = c.args in
    let s = a.self.sheet.bytes.now in
    let f = c.flat_rate_of.ensures in
    let w = c.over-withdrawn.result in
    let i = c.over.result in
    let e = c.min-exchanged.result in
    let smaller : e.0 ≡ min w.0 i.0 = search rules in
    let parts = flat-rate-of-parts c.annual_rates.result (annual_tiers a.class w.0 e.0) (annual_rate s a.plant.kind a.plant.power a.stretch.from a.stretch.count)
    c.annual_tiers-energies.ensures.tiers c.annual_rates.ensures in
    record {
      is = (flat-annual s a.self.withdrawn.months a.self.injected.months a.stretch.from a.stretch.count a.class a.plant.kind a.plant.power
          c.flat_rate_of.result.0 w i e a.stretch.of_year a.self.withdrawn_are a.self.injected_are c.over-withdrawn.ensures.is c.over.ensures.is
          (ap kwh smaller) (f.is ∙ parts)).0;
      most = omega (arith, f.most, c.annual_tiers-energies.ensures.whole, smaller, c.over-withdrawn.ensures.most, a.stretch.of_year);
    }
