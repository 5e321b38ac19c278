-- `month_flat_rate` is held to `month_flat_rate`: the energies of the tiers and their rates, as the definitions have them.
use mathlib.Core.Path.{◌≡◌, ◌∙◌}
use native.Mathlib.Omega.{arith}
use Rattle.sheet.specs.YearSheet.{month_withdrawn}
use Rattle.tariff.specs.Tariff.{monthly_tiers}
use Rattle.tariff.proofs.FlatRate.{flat-rate-of-parts}
use Rattle.sheet_values.specs.YearsValues.{month_exchanged, month_rate}
use Rattle.sheet_values.proofs.SheetRates.{month-rate-capped, rates-capped}
use Rattle.sheet_values.proofs.SheetEnergies.{exchanged-within, held, month-flat}
use Rattle.sheet_values.proofs.YearEnergies.month_flat_rate.Goals as goal
use Rattle.sheet_values.proofs.YearEnergies.month_flat_rate.Goals.{After-at-exchanged}

withdrawn : (c : After-at-exchanged) → c.at-withdrawn.result.0 ≡ month_withdrawn c.args.self.sheet.bytes.now c.args.month.index
withdrawn c =
    let a = c.args in
    held (month_withdrawn a.self.sheet.bytes.now) a.self.withdrawn.months a.self.withdrawn_are a.month.index a.month.of_year c.at-withdrawn.result
    c.at-withdrawn.ensures.is

exchanged : (c : After-at-exchanged) → c.at-exchanged.result.0 ≡ month_exchanged c.args.self.sheet.bytes.now c.args.month.index
exchanged c =
    let a = c.args in
    held (month_exchanged a.self.sheet.bytes.now) a.self.exchanged.months a.self.exchanged_are a.month.index a.month.of_year c.at-exchanged.result
    c.at-exchanged.ensures.is

pub monthly_tiers-energies-requires : goal.monthly_tiers-energies-requires
monthly_tiers-energies-requires c =
    let read = (goal.at.monthly_tiers-energies-requires c).After-at-exchanged in
    rw (exchanged read, withdrawn read) (exchanged-within c.args.self.sheet.bytes.now c.args.month.index)

pub flat_rate_of-requires-clause-tier_rates : goal.flat_rate_of-requires-clause-tier_rates
unfolding month_rate
flat_rate_of-requires-clause-tier_rates c =
    let a = c.args in
    let s = a.self.sheet.bytes.now in
    rates-capped (month_rate s a.plant.kind a.plant.power a.month.index) c.month_rates.result c.month_rates.ensures
    (λ t l. month-rate-capped s a.self.sheet.passed a.plant.kind a.plant.power a.month.index t a.month.of_year l)

pub returns : goal.returns
returns c =
    let a = c.args in
    let s = a.self.sheet.bytes.now in
    let read = (goal.at.returns c).After-at-exchanged in
    let f = c.flat_rate_of.ensures in
    let w = c.at-withdrawn.result in
    let e = c.at-exchanged.result in
    let parts = flat-rate-of-parts c.month_rates.result (monthly_tiers w.0 e.0) (month_rate s a.plant.kind a.plant.power a.month.index)
    c.monthly_tiers-energies.ensures.tiers c.month_rates.ensures in
    record {
      is = month-flat s a.plant.kind a.plant.power a.month.index c.flat_rate_of.result.0 w e (withdrawn read) (exchanged read) (f.is ∙ parts);
      most = omega (arith, f.most, c.monthly_tiers-energies.ensures.whole, c.at-exchanged.ensures.most);
    }
