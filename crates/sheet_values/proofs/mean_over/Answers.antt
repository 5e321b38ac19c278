-- The mean of a sum within its limit.
use mathlib.Core.Path.{◌≡◌, refl, ap, ◌∙◌}
use Rattle.units.specs.declared.Rate.{Rate}
use Rattle.units.specs.Units.{rate}
use Rattle.units.specs.Limits.{max_price}
use Rattle.tariff.specs.Tariff.{mean_rate}
use Rattle.tariff.proofs.Rates.{mean-rate-capped}
use Rattle.sheet_values.proofs.mean_over.Goals as goal

pub returns : goal.returns
returns c =
    let n = c.args.stretch.count in
    let sum = c.rate_over in
    let mean : c.mean_rate.result ≡ rate (mean_rate n sum.result.0) = c.mean_rate.ensures ∙ rw c.from.ensures refl in
    record {
      is = mean ∙ ap (λ (x : Rate). rate (mean_rate n x.0)) sum.ensures.is;
      most = rw mean (mean-rate-capped n sum.result.0 max_price c.args.stretch.some sum.ensures.most);
    }
