-- Each value as its definition has it.
use native.Mathlib.Omega.{arith}
use lib.Dec.{lit<}
use Rattle.sheet_values.specs.YearsValues.{year_values}
use Rattle.sheet_values.proofs.SheetEnergies.{half_is}
use Rattle.sheet_values.proofs.YearValues.of.Goals as goal

pub returns : goal.returns
unfolding year_values
returns c =
    let s = c.args.sheet.bytes.now in
    let year = c.of-year in
    let exchanged = rw year.ensures at year.result.exchanged_are in
    let first = half_is s year.result.exchanged.months 0 c.over.result (lit< tt) exchanged c.over.ensures.is in
    let second = half_is s year.result.exchanged.months 1 c.over-2.result (lit< tt) exchanged c.over-2.ensures.is in
    let value = c.value.ensures in
    let cost = c.cost.ensures in
    let flat = rw (year.ensures, c.new-plant.ensures.kind, c.new-plant.ensures.power) at c.flat_rate.ensures.is in
    record {
      are = λ k. record { value = value.is k; cost = cost.is k; flat_rate = flat k; half1 = first k; half2 = second k };
      fit = record {
        value = value.most;
        cost = cost.most;
        flat_rate = c.flat_rate.ensures.most;
        half1 = omega (arith, c.over.ensures.most);
        half2 = omega (arith, c.over-2.ensures.most);
      };
    }
