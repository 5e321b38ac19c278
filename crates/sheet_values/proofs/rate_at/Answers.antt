-- The number read, within its limit.
use native.Mathlib.Omega.{arith}
use Rattle.sheet.proofs.Limits.{passed-price}
use Rattle.std.proofs.Common.{rules}
use Rattle.sheet_values.proofs.rate_at.Goals as goal

pub returns : goal.returns
returns c =
    let a = c.args in
    let place = a.column.of_rates in
    record {
      is = search rules;
      most = omega (arith, c.number.ensures, passed-price a.sheet.bytes.now a.sheet.passed.past13 a.month.index a.column.place a.month.of_year place.0 place.1);
    }
