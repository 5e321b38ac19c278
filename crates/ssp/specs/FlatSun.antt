-- A flat answer to how much more sun: "the least added kWh .., or the answer that none does" as two numbers.
use Rattle.std.specs.Prelude.{ℕ, Option, Some, None}
use Rattle.units.specs.declared.Kwh.{Kwh}
use Rattle.refusals.specs.declared.Position.{Position}
use Rattle.ssp.specs.declared.Sun.{Sun}

-- 1 and the kWh, or zeros where there is none
abbrev pub found_in : Option Kwh → ℕ
found_in (Some x) = 1
found_in None = 0

abbrev pub added_in : Option Kwh → ℕ
added_in (Some x) = x.0
added_in None = 0

unfoldable pub flat_sun : ℕ → ℕ → Position → Option Kwh → Sun
flat_sun refusal named position a =
    record {
      refusal = refusal;
      «record» = named;
      month = position.month;
      place = position.place;
      found = found_in a;
      added = added_in a;
    }
