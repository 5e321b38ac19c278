-- The program's rows as those of table 1.
use Rattle.std.specs.Prelude.{ℕ}
use Rattle.tariff.specs.declared.table1.Power.{Power}
use Rattle.tariff.specs.declared.table1.Power.TheVariants.{UpTo, Beyond}
use Rattle.tariff.specs.declared.table1.Row.{Row}
use Rattle.tariff.specs.Table1 as Table1

-- the program's powers, and its row of a kind
abbrev pub power_of : Power → Table1.Power
power_of (UpTo kw) = Table1.up_to kw
power_of Beyond = Table1.beyond

abbrev pub row_of : ℕ → Row → Table1.Row
row_of k r = record { kind = k; power = power_of r.0; euro_per_mwh = r.1 }
