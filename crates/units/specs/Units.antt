-- "Units" of document 01: a number of each unit, as the program holds it. In definitions a quantity is a plain number;
-- these name the program's value for it.
use Rattle.std.specs.Prelude.{ℕ}
use Rattle.units.specs.declared.Kwh.{Kwh}
use Rattle.units.specs.declared.WideKwh.{WideKwh}
use Rattle.units.specs.declared.Rate.{Rate}
use Rattle.units.specs.declared.Ticks.{Ticks}
use Rattle.units.specs.declared.UserNumber.{UserNumber}
use Rattle.units.specs.declared.RecordIndex.{RecordIndex}

abbrev pub kwh : ℕ → Kwh
kwh n = record { 0 = n }

abbrev pub wide_kwh : ℕ → WideKwh
wide_kwh n = record { 0 = n }

abbrev pub rate : ℕ → Rate
rate n = record { 0 = n }

abbrev pub ticks : ℕ → Ticks
ticks n = record { 0 = n }

abbrev pub user_number : ℕ → UserNumber
user_number n = record { 0 = n }

abbrev pub record_index : ℕ → RecordIndex
record_index n = record { 0 = n }

-- "One €/MWh is 100 units of price."
abbrev pub units_per_euro_mwh : ℕ
units_per_euro_mwh = 100
