-- The account and the years of figure (10), as the program holds them.
use Rattle.std.specs.Prelude.{ℕ}
use Rattle.units.specs.Units.{kwh, ticks, user_number}
use Rattle.sheet_values.specs.declared.YearValues.{YearValues}
use Rattle.account_steps.specs.declared.Account.{Account}

-- an account on credit, before its first closing
abbrev pub opened : Account
opened =
    record {
      number = user_number 7;
      details = record { class = 1; plant = 1; power = 3000; year = 2014; month = 1; island = 0 };
      option = 0;
      open_year = 2014;
      runs = 0;
      later_runs = 0;
      credit = ticks 0;
      advances = ticks 0;
      later_advances = ticks 0;
      half1 = kwh 0;
      half2 = kwh 0;
      charge = record { made = 0; rest = ticks 0 };
    }

-- a year of C and O, with F 0
abbrev pub year_with : ℕ → ℕ → YearValues
year_with c o = record { value = ticks c; cost = ticks o; flat_rate = ticks 0; half1 = kwh 0; half2 = kwh 0 }
