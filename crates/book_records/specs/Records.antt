-- A record of each kind by value: the cells of its image, and the value that a record's bytes hold.
use Rattle.std.specs.Prelude.{ℕ, List, [], ◌∷◌}
use Rattle.std.specs.Int.{w64, cast_signed, cast_unsigned}
use Rattle.units.specs.Units.{kwh, ticks, user_number, record_index}
use Rattle.account_steps.specs.declared.Account.{Account}
use Rattle.account_steps.specs.Account.{balance}
use Rattle.book_records.specs.declared.UserRecord.{UserRecord}
use Rattle.book_records.specs.declared.AdvanceRecord.{AdvanceRecord}
use Rattle.book_records.specs.declared.ClosingRecord.{ClosingRecord}
use Rattle.book_layout.specs.Fields.{Cell, ◌holds◌, image, get, used_field, first_user_field, next_field, kind_field, user_kind}
use Rattle.book_layout.specs.Fields.{class_field}
use Rattle.book_layout.specs.Fields.{plant_field, option_field, number_field, first_entry_field, power_field, activation_year_field}
use Rattle.book_layout.specs.Fields.{activation_month_field, island_field, open_year_field, runs_field, later_runs_field, credit_field}
use Rattle.book_layout.specs.Fields.{advances_field, later_advances_field, half1_field, half2_field, charged_field, rest_field}
use Rattle.book_layout.specs.Fields.{advance_kind}
use Rattle.book_layout.specs.Fields.{closing_kind, year_field, owner_field, run_field, ticks_field, booked_field, withheld_field}
use Rattle.book_layout.specs.Fields.{closing_option_field, value_field, cost_field, flat_rate_field, contribution_field, liquidation_field}
use Rattle.book_layout.specs.Fields.{lapsed_field, balance_field}

abbrev pub head_cells : ℕ → ℕ → List Cell
head_cells used first = (used_field holds used) ∷ (first_user_field holds first) ∷ []

unfoldable pub head_image : ℕ → ℕ → List ℕ
head_image used first = image (head_cells used first)

abbrev pub user_cells : UserRecord → List Cell
user_cells u =
    (next_field holds u.next.0)
    ∷ (kind_field holds user_kind)
    ∷ (class_field holds u.account.details.class)
    ∷ (plant_field holds u.account.details.plant)
    ∷ (option_field holds u.account.option)
    ∷ (number_field holds u.account.number.0)
    ∷ (first_entry_field holds u.first.0)
    ∷ (power_field holds u.account.details.power)
    ∷ (activation_year_field holds u.account.details.year)
    ∷ (activation_month_field holds u.account.details.month)
    ∷ (island_field holds u.account.details.island)
    ∷ (open_year_field holds u.account.open_year)
    ∷ (runs_field holds u.account.runs)
    ∷ (credit_field holds u.account.credit.0)
    ∷ (advances_field holds u.account.advances.0)
    ∷ (half1_field holds u.account.half1.0)
    ∷ (half2_field holds u.account.half2.0)
    ∷ (later_runs_field holds u.account.later_runs)
    ∷ (later_advances_field holds u.account.later_advances.0)
    ∷ (charged_field holds u.account.charge.made)
    ∷ (rest_field holds u.account.charge.rest.0)
    ∷ []

unfoldable pub user_image : UserRecord → List ℕ
user_image u = image (user_cells u)

abbrev pub advance_cells : AdvanceRecord → List Cell
advance_cells a =
    (next_field holds a.next.0)
    ∷ (kind_field holds advance_kind)
    ∷ (run_field holds a.run)
    ∷ (year_field holds a.year)
    ∷ (ticks_field holds a.ticks.0)
    ∷ (owner_field holds a.owner.0)
    ∷ (booked_field holds a.booked)
    ∷ (withheld_field holds a.withheld.0)
    ∷ []

unfoldable pub advance_image : AdvanceRecord → List ℕ
advance_image a = image (advance_cells a)

abbrev pub closing_cells : ClosingRecord → List Cell
closing_cells c =
    (next_field holds c.next.0)
    ∷ (kind_field holds closing_kind)
    ∷ (closing_option_field holds c.option)
    ∷ (year_field holds c.year)
    ∷ (value_field holds c.sums.value.0)
    ∷ (cost_field holds c.sums.cost.0)
    ∷ (flat_rate_field holds c.sums.flat_rate.0)
    ∷ (contribution_field holds c.sums.contribution.0)
    ∷ (liquidation_field holds c.sums.liquidation.0)
    ∷ (lapsed_field holds c.sums.lapsed.0)
    ∷ (balance_field holds cast_unsigned w64 c.sums.balance.0)
    ∷ (owner_field holds c.owner.0)
    ∷ (withheld_field holds c.withheld.0)
    ∷ []

unfoldable pub closing_image : ClosingRecord → List ℕ
closing_image c = image (closing_cells c)

-- what the bytes of a user record hold
unfoldable pub account_in : List ℕ → Account
account_in r =
    record {
      number = user_number (get number_field r);
      details =
          record {
            class = get class_field r;
            plant = get plant_field r;
            power = get power_field r;
            year = get activation_year_field r;
            month = get activation_month_field r;
            island = get island_field r;
          };
      option = get option_field r;
      open_year = get open_year_field r;
      runs = get runs_field r;
      later_runs = get later_runs_field r;
      credit = ticks (get credit_field r);
      advances = ticks (get advances_field r);
      later_advances = ticks (get later_advances_field r);
      half1 = kwh (get half1_field r);
      half2 = kwh (get half2_field r);
      charge = record { made = get charged_field r; rest = ticks (get rest_field r) };
    }

unfoldable pub user_in : List ℕ → UserRecord
user_in r = record { next = record_index (get next_field r); first = record_index (get first_entry_field r); account = account_in r }

-- what the bytes of an advance and of a closing hold
unfoldable pub advance_in : List ℕ → AdvanceRecord
advance_in r =
    record {
      next = record_index (get next_field r);
      run = get run_field r;
      year = get year_field r;
      ticks = ticks (get ticks_field r);
      owner = record_index (get owner_field r);
      booked = get booked_field r;
      withheld = ticks (get withheld_field r);
    }

unfoldable pub closing_in : List ℕ → ClosingRecord
closing_in r =
    record {
      next = record_index (get next_field r);
      option = get closing_option_field r;
      year = get year_field r;
      sums =
          record {
            value = ticks (get value_field r);
            cost = ticks (get cost_field r);
            flat_rate = ticks (get flat_rate_field r);
            contribution = ticks (get contribution_field r);
            liquidation = ticks (get liquidation_field r);
            lapsed = ticks (get lapsed_field r);
            balance = balance (cast_signed w64 (get balance_field r));
          };
      owner = record_index (get owner_field r);
      withheld = ticks (get withheld_field r);
    }
