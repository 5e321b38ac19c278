-- Flat answers: each sum in its field as a plain number, and the balance signed. And an enrolment's details from plain numbers.
use Rattle.std.specs.Prelude.{ℕ, List, [], get_or, Result}
use Rattle.std.specs.Result.{result_unwrap_or}
use Rattle.sheet_values.specs.declared.Details.{Details}
use Rattle.refusals.specs.declared.Position.{Position}
use Rattle.refusals.specs.declared.Refusal.{Refusal}
use Rattle.refusals.specs.Refusals.{refusal_in, line_in, position_in}
use Rattle.account_steps.specs.declared.ClosingSums.{ClosingSums}
use Rattle.statements.specs.declared.Sums as statements
use Rattle.sheet_text.specs.Reading.{Answer}
use Rattle.units.specs.declared.Ticks.{Ticks}
use Rattle.ssp.specs.declared.Booked.{Booked}
use Rattle.ssp.specs.declared.Advanced.{Advanced}
use Rattle.ssp.specs.declared.Closed.{Closed}
use Rattle.ssp.specs.declared.Read.{Read}
use Rattle.ssp.specs.declared.Written.{Written}
use Rattle.ssp.specs.declared.Sums.{Sums}
use Rattle.ssp.specs.declared.Raised.{Raised}

-- SSP_INTERFACE of include/ssp.h, which rises with each landing that changes a struct or a function
abbrev pub interface_number : ℕ
interface_number = 7

abbrev pub details_of : ℕ → ℕ → ℕ → ℕ → ℕ → ℕ → Details
details_of class plant power year month island =
    record { class = class; plant = plant; power = power; year = year; month = month; island = island }

abbrev pub position_of : ℕ → ℕ → Position
position_of month place = record { month = month; place = place }

abbrev pub flat_booked : ℕ → ℕ → Booked
flat_booked refusal named = record { refusal = refusal; «record» = named }

abbrev pub flat_advanced : ℕ → ℕ → Ticks → Advanced
flat_advanced refusal named paid = record { refusal = refusal; «record» = named; ticks = paid.0 }

unfoldable pub flat_closed : ℕ → ℕ → Position → ClosingSums → Closed
flat_closed refusal named position s =
    record {
      refusal = refusal;
      «record» = named;
      month = position.month;
      place = position.place;
      value = s.value.0;
      cost = s.cost.0;
      flat_rate = s.flat_rate.0;
      contribution = s.contribution.0;
      liquidation = s.liquidation.0;
      lapsed = s.lapsed.0;
      balance = s.balance.0;
    }

unfoldable pub flat_sums : ℕ → ℕ → statements.Sums → Sums
flat_sums refusal named s =
    record {
      refusal = refusal;
      «record» = named;
      open_year = s.open_year;
      credit = s.credit.0;
      value = s.value.0;
      cost = s.cost.0;
      flat_rate = s.flat_rate.0;
      contribution = s.contribution.0;
      liquidation = s.liquidation.0;
      lapsed = s.lapsed.0;
      balance = s.balance.0;
      advances = s.advances.0;
      closed_advances = s.closed_advances.0;
    }

-- December's rest of each band, zeros after a refusal
unfoldable pub flat_raised : Result (List ℕ) Refusal → Raised
flat_raised r =
    record {
      refusal = refusal_in r;
      month = (position_in r).month;
      place = (position_in r).place;
      rest1 = get_or (result_unwrap_or r []) 0 0;
      rest2 = get_or (result_unwrap_or r []) 1 0;
      rest3 = get_or (result_unwrap_or r []) 2 0;
    }

abbrev pub flat_read : Answer → Read
flat_read r = record { refusal = refusal_in r; line = line_in r; month = (position_in r).month; place = (position_in r).place }

abbrev pub flat_written : Result ℕ Refusal → Written
flat_written w =
    record { refusal = refusal_in w; length = result_unwrap_or w 0; month = (position_in w).month; place = (position_in w).place }
