-- A statement as the program holds it, and the steps of the walk that sums it ("Election and advances").
use Rattle.std.specs.Prelude.{◌+◌, ◌^◌, ◌<◌, cond, pos, ◌+ℤ◌, nat_lt, FitsSigned}
use Rattle.std.specs.Int.{w64}
use Rattle.units.specs.Units.{ticks}
use Rattle.account_steps.specs.declared.Account.{Account}
use Rattle.account_steps.specs.Account.{balance}
use Rattle.book_records.specs.declared.AdvanceRecord.{AdvanceRecord}
use Rattle.account_steps.specs.declared.ClosingSums.{ClosingSums}
use Rattle.chain_reader.specs.declared.Entry.{Entry}
use Rattle.chain_reader.specs.declared.Entry.TheVariants.{Advance, Closing}
use Rattle.ledger.specs.Ledger.{Statement}
use Rattle.statements.specs.declared.Sums.{Sums}

unfoldable pub sums_of : Statement → Sums
sums_of s =
    record {
      open_year = s.open_year;
      credit = ticks s.credit;
      value = ticks s.value;
      cost = ticks s.cost;
      flat_rate = ticks s.flat_rate;
      contribution = ticks s.contribution;
      liquidation = ticks s.liquidation;
      lapsed = ticks s.lapsed;
      balance = balance s.balance;
      advances = ticks s.advances;
      closed_advances = ticks s.closed_advances;
    }

-- the statement that answered sums are
unfoldable pub statement_in : Sums → Statement
statement_in s =
    record {
      open_year = s.open_year;
      credit = s.credit.0;
      value = s.value.0;
      cost = s.cost.0;
      flat_rate = s.flat_rate.0;
      contribution = s.contribution.0;
      liquidation = s.liquidation.0;
      lapsed = s.lapsed.0;
      balance = s.balance.0;
      advances = s.advances.0;
      closed_advances = s.closed_advances.0;
    }

unfoldable pub sums_before : Account → Sums
sums_before a =
    record {
      open_year = a.open_year;
      credit = a.credit;
      value = ticks 0;
      cost = ticks 0;
      flat_rate = ticks 0;
      contribution = ticks 0;
      liquidation = ticks 0;
      lapsed = ticks 0;
      balance = balance (pos 0);
      advances = ticks 0;
      closed_advances = ticks 0;
    }

unfoldable pub closing_added : ClosingSums → Sums → Sums
closing_added c s =
    record {
      open_year = s.open_year;
      credit = s.credit;
      value = ticks (s.value.0 + c.value.0);
      cost = ticks (s.cost.0 + c.cost.0);
      flat_rate = ticks (s.flat_rate.0 + c.flat_rate.0);
      contribution = ticks (s.contribution.0 + c.contribution.0);
      liquidation = ticks (s.liquidation.0 + c.liquidation.0);
      lapsed = ticks (s.lapsed.0 + c.lapsed.0);
      balance = balance (s.balance.0 +ℤ c.balance.0);
      advances = s.advances;
      closed_advances = s.closed_advances;
    }

-- "all advances, advances of closed years": a year below the open one is closed
unfoldable pub advance_added : AdvanceRecord → Sums → Sums
advance_added a s =
    record {
      open_year = s.open_year;
      credit = s.credit;
      value = s.value;
      cost = s.cost;
      flat_rate = s.flat_rate;
      contribution = s.contribution;
      liquidation = s.liquidation;
      lapsed = s.lapsed;
      balance = s.balance;
      advances = ticks (s.advances.0 + a.ticks.0);
      closed_advances = ticks (s.closed_advances.0 + cond (nat_lt a.year s.open_year) a.ticks.0 0);
    }

unfoldable pub entry_added : Entry → Sums → Sums
entry_added (Closing c) s = closing_added c.sums s
entry_added (Advance a) s = advance_added a s

-- sums that hold one entry more
pub record ClosingRoom (c : ClosingSums) (s : Sums) : Type 0 where
  pub value : s.value.0 + c.value.0 < 2 ^ 64
  pub cost : s.cost.0 + c.cost.0 < 2 ^ 64
  pub flat_rate : s.flat_rate.0 + c.flat_rate.0 < 2 ^ 64
  pub contribution : s.contribution.0 + c.contribution.0 < 2 ^ 64
  pub liquidation : s.liquidation.0 + c.liquidation.0 < 2 ^ 64
  pub lapsed : s.lapsed.0 + c.lapsed.0 < 2 ^ 64
  pub balance : FitsSigned w64 (s.balance.0 +ℤ c.balance.0)

pub record AdvanceRoom (a : AdvanceRecord) (s : Sums) : Type 0 where
  pub advances : s.advances.0 + a.ticks.0 < 2 ^ 64
  pub closed_advances : s.closed_advances.0 + a.ticks.0 < 2 ^ 64

abbrev pub EntryRoom : Entry → Sums → Type 0
EntryRoom (Closing c) s = ClosingRoom c.sums s
EntryRoom (Advance a) s = AdvanceRoom a s
