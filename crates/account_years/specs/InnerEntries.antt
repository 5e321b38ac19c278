-- What an entry is and pays, where it is read.
use Rattle.std.specs.Prelude.{ℕ, ◌+◌, ◌^◌, ◌<◌, ◌≤◌, cond, eqb, Option, Some, None, ⊤}
use Rattle.units.specs.Limits.{max_year_ticks}
use Rattle.book_records.specs.declared.ClosingRecord.{ClosingRecord}
use Rattle.book_rules.specs.Book.{within}
use Rattle.chain_reader.specs.declared.Entry.{Entry}
use Rattle.chain_reader.specs.declared.Entry.TheVariants.{Advance, Closing}
use Rattle.account_years.specs.declared.Payments.{Payments}
use Rattle.account_years.specs.History.{by_advance, by_closing, payments_are}

-- the closing that an entry is, if it is that of a year
unfoldable pub closing_in_year : ℕ → Entry → Option ClosingRecord
closing_in_year year (Closing c) = cond (eqb c.year year) (Some c) None
closing_in_year year (Advance a) = None

-- what an entry pays, if its year is one of those from `first` to `last`
unfoldable pub entry_payments : ℕ → ℕ → Entry → Payments
entry_payments first last (Advance a) = cond (within first last a.year) (by_advance a) (payments_are 0 0 0)
entry_payments first last (Closing c) = cond (within first last c.year) (by_closing c) (payments_are 0 0 0)

-- a closing whose amounts are within their ranges
abbrev pub AmountsFit : ClosingRecord → Type 0
AmountsFit c = (c.sums.value.0 ≤ max_year_ticks) × (c.sums.liquidation.0 ≤ max_year_ticks)

abbrev pub EntryFits : Entry → Type 0
EntryFits (Closing c) = AmountsFit c
EntryFits (Advance a) = ⊤

-- payments with those of one entry more
unfoldable pub payments_added : Payments → Payments → Payments
payments_added part p = payments_are (p.advances.0 + part.advances.0) (p.withheld.0 + part.withheld.0) (p.paid.0 + part.paid.0)

pub record PaymentsRoom (part p : Payments) : Type 0 where
  pub advances : p.advances.0 + part.advances.0 < 2 ^ 64
  pub withheld : p.withheld.0 + part.withheld.0 < 2 ^ 64
  pub paid : p.paid.0 + part.paid.0 < 2 ^ 64
