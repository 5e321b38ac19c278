-- A user's account year by year, from its chain.
use Rattle.std.specs.Prelude.{ℕ, zero, suc, ◌+◌, ◌-◌, ◌*◌, Bool, cond, ◌&&◌, List, [], ◌∷◌, eqb, Option, Some, None}
use Rattle.std.specs.Option.{unwrap_or}
use Rattle.units.specs.declared.Ticks.{Ticks}
use Rattle.units.specs.Units.{ticks}
use Rattle.account_steps.specs.Closing.{credit_after}
use Rattle.account_steps.specs.Charges.{charge_of}
use Rattle.book_layout.specs.Fields.{record_at}
use Rattle.book_records.specs.declared.AdvanceRecord.{AdvanceRecord}
use Rattle.book_records.specs.declared.ClosingRecord.{ClosingRecord}
use Rattle.book_records.specs.Records.{advance_in, closing_in}
use Rattle.book_rules.specs.Book.{within, is_advance, is_closing, paid_balance, level_of, activation_of, account_at}
use Rattle.book_rules.specs.Chains.{entries_of}
use Rattle.chains.specs.Statements.{sum_over}
use Rattle.account_years.specs.declared.Payments.{Payments}
use Rattle.account_years.specs.declared.Charges.{Charges}
use Rattle.account_years.specs.declared.Year.{Year}

-- the closing of a year among these entries, if there is one; and in the chain of the user i
unfoldable pub is_closing_of : List ℕ → ℕ → ℕ → Bool
is_closing_of b year e = is_closing b e && eqb (level_of b e) year

unfoldable pub closing_among : List ℕ → ℕ → List ℕ → Option ClosingRecord
closing_among b year [] = None
closing_among b year (e ∷ es) = cond (is_closing_of b year e) (Some (closing_in (record_at b e))) (closing_among b year es)

unfoldable pub closing_of : List ℕ → ℕ → ℕ → Option ClosingRecord
closing_of b i year = closing_among b year (entries_of b i)

-- WHAT ENTRIES PAY: "Each entry keeps its withheld ticks" (ticket 1), and "every answer, are counted before withholding". An advance
-- pays its ticks, a closing its balance, if that is positive, and its liquidation; what is paid out is that less what is withheld.
abbrev pub payments_are : ℕ → ℕ → ℕ → Payments
payments_are advances withheld paid = record { advances = ticks advances; withheld = ticks withheld; paid = ticks paid }

unfoldable pub by_advance : AdvanceRecord → Payments
by_advance a = payments_are a.ticks.0 a.withheld.0 (a.ticks.0 - a.withheld.0)

unfoldable pub by_closing : ClosingRecord → Payments
by_closing c = payments_are 0 c.withheld.0 (paid_balance c.sums.balance.0 + c.sums.liquidation.0 - c.withheld.0)

-- .. those of an entry, if its year is one of those from `first` to `last`
unfoldable pub payments_by : List ℕ → ℕ → ℕ → ℕ → Payments
payments_by b first last e =
    cond (is_advance b e && within first last (advance_in (record_at b e)).year) (by_advance (advance_in (record_at b e)))
    (cond (is_closing b e && within first last (closing_in (record_at b e)).year) (by_closing (closing_in (record_at b e)))
    (payments_are 0 0 0))

-- .. and of all entries of the user i
unfoldable pub payments_of : List ℕ → ℕ → ℕ → ℕ → Payments
payments_of b i first last =
    payments_are (sum_over (λ e. (payments_by b first last e).advances.0) (entries_of b i))
    (sum_over (λ e. (payments_by b first last e).withheld.0) (entries_of b i))
    (sum_over (λ e. (payments_by b first last e).paid.0) (entries_of b i))

-- WHAT IS CHARGED: "A user's charges made equal those withheld plus the rest" (ticket 1), and byte 28 tells whether the open year is
-- charged. Which closed years were is not kept: where none or all of them were, each was charged nothing or the yearly charge.
unfoldable pub charge_of_open : ℕ → ℕ → ℕ
charge_of_open made yearly = cond (eqb made 0) 0 yearly

unfoldable pub charge_of_each : ℕ → ℕ → ℕ → ℕ → Option Ticks
charge_of_each made ofOpen yearly closed =
    cond (eqb made ofOpen) (Some (ticks 0)) (cond (eqb made (ofOpen + yearly * closed)) (Some (ticks yearly)) None)

unfoldable pub charges_from : Ticks → Ticks → ℕ → ℕ → ℕ → Charges
charges_from withheld rest made yearly closed =
    record {
      made = ticks (withheld.0 + rest.0);
      withheld = withheld;
      rest = rest;
      «open» = ticks (charge_of_open made yearly);
      each = charge_of_each (withheld.0 + rest.0) (charge_of_open made yearly) yearly closed;
    }

-- over the entries of every year that their two bytes can name
unfoldable pub charges_of : List ℕ → ℕ → Charges
charges_of b i =
    charges_from (payments_of b i 0 65535).withheld (account_at b i).charge.rest (account_at b i).charge.made
    (charge_of (account_at b i).details.power)
    ((account_at b i).open_year - (account_at b i).details.year)

-- the closing of the year n years after the activation
unfoldable pub closing_after : List ℕ → ℕ → ℕ → Option ClosingRecord
closing_after b i n = closing_of b i (activation_of b i + n)

-- the credit after the first n years: "Closing" folded from zero over the chain's C, O and option
unfoldable pub credit_over : ClosingRecord → ℕ → ℕ
credit_over c k = credit_after c.option k c.sums.value.0 c.sums.cost.0

-- .. and what a year without a closing leaves
abbrev pub credit_then : Option ClosingRecord → ℕ → ℕ
credit_then None k = k
credit_then (Some c) k = credit_over c k

unfoldable pub credit_after_years : List ℕ → ℕ → ℕ → ℕ
credit_after_years b i zero = 0
credit_after_years b i (suc n) = credit_then (closing_after b i n) (credit_after_years b i n)

-- the year n years after the activation, from its closing; the head's bytes stand in the place of one that is not there
unfoldable pub year_of : ClosingRecord → ℕ → Payments → ℕ → Year
year_of c year payments credit =
    record {
      year = year;
      option = c.option;
      value = c.sums.value;
      cost = c.sums.cost;
      flat_rate = c.sums.flat_rate;
      contribution = c.sums.contribution;
      payments = payments;
      balance = c.sums.balance;
      liquidation = c.sums.liquidation;
      lapsed = c.sums.lapsed;
      credit = ticks credit;
    }

unfoldable pub closed_year : List ℕ → ℕ → ℕ → Year
closed_year b i n =
    year_of (unwrap_or (closing_after b i n) (closing_in (record_at b 0))) (activation_of b i + n)
    (payments_of b i (activation_of b i + n) (activation_of b i + n))
    (credit_after_years b i (n + 1))
