-- A closing's entry in the book.
use Prim.Native.Nat.{ℕ, ◌≤◌}
use mathlib.Core.Path.{◌≡◌, ap, ◌∙◌}
use mathlib.Core.List.{List}
use Rattle.units.specs.declared.RecordIndex.{RecordIndex}
use Rattle.units.specs.declared.Ticks.{Ticks}
use Rattle.units.specs.Units.{record_index, ticks}
use Rattle.sheet_values.specs.declared.YearValues.{YearValues}
use Rattle.account_steps.specs.declared.Account.{Account}
use Rattle.account_steps.specs.declared.Closed.{Closed}
use Rattle.account_steps.specs.declared.Settlement.{Settlement}
use Rattle.account_steps.specs.Account.{liquidation_in, lapsed_in, settlement_of, account_closed, closed_of, settled}
use Rattle.account_steps.specs.Closing.{balance_of}
use Rattle.account_steps.specs.Charges.{withheld_at_closing, closing_withheld, account_withheld}
use Rattle.account_steps.proofs.Charges.{closing-rest}
use Rattle.account_steps.proofs.Outcomes.{outcome-liquidation, outcome-lapsed}
use Rattle.account_steps.specs.declared.ClosingSums.{ClosingSums}
use Rattle.book_records.specs.Records.{closing_image}
use Rattle.book_records.specs.Entries.{entry_image}
use Rattle.book_rules.specs.Book.{first_entry_of}
use Rattle.call_rules.specs.Changes.{with_entry, applied}
use Rattle.call_close.specs.Closings.{year_booked}

-- the sums made of a settlement
pub sums-are : (a : Account) (v : YearValues) (s : Settlement) → s ≡ (closed_of v a).settlement → (paidOut lapsed : Ticks) → paidOut.0 ≡ liquidation_in s.outcome
    → lapsed.0 ≡ lapsed_in s.outcome
    → record {
      value = v.value;
      cost = v.cost;
      flat_rate = v.flat_rate;
      contribution = s.contribution;
      liquidation = paidOut;
      lapsed = lapsed;
      balance = s.balance;
    }
    ≡ settled a v
unfolding settled closed_of settlement_of
sums-are a v s e paidOut lapsed p l =
    let option = a.option in
    let k = a.credit.0 in
    let out = ap ticks (p ∙ ap (λ x. liquidation_in x.outcome) e ∙ outcome-liquidation option k v.value.0 v.cost.0) in
    let gone = ap ticks (l ∙ ap (λ x. lapsed_in x.outcome) e ∙ outcome-lapsed option k v.value.0 v.cost.0) in
    rw (out, gone, e)

-- what is withheld, from the sums; it is within the rest, which the closing leaves
pub withheld-is : (a : Account) (v : YearValues) (sums : ClosingSums) → sums ≡ settled a v → (withheld : Ticks)
    → withheld ≡ ticks (withheld_at_closing a.charge.rest.0 (balance_of sums.contribution.0 a.advances.0) sums.liquidation.0) → withheld ≡ ticks (closing_withheld a v)
unfolding settled closing_withheld
withheld-is a v sums is withheld h = h ∙ rw is

pub within-rest : (a : Account) (v : YearValues) (withheld : Ticks) → withheld ≡ ticks (closing_withheld a v) → (after : Closed) → after ≡ closed_of v a
    → withheld.0 ≤ after.account.charge.rest.0
unfolding closed_of account_closed closing_withheld
within-rest a v withheld h after e = rw (h, e) (closing-rest a.charge.rest.0 _ _)

-- the entry in the book
pub year-booked : (user : RecordIndex) (a : Account) (v : YearValues) (b : List ℕ) (first : RecordIndex) → first ≡ record_index (first_entry_of b user.0) → (after : Closed)
    → after ≡ closed_of v a → (sums : ClosingSums) → sums ≡ settled a v → (withheld : Ticks) → withheld ≡ ticks (closing_withheld a v) → (image : List ℕ)
    → image ≡ closing_image (record { next = first; option = a.option; year = a.open_year; sums = sums; owner = user; withheld = withheld }) → (last : Account)
    → last ≡ account_withheld withheld.0 after.account → (b' : List ℕ) → b' ≡ with_entry user.0 last image b → b' ≡ applied user.0 (year_booked a v) b
unfolding applied entry_image closed_of year_booked
year-booked user a v b first f after e sums is withheld h image g last l b' w = rw (w, l, g, is, e, f, h)
