-- A run's amount, and its entry in the book.
use Prim.Native.Nat.{ℕ, ◌≤◌}
use mathlib.Core.Path.{◌≡◌}
use mathlib.Core.Bool.{true, cond}
use mathlib.Core.List.{List}
use borrow.Author.Tests.{leb-true}
use lib.Dec.{eqb}
use Rattle.units.proofs.Bools.{cond-capped}
use Rattle.units.specs.declared.RecordIndex.{RecordIndex}
use Rattle.units.specs.declared.Ticks.{Ticks}
use Rattle.units.specs.Units.{record_index, ticks}
use Rattle.units.specs.Limits.{max_price, max_half_kwh}
use Rattle.calendar.specs.declared.Halves.{Halves}
use Rattle.calendar.specs.ElectionAndAdvances.{halves_paid, amount_of}
use Rattle.account_steps.specs.declared.Account.{Account}
use Rattle.account_steps.specs.Account.{account_advanced}
use Rattle.account_steps.specs.Charges.{withheld_from, account_withheld}
use Rattle.account_steps.proofs.Charges.{withheld-rest}
use Rattle.book_records.specs.Records.{advance_image}
use Rattle.book_rules.specs.Book.{halves_fit, first_entry_of}
use Rattle.book_records.specs.Entries.{entry_image}
use Rattle.call_rules.specs.Changes.{with_entry, applied, booked_in, run_amount}
use Rattle.call_rules.specs.Refusals.{order_fits}
use Rattle.call_keeps.proofs.Ranges.{conjuncts}
use Rattle.call_advance.specs.Advances.{run_booked}

module _ (a : Account) (p e₁ e₂ : ℕ) where
  -- "the last closed year's half, or .. that half's estimate if no year is closed"
  abbrev pub paid_for : ℕ → ℕ → ℕ
  paid_for estimate half = cond (eqb a.open_year a.details.year) estimate half

  pub run-within : halves_fit a ≡ true → order_fits p e₁ e₂ ≡ true → (first second : ℕ) → first ≡ paid_for e₁ a.half1.0 → second ≡ paid_for e₂ a.half2.0
      → (p ≤ max_price) × ((first ≤ max_half_kwh) × (second ≤ max_half_kwh))
  unfolding halves_fit order_fits
  run-within halves order first second f s =
      let none = eqb a.open_year a.details.year in
      let price : p ≤ max_price = search (conjuncts, leb-true) in
      let estimate1 : e₁ ≤ max_half_kwh = search (conjuncts, leb-true) in
      let estimate2 : e₂ ≤ max_half_kwh = search (conjuncts, leb-true) in
      let half1 : a.half1.0 ≤ max_half_kwh = search (conjuncts, leb-true) in
      let half2 : a.half2.0 ≤ max_half_kwh = search (conjuncts, leb-true) in
      (price, (rw f (cond-capped none estimate1 half1), rw s (cond-capped none estimate2 half2)))

  pub run-paid : (year run first second : ℕ) → first ≡ paid_for e₁ a.half1.0 → second ≡ paid_for e₂ a.half2.0 → (h : Halves)
      → h ≡ halves_paid a.details.year a.details.month year run → (paid : Ticks) → paid ≡ ticks (amount_of h p first second)
      → paid ≡ ticks (run_amount a year run p e₁ e₂)
  unfolding run_amount
  run-paid year run first second f s h e paid amount = rw (amount, e, f, s)

-- what is withheld is within the rest, which the run leaves
pub within-rest : (a : Account) (year run : ℕ) (paid withheld : Ticks) → withheld ≡ ticks (withheld_from a.charge.rest.0 paid.0) → (next : Account)
    → next ≡ account_advanced year run paid.0 a → withheld.0 ≤ next.charge.rest.0
unfolding account_advanced
within-rest a year run paid withheld h next n = rw (h, n) (withheld-rest a.charge.rest.0 paid.0)

pub run-booked : (b : List ℕ) (user : RecordIndex) (a : Account) (year run : ℕ) (paid withheld : Ticks) → withheld ≡ ticks (withheld_from a.charge.rest.0 paid.0)
    → (first : RecordIndex) → first ≡ record_index (first_entry_of b user.0) → (booked : ℕ) → booked ≡ booked_in a year → (entry : List ℕ)
    → entry ≡ advance_image (record { next = first; run = run; year = year; ticks = paid; owner = user; booked = booked; withheld = withheld }) → (next : Account)
    → next ≡ account_advanced year run paid.0 a → (last : Account) → last ≡ account_withheld withheld.0 next → (after : List ℕ)
    → after ≡ with_entry user.0 last entry b → after ≡ applied user.0 (run_booked a year run paid.0) b
unfolding applied entry_image run_booked
run-booked b user a year run paid withheld h first f booked k entry e next n last l after w = rw (w, l, n, e, f, k, h)
