-- What the entries of a sound book pay: it fits its fields, and so do the sums over a chain.
use Prim.Native.Nat.{ℕ, ◌+◌, ◌*◌, ◌^◌, ◌≤◌, ◌<◌}
use mathlib.Core.Path.{◌≡◌, refl, ap}
use mathlib.Core.Bool.{Bool, true, false, cond, ◌&&◌}
use mathlib.Core.Logic.{⊎_elim}
use mathlib.Core.List.{List}
use native.Mathlib.Omega.{arith}
use borrow.Author.Tests.{leb-true}
use lib.Dec.{leb}
use Rattle.units.specs.Units.{ticks}
use Rattle.units.specs.Limits.{max_year_ticks, max_flat_rate, max_contribution}
use Rattle.units.proofs.Bools.{and_left, and_right}
use Rattle.book_layout.specs.Fields.{record_at, advance_kind, closing_kind}
use Rattle.book_records.specs.Records.{advance_in, closing_in}
use Rattle.book_rules.specs.Book.{length_fits, sound, within, span_of, is_user, is_entry, is_advance, is_closing, next_of, first_entry_of}
use Rattle.book_rules.specs.Book.{owner_of, account_at, year_fits, level_from, booked_fits, is_run}
use Rattle.book_rules.specs.Book.{advance_fits}
use Rattle.book_rules.specs.Book.{balance_fits, paid_balance, withheld_fits, closing_fits}
use Rattle.book_rules.specs.Chains.{entries_of}
use Rattle.book_rules.proofs.Faultless.{Faultless, sound-faultless}
use Rattle.book_rules.proofs.Faultless as book
use Rattle.book_rules.proofs.RecordKinds.{advance-entry, closing-entry, entry-cases, kinds-apart}
use Rattle.chains.specs.Statements.{sum_over}
use Rattle.chains.proofs.Ranges.{closing-ranges, advance-range}
use Rattle.chains.proofs.Fit.{entries-sum}
use Rattle.chains.proofs.Walks.{Ahead, begins, ahead-next}
use Rattle.account_years.specs.declared.Payments.{Payments}
use Rattle.account_years.specs.History.{payments_are, by_advance, by_closing, payments_by, payments_of}
use Rattle.call_keeps.proofs.Widths.{paid-capped}
use Rattle.account_years.specs.InnerEntries.{entry_payments, payments_added, PaymentsRoom}
use Rattle.chain_reader.specs.Entries.{entry_in}
use Rattle.chain_reader.proofs.Held.{closing_held, advance_held}
use Rattle.account_years.proofs.Walk.{Adding, add_begins, add_room, add_on, added, more}

-- the most that a closing pays
abbrev most_paid : ℕ
most_paid = max_contribution + max_year_ticks

record Few (p : Payments) : Type 0 where
  pub advances : p.advances.0 ≤ most_paid
  pub withheld : p.withheld.0 ≤ most_paid
  pub paid : p.paid.0 ≤ most_paid

module _ (b : List ℕ) (f : Faultless b) where
  advance-held : (e : ℕ) → is_advance b e ≡ true → (advance_in (record_at b e)).withheld.0 ≤ (advance_in (record_at b e)).ticks.0
  unfolding advance_fits
  advance-held e a =
      let owner = account_at b (owner_of b e) in
      let r = advance_in (record_at b e) in
      let amount = is_run r.run && leb r.ticks.0 max_year_ticks in
      let held = leb r.withheld.0 r.ticks.0 in
      let dated = year_fits owner (level_from r.year r.booked) && booked_fits r.year r.booked in
      leb-true r.withheld.0 r.ticks.0
      (and_right amount held (and_right dated (amount && held) (book.advance-ranges b e (f.entry e (advance-entry b e a)).own a)))

  closing-held : (e : ℕ) → is_closing b e ≡ true
      → (closing_in (record_at b e)).withheld.0 ≤ paid_balance (closing_in (record_at b e)).sums.balance.0 + (closing_in (record_at b e)).sums.liquidation.0
  unfolding closing_fits withheld_fits
  closing-held e is =
      let owner = account_at b (owner_of b e) in
      let c = closing_in (record_at b e) in
      let dated = year_fits owner c.year && leb c.option 1 in
      let near = (leb c.sums.value.0 max_year_ticks && leb c.sums.cost.0 max_year_ticks) && (leb c.sums.flat_rate.0 max_flat_rate && leb c.sums.contribution.0 max_contribution) in
      let far = leb c.sums.liquidation.0 max_year_ticks && leb c.sums.lapsed.0 (max_year_ticks * span_of owner c.year) in
      let money = balance_fits c.sums.balance.0 && withheld_fits c in
      leb-true c.withheld.0 (paid_balance c.sums.balance.0 + c.sums.liquidation.0)
      (and_right (balance_fits c.sums.balance.0) (withheld_fits c)
      (and_right far money (and_right near (far && money) (and_right dated (near && (far && money)) (book.closing-ranges b e (f.entry e (closing-entry b e is)).own is)))))

  by-advance-few : (e : ℕ) → is_advance b e ≡ true → Few (by_advance (advance_in (record_at b e)))
  unfolding by_advance
  by-advance-few e a =
      let ticks = advance-range b f e a in
      let held = advance-held e a in
      record { advances = omega arith; withheld = omega arith; paid = omega arith }

  by-closing-few : (e : ℕ) → is_closing b e ≡ true → Few (by_closing (closing_in (record_at b e)))
  unfolding by_closing
  by-closing-few e is =
      let liquidation = (closing-ranges b f e is).liquidation in
      let balance = paid-capped (closing_in (record_at b e)).sums.balance.0 in
      let held = closing-held e is in
      record { advances = omega arith; withheld = omega arith; paid = omega arith }

  none-few : Few (payments_are 0 0 0)
  none-few = record { advances = omega arith; withheld = omega arith; paid = omega arith }

  by-few : (first last e : ℕ) → Few (payments_by b first last e)
  unfolding payments_by
  by-few first last e = by-advance (is_advance b e && within first last (advance_in (record_at b e)).year) refl
    where
      by-closing : (t : Bool) → (is_closing b e && within first last (closing_in (record_at b e)).year) ≡ t
          → Few (cond t (by_closing (closing_in (record_at b e))) (payments_are 0 0 0))
      by-closing true h = by-closing-few e (and_left (is_closing b e) (within first last (closing_in (record_at b e)).year) h)
      by-closing false h = none-few

      by-advance : (t : Bool) → (is_advance b e && within first last (advance_in (record_at b e)).year) ≡ t
          → Few (cond t (by_advance (advance_in (record_at b e)))
          (cond (is_closing b e && within first last (closing_in (record_at b e)).year) (by_closing (closing_in (record_at b e))) (payments_are 0 0 0)))
      by-advance true h = by-advance-few e (and_left (is_advance b e) (within first last (advance_in (record_at b e)).year) h)
      by-advance false h = by-closing (is_closing b e && within first last (closing_in (record_at b e)).year) refl

-- THE WALK: three sums at once
abbrev advances_by : List ℕ → ℕ → ℕ → ℕ → ℕ
advances_by b first last e = (payments_by b first last e).advances.0

abbrev withheld_by : List ℕ → ℕ → ℕ → ℕ → ℕ
withheld_by b first last e = (payments_by b first last e).withheld.0

abbrev paid_by : List ℕ → ℕ → ℕ → ℕ → ℕ
paid_by b first last e = (payments_by b first last e).paid.0

pub record Paying (b : List ℕ) (i first last : ℕ) (p : Payments) (at : ℕ) : Type 0 where
  pub ahead : Ahead b at
  pub advances : Adding b i (advances_by b first last) p.advances.0 at
  pub withheld : Adding b i (withheld_by b first last) p.withheld.0 at
  pub paid : Adding b i (paid_by b first last) p.paid.0 at

module _ (b : List ℕ) (i first last : ℕ) (long : length_fits b ≡ true) (good : sound b ≡ true) (user : is_user b i ≡ true) where
  sum_small : (g : ℕ → ℕ) → ((e : ℕ) → g e ≤ most_paid) → sum_over g (entries_of b i) < 2 ^ 63
  sum_small g most = omega (arith, entries-sum b (sound-faultless b long good) i user long g most_paid most)

  pub withheld-small : (payments_of b i first last).withheld.0 < 2 ^ 63
  unfolding payments_of
  withheld-small = sum_small (withheld_by b first last) (λ e. (by-few b (sound-faultless b long good) first last e).withheld)

  pub pay_begins : Paying b i first last (payments_are 0 0 0) (first_entry_of b i)
  pay_begins =
      let few = by-few b (sound-faultless b long good) first last in
      record {
        ahead = begins b i long good user;
        advances = add_begins b i (advances_by b first last) (sum_small (advances_by b first last) (λ k. (few k).advances));
        withheld = add_begins b i (withheld_by b first last) (sum_small (withheld_by b first last) (λ k. (few k).withheld));
        paid = add_begins b i (paid_by b first last) (sum_small (paid_by b first last) (λ k. (few k).paid));
      }

module _ (b : List ℕ) (i first last : ℕ) (p : Payments) (at : ℕ) (s : Paying b i first last p at) (entry : is_entry b at ≡ true) where
  abbrev part : Payments
  part = entry_payments first last (entry_in (record_at b at))

  by_entry : part ≡ payments_by b first last at
  unfolding entry_payments payments_by
  by_entry =
      ⊎_elim (λ (a : is_advance b at ≡ true). rw (advance_held b at a, a, kinds-apart b advance_kind closing_kind at (λ q. omega arith) a))
      (λ (c : is_closing b at ≡ true). rw (closing_held b at c, c, kinds-apart b closing_kind advance_kind at (λ q. omega arith) c))
      (entry-cases b at entry)

  pub pay_room : PaymentsRoom part p
  pay_room =
      record {
        advances = add_room b i (advances_by b first last) p.advances.0 at part.advances.0 s.ahead entry s.advances (ap (λ x. x.advances.0) by_entry);
        withheld = add_room b i (withheld_by b first last) p.withheld.0 at part.withheld.0 s.ahead entry s.withheld (ap (λ x. x.withheld.0) by_entry);
        paid = add_room b i (paid_by b first last) p.paid.0 at part.paid.0 s.ahead entry s.paid (ap (λ x. x.paid.0) by_entry);
      }

  pub pay_on : Paying b i first last (payments_added part p) (next_of b at)
  unfolding payments_added
  pay_on =
      record {
        ahead = ahead-next b at s.ahead (more b at entry);
        advances = add_on b i (advances_by b first last) p.advances.0 at part.advances.0 s.ahead entry s.advances (ap (λ x. x.advances.0) by_entry);
        withheld = add_on b i (withheld_by b first last) p.withheld.0 at part.withheld.0 s.ahead entry s.withheld (ap (λ x. x.withheld.0) by_entry);
        paid = add_on b i (paid_by b first last) p.paid.0 at part.paid.0 s.ahead entry s.paid (ap (λ x. x.paid.0) by_entry);
      }

pub paid_all : (b : List ℕ) (i first last : ℕ) (p : Payments) (at : ℕ) → Paying b i first last p at → at ≡ 0 → p ≡ payments_of b i first last
unfolding payments_of
paid_all b i first last p at s end =
    λ k.
    record {
      advances = ticks (added b i (advances_by b first last) p.advances.0 at s.advances end k);
      withheld = ticks (added b i (withheld_by b first last) p.withheld.0 at s.withheld end k);
      paid = ticks (added b i (paid_by b first last) p.paid.0 at s.paid end k);
    }
