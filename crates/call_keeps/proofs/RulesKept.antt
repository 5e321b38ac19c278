-- The rules of a record that stood in the book hold after a booking, by the frame alone: links, order, and the ranges of an
-- entry against its owner, whose activation stays and whose open year does not fall.
use Prim.Native.Nat.{ℕ, ◌+◌, ◌-◌, ◌*◌, ◌≤◌}
use mathlib.Core.Path.{◌≡◌, sym, ap, subst, ◌∙◌}
use mathlib.Core.Bool.{Bool, true, false, cond, ◌&&◌, ◌||◌}
use mathlib.Core.List.{List}
use native.Mathlib.Omega.{arith}
use borrow.Author.Tests.{leb-true, le-leb}
use lib.Dec.{eqb, ltb, leb}
use Rattle.units.specs.Limits.{max_year_ticks, max_flat_rate, max_contribution}
use Rattle.units.proofs.Bools.{and_left, and_right, and_both}
use Rattle.account_steps.specs.declared.Account.{Account}
use Rattle.book_layout.specs.Fields.{get, kind_field, record_at, user_kind, advance_kind, closing_kind}
use Rattle.book_records.specs.declared.AdvanceRecord.{AdvanceRecord}
use Rattle.book_records.specs.declared.ClosingRecord.{ClosingRecord}
use Rattle.book_records.specs.Records.{account_in, advance_in, closing_in}
use Rattle.book_rules.specs.Book.{is_user, is_advance, is_closing, is_entry, next_of, first_entry_of, owner_of, account_at, activation_of, open_year_of, level_of, year_fits, is_run, level_from}
use Rattle.book_rules.specs.Book.{booked_fits}
use Rattle.book_rules.specs.Book.{advance_fits, balance_fits, withheld_fits, closing_fits, entry_ranges, user_next_fits, number_is_new, first_entry_fits, entry_next_fits, owner_fits, in_order}
use Rattle.book_rules.specs.Book.{first_in_order}
use Rattle.book_rules.specs.Book.{next_in_order}
use Rattle.book_rules.proofs.RecordKinds.{kind-index, user-index, advance-entry, closing-entry, entry-index}
use Rattle.book_rules.proofs.Faultless.{owner-before}
use Rattle.call_keeps.proofs.Bools.{or-stays, and-stays, cond-stays}
use Rattle.call_keeps.proofs.Ranges.{conjuncts}
use Rattle.call_keeps.proofs.Frame.{Frame}
use Rattle.call_keeps.proofs.KindsKept.{kind-same, kind-stays, entry-stays, owner-same, level-same, activation-same}
use Rattle.call_keeps.proofs.Numbers.{new_apart, apart-new}

-- the ranges of an entry, against its owner later
year-later : (o p : Account) (year : ℕ) → p.details.year ≡ o.details.year → o.open_year ≤ p.open_year → year_fits o year ≡ true → year_fits p year ≡ true
unfolding year_fits
year-later o p year same later h =
    let from : o.details.year ≤ year = search (conjuncts, leb-true) in
    let to : year ≤ o.open_year = search (conjuncts, leb-true) in
    and_both (le-leb p.details.year year (omega arith)) (le-leb year p.open_year (omega arith))

advance-later : (o p : Account) (a : AdvanceRecord) → p.details.year ≡ o.details.year → o.open_year ≤ p.open_year
    → advance_fits o a ≡ true → advance_fits p a ≡ true
unfolding advance_fits
advance-later o p a same later h =
    let level = level_from a.year a.booked in
    let noted = booked_fits a.year a.booked in
    and-stays (year_fits o level && noted) ((is_run a.run && leb a.ticks.0 max_year_ticks) && leb a.withheld.0 a.ticks.0)
    (and-stays (year_fits o level) noted (year-later o p level same later) (λ e. e)) (λ e. e) h

-- the ranges of a closing's sums, by its owner's activation
abbrev sums_fit : ℕ → ClosingRecord → Bool
sums_fit activation c =
    ((leb c.sums.value.0 max_year_ticks && leb c.sums.cost.0 max_year_ticks) && (leb c.sums.flat_rate.0 max_flat_rate && leb c.sums.contribution.0 max_contribution))
    && ((leb c.sums.liquidation.0 max_year_ticks && leb c.sums.lapsed.0 (max_year_ticks * (c.year - activation))) && (balance_fits c.sums.balance.0 && withheld_fits c))

closing-later : (o p : Account) (c : ClosingRecord) → p.details.year ≡ o.details.year → o.open_year ≤ p.open_year
    → closing_fits o c ≡ true → closing_fits p c ≡ true
unfolding closing_fits
closing-later o p c same later h =
    and-stays (year_fits o c.year && leb c.option 1) (sums_fit o.details.year c)
    (and-stays (year_fits o c.year) (leb c.option 1) (year-later o p c.year same later) (λ e. e))
    (subst (λ y. sums_fit y c ≡ true) (sym same)) h

ranges-later : (o p : Account) (r : List ℕ) → p.details.year ≡ o.details.year → o.open_year ≤ p.open_year → entry_ranges o r ≡ true → entry_ranges p r ≡ true
unfolding entry_ranges
ranges-later o p r same later =
    cond-stays (eqb (get kind_field r) advance_kind) (advance-later o p (advance_in r) same later)
    (cond-stays (eqb (get kind_field r) closing_kind) (closing-later o p (closing_in r) same later) (λ e. e))

module _ (b b' : List ℕ) (i : ℕ) (f : Frame b b' i) where
  -- links of a user
  pub user-next-kept : (j : ℕ) → is_user b j ≡ true → user_next_fits b j ≡ true → user_next_fits b' j ≡ true
  unfolding user_next_fits
  user-next-kept j h =
      let place = user-index b j h in
      rw (f.next j place.0 place.1)
      (or-stays (eqb (next_of b j) 0) (is_user b (next_of b j) && ltb (next_of b j) j) (λ e. e)
      (and-stays (is_user b (next_of b j)) (ltb (next_of b j) j) (kind-stays b b' i f user_kind (next_of b j)) (λ e. e)))

  pub number-kept : (j : ℕ) → is_user b j ≡ true → number_is_new b j ≡ true → number_is_new b' j ≡ true
  number-kept j h new =
      apart-new b' j
      (λ k l u e.
      let before : is_user b k ≡ true = sym (kind-same b b' i f user_kind k (omega (arith, (kind-index b user_kind j h).1.0))) ∙ u in
      new_apart b j new k l before (sym (f.number k before) ∙ e ∙ f.number j h))

  pub first-entry-kept : (j : ℕ) → first_entry_of b' j ≡ first_entry_of b j → first_entry_fits b j ≡ true → first_entry_fits b' j ≡ true
  unfolding first_entry_fits
  first-entry-kept j same = rw same (or-stays (eqb (first_entry_of b j) 0) (is_entry b (first_entry_of b j) && eqb (owner_of b (first_entry_of b j)) j) (λ e. e) owned)
    where
      owned : (is_entry b (first_entry_of b j) && eqb (owner_of b (first_entry_of b j)) j) ≡ true → (is_entry b' (first_entry_of b j) && eqb (owner_of b' (first_entry_of b j)) j) ≡ true
      owned h =
          let entry = and_left (is_entry b (first_entry_of b j)) (eqb (owner_of b (first_entry_of b j)) j) h in
          and_both (entry-stays b b' i f (first_entry_of b j) entry)
          (ap (λ (k : ℕ). eqb k j) (owner-same b b' i f (first_entry_of b j) entry) ∙ and_right (is_entry b (first_entry_of b j)) (eqb (owner_of b (first_entry_of b j)) j) h)

  -- the order of a chain
  pub order-kept : (activation y e : ℕ) → in_order b activation y e ≡ true → in_order b' activation y e ≡ true
  unfolding in_order
  order-kept activation y e = by_end (eqb e 0)
    where
      advance : (is_advance b e && eqb (level_of b e) y) ≡ true → (is_advance b' e && eqb (level_of b' e) y) ≡ true
      advance h =
          let entry = and_left (is_advance b e) (eqb (level_of b e) y) h in
          and_both (kind-stays b b' i f advance_kind e entry)
          (ap (λ (k : ℕ). eqb k y) (level-same b b' i f e (advance-entry b e entry)) ∙ and_right (is_advance b e) (eqb (level_of b e) y) h)

      closing : (is_closing b e && eqb (level_of b e + 1) y) ≡ true → (is_closing b' e && eqb (level_of b' e + 1) y) ≡ true
      closing h =
          let entry = and_left (is_closing b e) (eqb (level_of b e + 1) y) h in
          and_both (kind-stays b b' i f closing_kind e entry)
          (ap (λ (k : ℕ). eqb (k + 1) y) (level-same b b' i f e (closing-entry b e entry)) ∙ and_right (is_closing b e) (eqb (level_of b e + 1) y) h)

      by_end : (t : Bool) → cond t (eqb y activation) ((is_advance b e && eqb (level_of b e) y) || (is_closing b e && eqb (level_of b e + 1) y)) ≡ true
          → cond t (eqb y activation) ((is_advance b' e && eqb (level_of b' e) y) || (is_closing b' e && eqb (level_of b' e + 1) y)) ≡ true
      by_end true h = h
      by_end false h = or-stays (is_advance b e && eqb (level_of b e) y) (is_closing b e && eqb (level_of b e + 1) y) advance closing h

  pub first-order-kept : (j : ℕ) → is_user b j ≡ true → first_entry_of b' j ≡ first_entry_of b j → open_year_of b' j ≡ open_year_of b j
      → first_in_order b j ≡ true → first_in_order b' j ≡ true
  unfolding first_in_order
  first-order-kept j u first year h =
      rw (first, year, activation-same b b' i f j u) (order-kept (activation_of b j) (open_year_of b j) (first_entry_of b j) h)

  -- links of an entry
  pub owner-kept : (j : ℕ) → is_entry b j ≡ true → owner_fits b j ≡ true → owner_fits b' j ≡ true
  unfolding owner_fits
  owner-kept j e =
      rw (owner-same b b' i f j e)
      (and-stays (is_user b (owner_of b j)) (ltb (owner_of b j) j) (kind-stays b b' i f user_kind (owner_of b j)) (λ t. t))

  pub entry-next-kept : (j : ℕ) → is_entry b j ≡ true → entry_next_fits b j ≡ true → entry_next_fits b' j ≡ true
  unfolding entry_next_fits
  entry-next-kept j e =
      let place = entry-index b j e in
      rw (f.next j place.0 place.1, owner-same b b' i f j e)
      (or-stays (eqb (next_of b j) 0) ((is_entry b (next_of b j) && eqb (owner_of b (next_of b j)) (owner_of b j)) && ltb (next_of b j) j) (λ t. t)
      (and-stays (is_entry b (next_of b j) && eqb (owner_of b (next_of b j)) (owner_of b j)) (ltb (next_of b j) j) owned (λ t. t)))
    where
      owned : (is_entry b (next_of b j) && eqb (owner_of b (next_of b j)) (owner_of b j)) ≡ true → (is_entry b' (next_of b j) && eqb (owner_of b' (next_of b j)) (owner_of b j)) ≡ true
      owned h =
          let entry = and_left (is_entry b (next_of b j)) (eqb (owner_of b (next_of b j)) (owner_of b j)) h in
          and_both (entry-stays b b' i f (next_of b j) entry)
          (ap (λ (k : ℕ). eqb k (owner_of b j)) (owner-same b b' i f (next_of b j) entry) ∙ and_right (is_entry b (next_of b j)) (eqb (owner_of b (next_of b j)) (owner_of b j)) h)

  pub next-order-kept : (j : ℕ) → is_entry b j ≡ true → owner_fits b j ≡ true → next_in_order b j ≡ true → next_in_order b' j ≡ true
  unfolding next_in_order
  next-order-kept j e o h =
      let place = entry-index b j e in
      rw (owner-same b b' i f j e, activation-same b b' i f (owner_of b j) (owner-before b j o).0, level-same b b' i f j e, f.next j place.0 place.1)
      (order-kept (activation_of b (owner_of b j)) (level_of b j) (next_of b j) h)

  -- the ranges of an entry
  pub ranges-kept : (j : ℕ) → is_entry b j ≡ true → owner_fits b j ≡ true
      → entry_ranges (account_at b (owner_of b j)) (record_at b j) ≡ true → entry_ranges (account_at b' (owner_of b' j)) (record_at b' j) ≡ true
  unfolding account_in open_year_of activation_of
  ranges-kept j e o h =
      rw (owner-same b b' i f j e, f.entry j e)
      (ranges-later (account_at b (owner_of b j)) (account_at b' (owner_of b j)) (record_at b j) (activation-same b b' i f (owner_of b j) (owner-before b j o).0)
      (f.open_year (owner_of b j) (owner-before b j o).0) h)
