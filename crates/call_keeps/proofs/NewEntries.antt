-- An advance booked in the open year and a closing of it, at the front of their user's chain: the record is good, and with it the
-- book.
use Prim.Native.Nat.{ℕ, ◌+◌, ◌^◌, ◌≤◌, ◌<◌}
use mathlib.Core.Path.{◌≡◌, sym, ◌∙◌}
use mathlib.Core.Bool.{true, ◌&&◌}
use mathlib.Core.List.{List}
use native.Mathlib.Omega.{arith}
use borrow.Author.Tests.{eq-eqb, ne_eqb}
use lib.Dec.{eqb}
use Rattle.std.specs.Int.{w64}
use Rattle.std.specs.Prelude.{FitsSigned}
use Rattle.units.proofs.Bools.{and_both}
use Rattle.account_steps.specs.declared.Account.{Account}
use Rattle.book_layout.specs.Fields.{capacity, user_kind, advance_kind, closing_kind, first_entry_field}
use Rattle.book_layout.proofs.ByteRanges.{field_below}
use Rattle.book_records.specs.declared.AdvanceRecord.{AdvanceRecord}
use Rattle.book_records.specs.declared.ClosingRecord.{ClosingRecord}
use Rattle.book_records.specs.Records.{advance_image, closing_image}
use Rattle.book_rules.specs.Book.{used, first_user, account_fits, advance_fits, closing_fits, account_at, is_user, is_advance, is_closing, first_entry_of, level_from, level_of, open_year_of}
use Rattle.book_rules.specs.Book.{activation_of, in_order}
use Rattle.book_rules.specs.Book.{kind_at, entry_ranges, zero_bytes_fit, unnamed_of, is_entry}
use Rattle.book_rules.proofs.RecordKinds.{kind-index, advance-entry, closing-entry}
use Rattle.book_rules.proofs.Faultless.{EntryGood, entry-ranges}
use Rattle.call_keeps.proofs.Bools.{or-first, or-second}
use Rattle.call_keeps.proofs.Widths.{advance-widths, closing-widths}
use Rattle.call_keeps.proofs.Records.{EntryAt, AdvanceAt, advance-at, ClosingAt, closing_at}
use Rattle.call_keeps.proofs.Good.{Good, sizes}
use Rattle.call_keeps.proofs.Written.{EntryAdded}
use Rattle.call_keeps.proofs.Frame.{SameUser}
use Rattle.call_keeps.proofs.Pointers.{from-entry}
use Rattle.call_keeps.proofs.RecordsKept.{an-entry}
use Rattle.call_keeps.proofs.Entries.{NewEntry, Entered, entered-user, entry-links, entered}
use Rattle.call_keeps.proofs.Grown.{new-kind}

-- where an entry of the user i stands: before its first entry, its level the open year
pub record InFront (b : List ℕ) (i next owner year : ℕ) : Type 0 where
  pub next-is : next ≡ first_entry_of b i
  pub owner-is : owner ≡ i
  pub year-is : year ≡ open_year_of b i

entry-in-front : (b b' : List ℕ) (i next owner year : ℕ) → InFront b i next owner year → EntryAt b' (used b) next owner year
    → EntryAt b' (used b) (first_entry_of b i) i (open_year_of b i)
entry-in-front b b' i next owner year p e =
    record { next-is = e.next-is ∙ p.next-is; owner-is = e.owner-is ∙ p.owner-is; year-is = e.year-is ∙ p.year-is }

-- what stands first in the chain of a user whose open year is y
advance-in-order : (b : List ℕ) (activation y e : ℕ) → 1 ≤ e → is_advance b e ≡ true → level_of b e ≡ y → in_order b activation y e ≡ true
unfolding in_order
advance-in-order b activation y e lo h r =
    rw (ne_eqb e 0 (omega arith)) (or-first (is_closing b e && eqb (level_of b e + 1) y) (and_both h (eq-eqb (level_of b e) y r)))

closing-in-order : (b : List ℕ) (activation y e : ℕ) → 1 ≤ e → is_closing b e ≡ true → level_of b e + 1 ≡ y → in_order b activation y e ≡ true
unfolding in_order
closing-in-order b activation y e lo h r =
    rw (ne_eqb e 0 (omega arith)) (or-second (is_advance b e && eqb (level_of b e) y) (and_both h (eq-eqb (level_of b e + 1) y r)))

module _ (b b' : List ℕ) (i : ℕ) (a : Account) (g : Good b) (h : is_user b i ≡ true) (same : SameUser (account_at b i) a) (fits : account_fits a ≡ true)
    (room : used b < capacity b) where
  first_below_lem : first_entry_of b i < 2 ^ 32
  unfolding first_entry_of
  first_below_lem = field_below first_entry_field b i g.bytes

  index_below : i < 2 ^ 32
  index_below = let s = sizes b g in omega (arith, (kind-index b user_kind i h).1.0, s.most, s.to)

  -- an advance booked in the open year, which stays open
  module _ (x : AdvanceRecord) (front : InFront b i x.next.0 x.owner.0 (level_from x.year x.booked)) (ranges : advance_fits a x ≡ true)
      (year : a.open_year ≡ open_year_of b i) (e : EntryAdded b b' i a (advance_image x)) where
    advance : AdvanceAt b' (used b) x
    advance =
        advance-at b' (used b) x e.new
        (advance-widths a x fits ranges (omega (arith, front.next-is, first_below_lem)) (omega (arith, front.owner-is, index_below)))

    is-advance : is_advance b' (used b) ≡ true
    is-advance = new-kind b b' g room e.length-same (first_user b) e.head advance_kind advance.kind

    new-advance : NewEntry b b' i a
    new-advance =
        let s = sizes b g in
        let entry = entry-in-front b b' i x.next.0 x.owner.0 (level_from x.year x.booked) front advance.entry in
        record {
          entry = entry;
          is-entry = advance-entry b' (used b) is-advance;
          points = λ k. from-entry b' k (used b) (advance-entry b' (used b) is-advance) ∙ rw entry.next-is;
          order = advance-in-order b' (activation_of b i) a.open_year (used b) s.some is-advance (entry.year-is ∙ sym year);
        }

    advance-good : EntryGood b' (used b)
    unfolding entry_ranges zero_bytes_fit unnamed_of kind_at
    advance-good =
        record {
          own =
              and_both
              (entry-ranges b' (used b) (advance-entry b' (used b) is-advance)
              (rw (advance.kind, advance.entry.owner-is, front.owner-is, (entered-user b b' i a (advance_image x) g h same fits e).account, advance.advance) ranges))
              (rw advance.kind advance.unnamed);
          links = entry-links b b' i a (advance_image x) g h same fits e new-advance;
        }

    pub advance-entered : Entered b b' i a × ((is_entry b' (used b) ≡ true) × AdvanceAt b' (used b) x)
    advance-entered =
        (entered b b' i a (advance_image x) g h same fits e new-advance room (an-entry (advance-entry b' (used b) is-advance) advance-good), (advance-entry b' (used b) is-advance, advance))

  -- a closing of the open year, which the next follows
  module _ (x : ClosingRecord) (front : InFront b i x.next.0 x.owner.0 x.year) (ranges : closing_fits a x ≡ true) (balance : FitsSigned w64 x.sums.balance.0)
      (year : a.open_year ≡ open_year_of b i + 1) (e : EntryAdded b b' i a (closing_image x)) where
    closing : ClosingAt b' (used b) x
    closing =
        closing_at b' (used b) x e.new
        (closing-widths a x fits ranges (omega (arith, front.next-is, first_below_lem)) (omega (arith, front.owner-is, index_below)) balance)

    is-closing : is_closing b' (used b) ≡ true
    is-closing = new-kind b b' g room e.length-same (first_user b) e.head closing_kind closing.kind

    new-closing : NewEntry b b' i a
    new-closing =
        let s = sizes b g in
        let entry = entry-in-front b b' i x.next.0 x.owner.0 x.year front closing.entry in
        record {
          entry = entry;
          is-entry = closing-entry b' (used b) is-closing;
          points = λ k. from-entry b' k (used b) (closing-entry b' (used b) is-closing) ∙ rw entry.next-is;
          order = closing-in-order b' (activation_of b i) a.open_year (used b) s.some is-closing (omega (arith, entry.year-is, year));
        }

    closing-good : EntryGood b' (used b)
    unfolding entry_ranges zero_bytes_fit unnamed_of kind_at
    closing-good =
        record {
          own =
              and_both
              (entry-ranges b' (used b) (closing-entry b' (used b) is-closing)
              (rw (closing.kind, closing.entry.owner-is, front.owner-is, (entered-user b b' i a (closing_image x) g h same fits e).account, closing.closing) ranges))
              (rw closing.kind closing.unnamed);
          links = entry-links b b' i a (closing_image x) g h same fits e new-closing;
        }

    pub closing-entered : Entered b b' i a × ((is_entry b' (used b) ≡ true) × ClosingAt b' (used b) x)
    closing-entered =
        (entered b b' i a (closing_image x) g h same fits e new-closing room (an-entry (closing-entry b' (used b) is-closing) closing-good), (closing-entry b' (used b) is-closing, closing))
