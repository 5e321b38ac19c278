-- The counts so far are the sums over the records passed.
use Prim.Native.Nat.{ℕ, ◌<◌}
use mathlib.Core.Path.{◌≡◌, refl, sym, ap, ◌∙◌}
use borrow.Author.Tests.{eqb-true, eqb-false}
use native.Mathlib.Omega.{arith}
use lib.ListN.{get_or, get_or-replicate}
use Rattle.units.specs.Limits.{most_records}
use Rattle.units.specs.Folds.{sum_below}
use Rattle.book_rules.specs.Book.{used, pointers_from, pointers_to}
use Rattle.book_rules.proofs.Faults.{used-within}
use Rattle.book_rules.proofs.Hits.{hits-at-most}
use Rattle.check_pointers.proofs.Counted.{counted-bound, counted-head, counted-user, counted-entry, counted-unknown}
use Rattle.std.proofs.Common.{rules}
use Rattle.check_pointers.proofs.counts.Goals as goal
use Rattle.check_pointers.proofs.counts.Goals.{In-loop-j, else-is_of+else-is_entry_record}
use Rattle.check_pointers.proofs.counts.Goals.{else-is_of+then-is_entry_record, then-is_of}

-- there is room for two more in each count
room : (c : goal.In-loop-j) (m : ℕ) → m < most_records → get_or c.loop-j.counts m 0 < 65534
room c m h =
    omega (arith, c.requires, c.loop-j.invariant.counted m h, counted-bound c.args.book.bytes.now m c.loop-j.j)

pub count-requires : goal.count-requires
count-requires c = record {
  counts_length = refl;
  counts_room = λ m h. omega (
    arith,
    get_or-replicate {A = ℕ} most_records m 0 0
        h,
  );
}

pub loop-j-init : goal.loop-j-init
loop-j-init c =
    let b = c.args.book.bytes.now in record {
      from = omega arith;
      within = omega (arith, (used-within b c.args.book.counted).0, c.used-records.ensures);
      long = c.count.ensures.size;
      counted = λ m h. counted-head b m c.first_user.ensures (get_or-replicate most_records m 0 0 h) (c.count.ensures.counted m
          h);
    }

pub count-requires-then-is_of : goal.count-requires-then-is_of
count-requires-then-is_of c =
    record {
      counts_length = c.loop-j.invariant.long;
      counts_room = λ m h. omega (
        arith,
        room
            (goal.at.count-requires-then-is_of c).In-loop-j m h,
      );
    }

pub count-requires-then-is_of-2 : goal.count-requires-then-is_of-2
count-requires-then-is_of-2 c =
    let e = c.count-then-is_of.ensures in
    record {
      counts_length = e.size;
      counts_room = λ m h. omega (
        arith,
        e.counted m h,
        hits-at-most c.field.result.0 m,
        room
            (goal.at.count-requires-then-is_of-2 c).In-loop-j m h,
      );
    }

pub count-requires-then-is_entry_record : goal.count-requires-then-is_entry_record
count-requires-then-is_entry_record c =
    record {
      counts_length = c.loop-j.invariant.long;
      counts_room = λ m h. omega (
        arith,
        room
            (goal.at.count-requires-then-is_entry_record c).In-loop-j m h,
      );
    }

pub loop-j-preserved : goal.loop-j-preserved
loop-j-preserved c =
    let b = c.args.book.bytes.now in
    let j = c.loop-j.j in
    let inv = c.loop-j.invariant in
    let whole = c.whole-r.ensures in
    elim c.if-is_of.branch [
      | then-is_of w ↦ rw w.counts-is (record {
        from = search rules;
        within = search rules;
        long = w.count-then-is_of-2.ensures.size;
        counted = λ m h. counted-user b m j inv.from whole refl (inv.counted m h) (eqb-true _ _ (sym c.is_of.ensures ∙ w.if-is_of.true)) w.field.ensures
            w.field-then-is_of.ensures (w.count-then-is_of.ensures.counted m h) (w.count-then-is_of-2.ensures.counted m
            h);
      })
      | else-is_of+then-is_entry_record w ↦ rw w.counts-is (record {
        from = search rules;
        within = search rules;
        long = w.count-then-is_entry_record.ensures.size;
        counted = λ m h. counted-entry b m j inv.from whole refl (inv.counted m h) (eqb-false _ _ (sym c.is_of.ensures ∙ w.if-is_of.false)) w.is_entry_record.ensures
            w.if-is_entry_record.true w.field-then-is_entry_record.ensures (w.count-then-is_entry_record.ensures.counted m h);
      })
      | else-is_of+else-is_entry_record w ↦ rw w.counts-is (record {
        from = search rules;
        within = search rules;
        long = inv.long;
        counted = λ m h. counted-unknown b m j inv.from whole refl (inv.counted m h) (eqb-false _ _ (sym c.is_of.ensures ∙ w.if-is_of.false)) w.is_entry_record.ensures
            w.if-is_entry_record.false;
      })
    ]

pub returns : goal.returns
unfolding pointers_to
returns c = λ m p h.
    let b = c.args.book.bytes.now in
    let end : c.loop-j.j ≡ used b = omega arith in
    c.loop-j.invariant.counted m h ∙ ap (λ (j : ℕ). sum_below j (pointers_from b m)) end
