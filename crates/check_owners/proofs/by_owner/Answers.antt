-- The entries passed so far are linked.
use Prim.Native.Nat.{ℕ, ◌+◌, ◌-◌, ◌≤◌, ◌<◌}
use mathlib.Core.Path.{◌≡◌, refl, sym, ap, subst, ◌∙◌}
use mathlib.Core.Bool.{Bool, true, ◌&&◌}
use mathlib.Core.List.{List}
use Rattle.std.proofs.Common.{Option}
use native.Mathlib.Omega.{arith}
use borrow.Author.Tests.{ltb-true, lt-ltb}
use lib.Dec.{ltb}
use lib.ListN.{length-set}
use Rattle.units.proofs.Bools.{and_left, and_right}
use Rattle.units.specs.declared.RecordIndex.{RecordIndex}
use Rattle.book_layout.specs.Fields.{get, record_at, kind_field, owner_field}
use Rattle.book_rules.specs.Book.{used, kind_at, entry_kind, is_entry, owner_of}
use Rattle.check_owners.proofs.Lists.{LinkedFrom, linked-none, linked-entry, linked-other, linked-all}
use Rattle.std.proofs.Common.{rules}
use Rattle.check_owners.proofs.by_owner.Goals as goal
use Rattle.check_owners.proofs.by_owner.Goals.{After-is_entry_record, Then-is_entry_record-owner}

found : (entry : Bool) (owner records : ℕ) → (entry && ltb owner records) ≡ true → (entry ≡ true) × (owner < records)
found entry owner records told =
    (and_left entry (ltb owner records) told, ltb-true owner records (and_right entry (ltb owner records) told))

-- the record n, whose bytes are r
module _ (b : List ℕ) (n : ℕ) {r : List ℕ} (whole : r ≡ record_at b n) where
  entry_here : {entry : Bool} → 1 ≤ n → n < used b → entry ≡ entry_kind (get kind_field r) → entry ≡ is_entry b n
  unfolding is_entry kind_at
  entry_here lo hi e = rw (lt-ltb 0 n lo, lt-ltb n (used b) hi) (e ∙ ap (λ (l : List ℕ). entry_kind (get kind_field l)) whole)

  owner_here : {owner : ℕ} → owner ≡ get owner_field r → owner ≡ owner_of b n
  unfolding owner_of
  owner_here w = w ∙ ap (get owner_field) whole

-- the record before `left`
one_down : (b : List ℕ) (left : ℕ) (firsts laters : List (Option RecordIndex)) → 1 < left → LinkedFrom b left firsts laters → LinkedFrom b
    (left - 1 + 1) firsts laters
one_down b left firsts laters some linked = let same : left ≡ left - 1 + 1 = omega arith in
    subst (λ n. LinkedFrom b n firsts laters) same linked

found_here : (c : goal.Then-is_entry_record-owner)
    → (c.is_entry_record.result ≡ true) × (c.field-owner.result < c.used-records.result)
found_here c =
    found c.is_entry_record.result c.field-owner.result c.used-records.result c.if-is_entry_record-owner.true

-- what is read of the record
read_here : (c : goal.After-is_entry_record)
    → (c.is_entry_record.result ≡ is_entry c.args.book.bytes.now (c.loop-e.e - 1))
    × (c.field-owner.result
    ≡ owner_of c.args.book.bytes.now (c.loop-e.e - 1))
read_here c =
    let b = c.args.book.bytes.now in
    let n = c.loop-e.e - 1 in
    let whole = c.whole-r.ensures in (
      entry_here b n whole (omega arith) (omega arith) c.is_entry_record.ensures,
      owner_here b n whole
          c.field-owner.ensures,
    )

pub loop-e-init : goal.loop-e-init
loop-e-init c =
    record {
      within = search rules;
      firsts = refl;
      laters = refl;
      linked = linked-none c.args.book.bytes.now _ _ c.used-records.ensures
          c.requires;
    }

pub loop-e-preserved-then-is_entry_record-owner : goal.loop-e-preserved-then-is_entry_record-owner
loop-e-preserved-then-is_entry_record-owner c =
    let b = c.args.book.bytes.now in
    let f = found_here (goal.at.loop-e-preserved-then-is_entry_record-owner c).Then-is_entry_record-owner in
    let is = read_here (goal.at.loop-e-preserved-then-is_entry_record-owner c).After-is_entry_record in
    let linked = one_down b c.loop-e.e _ _ c.loop-e-test.true c.loop-e.invariant.linked in
    record {
      within = search rules;
      firsts = simp length-set c.loop-e.invariant.firsts;
      laters = simp length-set c.loop-e.invariant.laters;
      linked = linked-entry b (c.loop-e.e - 1) linked (sym is.0 ∙ f.0) is.1 (omega arith) (omega arith);
    }

pub loop-e-preserved : goal.loop-e-preserved
loop-e-preserved c =
    let b = c.args.book.bytes.now in
    let is = read_here (goal.at.loop-e-preserved c).After-is_entry_record in
    let linked = one_down b c.loop-e.e _ _ c.loop-e-test.true c.loop-e.invariant.linked in
    record {
      within = search rules;
      firsts = c.loop-e.invariant.firsts;
      laters = c.loop-e.invariant.laters;
      linked = linked-other b (c.loop-e.e - 1) linked is.0 is.1 c.used-records.ensures c.if-is_entry_record-owner.false;
    }

pub returns : goal.returns
returns c =
    linked-all c.args.book.bytes.now c.loop-e.e _ (omega (arith, c.loop-e-test.false)) c.loop-e.invariant.linked
