-- The lists of the entries from an index on, and how the record before it changes them.
use Prim.Native.Nat.{ℕ, ◌+◌, ◌≤◌, ◌<◌}
use mathlib.Core.Path.{◌≡◌, refl, sym, ◌∙◌}
use mathlib.Core.Bool.{Bool, true, false, ◌&&◌, true≢false}
use mathlib.Core.List.{List}
use Rattle.std.proofs.Common.{Option, Some, None}
use native.Mathlib.Decide.{ℕ_discrete}
use native.Mathlib.Omega.{arith}
use borrow.Author.Tests.{lt-ltb}
use lib.Dec.{ltb}
use lib.ListN.{length, get_or, set, replicate, get_or-replicate}
use lib.Seq.{get_or-set_same, get_or-set_other}
use Rattle.book_rules.specs.Book.{used, is_entry, owner_of}
use Rattle.book_rules.proofs.RecordKinds.{entry-index}
use Rattle.units.specs.Limits.{most_records}
use Rattle.units.specs.declared.RecordIndex.{RecordIndex}
use Rattle.units.specs.Units.{record_index}
use Rattle.check_owners.specs.declared.Entries.{Entries}
use Rattle.check_owners.specs.InnerOwners.{owns, NextOwned, Linked}
use Rattle.check_owners.proofs.Owned.{owns-entry, owns-owner, owns-own, owns-no-other, owned-none, owned-here, owned-further, owned-all}

-- the entries from `n` on are linked
pub record LinkedFrom (b : List ℕ) (n : ℕ) (firsts laters : List (Option RecordIndex)) : Type 0 where
  pub first : (o : ℕ) → o < used b → NextOwned b o n (get_or firsts o None)
  pub later : (k : ℕ) → n ≤ k → (o : ℕ) → o < used b → owns b o k ≡ true → NextOwned b o (k + 1) (get_or laters k None)

pub linked-none : (b : List ℕ) (laters : List (Option RecordIndex)) (n : ℕ) → n ≡ used b → used b ≤ most_records → LinkedFrom b n (replicate most_records None) laters
linked-none b laters n end fits =
    record {
      first = λ o h. rw (get_or-replicate {A = Option RecordIndex} most_records o None None (omega arith)) (owned-none b o n (omega (arith, end)));
      later = λ k l o h q. absurd ((owned-none b o n (omega (arith, end))).none_before k l q);
    }

module _ (b : List ℕ) (n : ℕ) {firsts laters : List (Option RecordIndex)} (linked : LinkedFrom b (n + 1) firsts laters) where
  -- the record is an entry of a record of the book
  module _ {owner : ℕ} (e : is_entry b n ≡ true) (w : owner ≡ owner_of b n) (room : owner < length firsts) (place : n < length laters) where
    first-after : (o : ℕ) → o < used b → Dec (o ≡ owner) → NextOwned b o n (get_or (set firsts owner (Some (record_index n))) o None)
    first-after o h (yes same) =
        let here = owned-here b owner n (owns-own b owner n e (sym w)) in
        rw (same, get_or-set_same firsts owner (Some (record_index n)) None room) here
    first-after o h (no d) =
        rw (get_or-set_other firsts owner o (Some (record_index n)) None d) (owned-further b o n (owns-no-other b o n (λ same. d (sym (w ∙ same)))) (linked.first o h))

    abbrev laters-after : List (Option RecordIndex)
    laters-after = set laters n (get_or firsts owner None)

    later-after : (k : ℕ) → n ≤ k → (o : ℕ) → o < used b → owns b o k ≡ true → Dec (k ≡ n) → NextOwned b o (k + 1) (get_or laters-after k None)
    later-after k l o h q (yes same) =
        let here : owns b o n ≡ true = rw same at q in
        let mine : owner ≡ o = w ∙ owns-owner b o n here in
        rw (same, get_or-set_same laters n (get_or firsts owner None) None place, mine) (linked.first o h)
    later-after k l o h q (no d) = rw (get_or-set_other laters n k (get_or firsts owner None) None d) (linked.later k (omega (arith, d)) o h q)

    pub linked-entry : LinkedFrom b n (set firsts owner (Some (record_index n))) laters-after
    linked-entry =
        record {
          first = λ o h. first-after o h (ℕ_discrete o owner);
          later = λ k l o h q. later-after k l o h q (ℕ_discrete k n);
        }

  -- it is no entry, or its owner is no record of the book
  module _ {entry : Bool} {owner records : ℕ} (e : entry ≡ is_entry b n) (w : owner ≡ owner_of b n) (u : records ≡ used b)
      (told : (entry && ltb owner records) ≡ false) where
    nobody's : (o : ℕ) → o < used b → owns b o n ≡ false
    nobody's o h = by_tests (owns b o n) refl
      where
        by_tests : (t : Bool) → owns b o n ≡ t → owns b o n ≡ false
        by_tests false q = q
        by_tests true q =
            let same : owner ≡ o = w ∙ owns-owner b o n q in
            let found : entry ≡ true = e ∙ owns-entry b o n q in
            let within : ltb owner records ≡ true = lt-ltb owner records (omega arith) in
            let both : (entry && ltb owner records) ≡ true = rw (found, within) in
            absurd (true≢false (sym both ∙ told))

    later-kept : (k : ℕ) → n ≤ k → (o : ℕ) → o < used b → owns b o k ≡ true → Dec (k ≡ n) → NextOwned b o (k + 1) (get_or laters k None)
    later-kept k l o h q (yes same) = let here : owns b o n ≡ true = rw same at q in absurd (true≢false (sym here ∙ nobody's o h))
    later-kept k l o h q (no d) = linked.later k (omega (arith, d)) o h q

    pub linked-other : LinkedFrom b n firsts laters
    linked-other =
        record {
          first = λ o h. owned-further b o n (nobody's o h) (linked.first o h);
          later = λ k l o h q. later-kept k l o h q (ℕ_discrete k n);
        }

-- all records but the head are passed, and the head is no entry
pub linked-all : (b : List ℕ) (n : ℕ) (entries : Entries) → n ≤ 1 → LinkedFrom b n entries.first entries.later → Linked b entries
linked-all b n entries end linked =
    record {
      first = λ o h. owned-all b o n end (linked.first o h);
      later = λ o e h q. let from = (entry-index b e (owns-entry b o e q)).0 in linked.later e (omega (arith, from, end)) o h q;
    }
