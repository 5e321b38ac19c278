-- An entry added at the front of its user's chain: its links and those of its user are good. What differs between an
-- advance and a closing is the kind, the year that follows, and the entry's own ranges.
use Prim.Native.Nat.{ℕ, ◌+◌, ◌<◌}
use mathlib.Core.Path.{◌≡◌, refl, ap, ◌∙◌}
use mathlib.Core.Bool.{true, ◌&&◌}
use mathlib.Core.List.{List}
use native.Mathlib.Omega.{arith}
use borrow.Author.Tests.{lt-ltb, eq-eqb}
use lib.Dec.{eqb, ltb}
use Rattle.units.proofs.Bools.{and_left, and_right, and_both}
use Rattle.account_steps.specs.declared.Account.{Account}
use Rattle.book_layout.specs.Fields.{capacity, user_kind}
use Rattle.book_rules.specs.Book.{used, first_user, account_fits, account_at, is_user, is_entry, first_entry_of, owner_of, activation_of, open_year_of, first_entry_fits, first_in_order, in_order}
use Rattle.book_rules.specs.Book.{next_in_order}
use Rattle.book_rules.specs.Book.{owner_fits, entry_next_fits, hits, pointers_from}
use Rattle.book_rules.proofs.RecordKinds.{kind-index, entry-index}
use Rattle.book_rules.proofs.Faultless.{UserGood, EntryLinks}
use Rattle.call_keeps.proofs.Bools.{or-stays, or-second}
use Rattle.call_keeps.proofs.Records.{UserAt, user-at, EntryAt}
use Rattle.call_keeps.proofs.Good.{Good, sizes}
use Rattle.call_keeps.proofs.Written.{HeadAt, user_with, EntryAdded}
use Rattle.call_keeps.proofs.Frame.{Frame, SameUser, frame-of-user}
use Rattle.call_keeps.proofs.KindsKept.{kind-stays, entry-stays, owner-same, activation-same}
use Rattle.call_keeps.proofs.RulesKept.{user-next-kept, number-kept, order-kept}
use Rattle.call_keeps.proofs.PointersKept.{OneMore, old-pointers, new-pointed, pointed-kept, added-pointers}
use Rattle.call_keeps.proofs.RecordsKept.{GoodAt, old-good}
use Rattle.call_keeps.proofs.Rewriting.{user-with-fits}
use Rattle.call_keeps.proofs.Grown.{first-user-stays, grown-good}

-- what the record at u is to the user i with the account a
pub record NewEntry (b b' : List ℕ) (i : ℕ) (a : Account) : Type 0 where
  pub entry : EntryAt b' (used b) (first_entry_of b i) i (open_year_of b i)
  pub is-entry : is_entry b' (used b) ≡ true
  pub points : (k : ℕ) → pointers_from b' k (used b) ≡ hits (first_entry_of b i) k
  pub order : in_order b' (activation_of b i) a.open_year (used b) ≡ true

-- what is known of the book after an entry is added
pub record Entered (b b' : List ℕ) (i : ℕ) (a : Account) : Type 0 where
  pub frame : Frame b b' i
  pub good : Good b'
  pub head : HeadAt b' (used b + 1) (first_user b)
  pub user : UserAt b' i (user_with b i (used b) a)

module _ (b b' : List ℕ) (i : ℕ) (a : Account) (entry : List ℕ) (g : Good b) (h : is_user b i ≡ true) (same : SameUser (account_at b i) a)
    (fits : account_fits a ≡ true) (e : EntryAdded b b' i a entry) where
  pub entered-user : UserAt b' i (user_with b i (used b) a)
  entered-user =
      let s = sizes b g in
      user-at b' i (user_with b i (used b) a) e.user (user-with-fits b i (used b) a g (omega (arith, s.to, s.most)) same fits)

  entered_frame : Frame b b' i
  entered_frame =
      frame-of-user b b' i (user_with b i (used b) a) h entered-user refl same (λ j lo hi n. e.others j lo n (omega arith)) e.length-same
      (omega (arith, e.head.used-is))

  module _ (new : NewEntry b b' i a) where
    pointers : OneMore b b'
    pointers = added-pointers b b' i a entry g.faultless h e entered-user new.points

    -- the new entry's owner is its user, its next the first entry before
    owner-fits : owner_fits b' (used b) ≡ true
    unfolding owner_fits
    owner-fits =
        rw new.entry.owner-is (and_both (kind-stays b b' i entered_frame user_kind i h) (lt-ltb i (used b) (kind-index b user_kind i h).1.0))

    next_fits : entry_next_fits b' (used b) ≡ true
    unfolding entry_next_fits first_entry_fits
    next_fits =
        rw (new.entry.next-is, new.entry.owner-is)
        (or-stays (eqb (first_entry_of b i) 0) (is_entry b (first_entry_of b i) && eqb (owner_of b (first_entry_of b i)) i) (λ t. t) owned (g.faultless.user i h).first)
      where
        owned : (is_entry b (first_entry_of b i) && eqb (owner_of b (first_entry_of b i)) i) ≡ true
            → ((is_entry b' (first_entry_of b i) && eqb (owner_of b' (first_entry_of b i)) i) && ltb (first_entry_of b i) (used b)) ≡ true
        owned t =
            let first = and_left (is_entry b (first_entry_of b i)) (eqb (owner_of b (first_entry_of b i)) i) t in
            and_both
            (and_both (entry-stays b b' i entered_frame (first_entry_of b i) first)
            (ap (λ (k : ℕ). eqb k i) (owner-same b b' i entered_frame (first_entry_of b i) first) ∙ and_right (is_entry b (first_entry_of b i)) (eqb (owner_of b (first_entry_of b i)) i) t))
            (lt-ltb (first_entry_of b i) (used b) (entry-index b (first_entry_of b i) first).1)

    next-in-order : next_in_order b' (used b) ≡ true
    unfolding next_in_order first_in_order
    next-in-order =
        rw (new.entry.owner-is, new.entry.year-is, new.entry.next-is, activation-same b b' i entered_frame i h)
        (order-kept b b' i entered_frame (activation_of b i) (open_year_of b i) (first_entry_of b i) (g.faultless.user i h).order)

    pub entry-links : EntryLinks b' (used b)
    entry-links = record { owner = owner-fits; next = next_fits; order = next-in-order; pointed = new-pointed b b' g.faultless pointers }

    -- the user's first entry is the new one
    first_fits : first_entry_fits b' i ≡ true
    unfolding first_entry_fits
    first_fits =
        rw entered-user.first
        (or-second (eqb (used b) 0) (and_both new.is-entry (eq-eqb (owner_of b' (used b)) i new.entry.owner-is)))

    first-in-order : first_in_order b' i ≡ true
    unfolding first_in_order
    first-in-order = rw (entered-user.first, entered-user.open_year, activation-same b b' i entered_frame i h) new.order

    user-good : UserGood b' i
    user-good =
        let u = g.faultless.user i h in
        let place = kind-index b user_kind i h in
        record {
          fits = rw entered-user.account fits;
          unnamed = entered-user.unnamed;
          next = user-next-kept b b' i entered_frame i h u.next;
          number = number-kept b b' i entered_frame i h u.number;
          first = first_fits;
          order = first-in-order;
          pointed = pointed-kept b b' (old-pointers b b' pointers) i place.0 place.1.0 u.pointed;
        }

    pub entered : used b < capacity b → GoodAt b' (used b) → Entered b b' i a
    entered room good =
        record {
          frame = entered_frame;
          good =
              grown-good b b' g room e.length-same (first_user b) e.head e.bytes (first-user-stays b b' i entered_frame g.faultless.head)
              (old-good b b' i g.faultless entered_frame (old-pointers b b' pointers) (λ t. user-good)) good;
          head = e.head;
          user = entered-user;
        }
