-- A record that stood in the book stays good, and the good records of the book after it make it faultless.
use Prim.Native.Nat.{ℕ, ◌≤◌, ◌<◌}
use mathlib.Core.Path.{◌≡◌, sym, ap, subst}
use mathlib.Core.Bool.{true, ◌&&◌, ◌||◌}
use Rattle.units.proofs.Bools.{and_left, and_right, and_both}
use mathlib.Core.List.{List}
use native.Mathlib.Decide.{ℕ_discrete}
use Rattle.book_layout.specs.Fields.{get, all_zero, unnamed_of_user, record_at, user_kind, first_entry_field, open_year_field}
use Rattle.book_rules.specs.Book.{used, used_fits, good_head, kind_at, owner_fits, ranges_fit, zero_bytes_fit, is_user, is_entry, account_at, account_fits, first_entry_of, open_year_of}
use Rattle.book_rules.proofs.RecordKinds.{kind-index, user-index, entry-index, not-both}
use Rattle.book_rules.proofs.Faultless.{Faultless, UserGood, EntryLinks, EntryGood, entry-ranges, ranges-of-entry}
use Rattle.call_keeps.proofs.Bools.{or-first, or-second}
use Rattle.call_keeps.proofs.Frame.{Frame}
use Rattle.call_keeps.proofs.KindsKept.{kind-stays, entry-stays}
use Rattle.call_keeps.proofs.Links.{by-role}
use Rattle.call_keeps.proofs.PointersKept.{OldPointers, pointed-kept}
use Rattle.call_keeps.proofs.RulesKept.{user-next-kept, number-kept, first-entry-kept, first-order-kept, owner-kept, entry-next-kept, next-order-kept, ranges-kept}

-- a good user or a good entry
pub data GoodAt (b : List ℕ) (j : ℕ) : Type 0 where
  a-user : is_user b j ≡ true → UserGood b j → GoodAt b j
  an-entry : is_entry b j ≡ true → EntryGood b j → GoodAt b j

module _ (b : List ℕ) where
  known_at : (j : ℕ) → GoodAt b j → (is_user b j || is_entry b j) ≡ true
  known_at j (a-user k g) = or-first (is_entry b j) k
  known_at j (an-entry k g) = or-second (is_user b j) k

  user-good-at : (j : ℕ) → is_user b j ≡ true → GoodAt b j → UserGood b j
  user-good-at j h (a-user k g) = g
  user-good-at j h (an-entry k g) = absurd (not-both b j h k)

  entry-good-at : (j : ℕ) → is_entry b j ≡ true → GoodAt b j → EntryGood b j
  entry-good-at j h (a-user k g) = absurd (not-both b j k h)
  entry-good-at j h (an-entry k g) = g

  pub good-records : used_fits b ≡ true → good_head b ≡ true → ((j : ℕ) → 1 ≤ j → j < used b → GoodAt b j) → Faultless b
  good-records fits head good =
      record {
        used-fits = fits;
        head = head;
        known = λ j lo hi. known_at j (good j lo hi);
        user = λ j h. let p = user-index b j h in user-good-at j h (good j p.0 p.1);
        entry = λ j h. let p = entry-index b j h in entry-good-at j h (good j p.0 p.1);
      }

module _ (b b' : List ℕ) (i : ℕ) (g : Faultless b) (f : Frame b b' i) (pointers : OldPointers b b') where
  -- what the frame keeps of a user, the booked one too: all but its account, its first entry and the order there
  pub user-kept : (j : ℕ) → is_user b j ≡ true → (account_fits (account_at b' j) ≡ true) → (all_zero unnamed_of_user (record_at b' j) ≡ true)
      → first_entry_of b' j ≡ first_entry_of b j → open_year_of b' j ≡ open_year_of b j → UserGood b' j
  user-kept j h fits unnamed first year =
      let u = g.user j h in
      let place = kind-index b user_kind j h in
      record {
        fits = fits;
        unnamed = unnamed;
        next = user-next-kept b b' i f j h u.next;
        number = number-kept b b' i f j h u.number;
        first = first-entry-kept b b' i f j first u.first;
        order = first-order-kept b b' i f j h first year u.order;
        pointed = pointed-kept b b' pointers j place.0 place.1.0 u.pointed;
      }

  other-user : (j : ℕ) → is_user b j ≡ true → record_at b' j ≡ record_at b j → UserGood b' j
  unfolding first_entry_of open_year_of
  other-user j h same =
      let u = g.user j h in
      user-kept j h (rw same u.fits) (rw same u.unnamed) (ap (get first_entry_field) same) (ap (get open_year_field) same)

  links-kept : (j : ℕ) → is_entry b j ≡ true → 1 ≤ j → j < used b → EntryLinks b j → EntryLinks b' j
  links-kept j e lo hi l =
      record {
        owner = owner-kept b b' i f j e l.owner;
        next = entry-next-kept b b' i f j e l.next;
        order = next-order-kept b b' i f j e l.owner l.order;
        pointed = pointed-kept b b' pointers j lo hi l.pointed;
      }

  -- the own rules of an entry, against its owner later
  own-kept : (j : ℕ) → is_entry b j ≡ true → owner_fits b j ≡ true → (ranges_fit b j && zero_bytes_fit b j) ≡ true → (ranges_fit b' j && zero_bytes_fit b' j) ≡ true
  unfolding zero_bytes_fit kind_at
  own-kept j e o h =
      and_both
      (entry-ranges b' j (entry-stays b b' i f j e) (ranges-kept b b' i f j e o (ranges-of-entry b j e (and_left (ranges_fit b j) (zero_bytes_fit b j) h))))
      (rw (f.entry j e) (and_right (ranges_fit b j) (zero_bytes_fit b j) h))

  entry_kept : (j : ℕ) → is_entry b j ≡ true → EntryGood b' j
  entry_kept j e =
      let x = g.entry j e in
      let place = entry-index b j e in
      record { own = own-kept j e x.links.owner x.own; links = links-kept j e place.0 place.1 x.links }

  -- every old record stays good, if the booked user does
  pub old-good : (is_user b i ≡ true → UserGood b' i) → (j : ℕ) → 1 ≤ j → j < used b → GoodAt b' j
  old-good booked j lo hi = by-role b g (GoodAt b' j) j lo hi
      (λ h. a-user (kind-stays b b' i f user_kind j h) (by_place h (ℕ_discrete j i)))
      (λ h. an-entry (entry-stays b b' i f j h) (entry_kept j h))
    where
      by_place : is_user b j ≡ true → Dec (j ≡ i) → UserGood b' j
      by_place h (yes e) = subst (UserGood b') (sym e) (booked (subst (λ k. is_user b k ≡ true) e h))
      by_place h (no n) = other-user j h (f.others j lo hi n)
