-- A sound book, rule by rule: what each of its records is known to meet, and that this is all that soundness asks.
use Prim.Native.Nat.{ℕ, ◌≤◌, ◌<◌}
use mathlib.Core.Path.{◌≡◌, refl, sym, ◌∙◌}
use mathlib.Core.Bool.{Bool, true, false, ◌&&◌, ◌||◌, true≢false, false≢true}
use mathlib.Core.List.{List}
use native.Mathlib.Omega.{arith}
use borrow.Author.Tests.{lt-ltb, ltb-true, ne_eqb, not-false}
use lib.Dec.{eqb, ltb}
use Rattle.units.proofs.Bools.{and_left, and_right}
use Rattle.book_layout.specs.Fields.{get, kind_field, all_zero, unnamed_of_user, record_at, capacity, user_kind, advance_kind, closing_kind}
use Rattle.account_steps.specs.declared.Account.{Account}
use Rattle.book_records.specs.Records.{advance_in, closing_in}
use Rattle.book_rules.specs.Book.{length_fits, used, used_fits, kind_at, has_kind, is_user, is_advance, is_closing, entry_kind, is_entry, account_at, owner_of, account_fits, advance_fits}
use Rattle.book_rules.specs.Book.{closing_fits}
use Rattle.book_rules.specs.Book.{entry_ranges, ranges_fit, unnamed_of, zero_bytes_fit, user_next_fits, number_is_new, first_entry_fits, first_in_order, owner_fits, entry_next_fits, next_in_order}
use Rattle.book_rules.specs.Book.{pointed_once}
use Rattle.book_rules.specs.Book.{links_fit, good_record, good_head, sound}
use Rattle.book_rules.proofs.RecordKinds.{kind-index, kind-is, entry-index, entry-no-user}
use Rattle.book_rules.proofs.Lengths.{capacity-least}
use Rattle.book_rules.proofs.Faults.{used-within}
use Rattle.book_rules.proofs.Faults.{faulty-unfit, faulty-head, faulty-record, none-faulty, good-sound}

-- what a good user meets
pub record UserGood (b : List ℕ) (i : ℕ) : Type 0 where
  pub fits : account_fits (account_at b i) ≡ true
  pub unnamed : all_zero unnamed_of_user (record_at b i) ≡ true
  pub next : user_next_fits b i ≡ true
  pub number : number_is_new b i ≡ true
  pub first : first_entry_fits b i ≡ true
  pub order : first_in_order b i ≡ true
  pub pointed : pointed_once b i ≡ true

-- what a good entry of either kind meets
pub record EntryLinks (b : List ℕ) (i : ℕ) : Type 0 where
  pub owner : owner_fits b i ≡ true
  pub next : entry_next_fits b i ≡ true
  pub order : next_in_order b i ≡ true
  pub pointed : pointed_once b i ≡ true

-- the owner that fits is a user with a smaller index
pub owner-before : (b : List ℕ) (i : ℕ) → owner_fits b i ≡ true → (is_user b (owner_of b i) ≡ true) × (owner_of b i < i)
unfolding owner_fits
owner-before b i f =
    (and_left (is_user b (owner_of b i)) (ltb (owner_of b i) i) f, ltb-true (owner_of b i) i (and_right (is_user b (owner_of b i)) (ltb (owner_of b i) i) f))

-- a good entry: its own rules, by its kind, and its links
pub record EntryGood (b : List ℕ) (i : ℕ) : Type 0 where
  pub own : (ranges_fit b i && zero_bytes_fit b i) ≡ true
  pub links : EntryLinks b i

-- a book without a fault
pub record Faultless (b : List ℕ) : Type 0 where
  pub used-fits : used_fits b ≡ true
  pub head : good_head b ≡ true
  pub known : (i : ℕ) → 1 ≤ i → i < used b → (is_user b i || is_entry b i) ≡ true
  pub user : (i : ℕ) → is_user b i ≡ true → UserGood b i
  pub entry : (i : ℕ) → is_entry b i ≡ true → EntryGood b i

-- the ranges of an entry: by its owner's account, and by its kind
module _ (b : List ℕ) (i : ℕ) (e : is_entry b i ≡ true) where
  pub ranges-of-entry : ranges_fit b i ≡ true → entry_ranges (account_at b (owner_of b i)) (record_at b i) ≡ true
  unfolding ranges_fit
  ranges-of-entry h = rw (ne_eqb (kind_at b i) user_kind (entry-no-user b i e)) at h

  pub entry-ranges : entry_ranges (account_at b (owner_of b i)) (record_at b i) ≡ true → ranges_fit b i ≡ true
  unfolding ranges_fit
  entry-ranges h = rw (ne_eqb (kind_at b i) user_kind (entry-no-user b i e)) h

module _ (b : List ℕ) (i : ℕ) (own : (ranges_fit b i && zero_bytes_fit b i) ≡ true) where
  ranges : ranges_fit b i ≡ true
  ranges = and_left (ranges_fit b i) (zero_bytes_fit b i) own

  pub advance-ranges : is_advance b i ≡ true → advance_fits (account_at b (owner_of b i)) (advance_in (record_at b i)) ≡ true
  unfolding ranges_fit entry_ranges kind_at
  advance-ranges a = let k : get kind_field (record_at b i) ≡ advance_kind = kind-is b advance_kind i a in rw k at ranges

  pub closing-ranges : is_closing b i ≡ true → closing_fits (account_at b (owner_of b i)) (closing_in (record_at b i)) ≡ true
  unfolding ranges_fit entry_ranges kind_at
  closing-ranges c = let k : get kind_field (record_at b i) ≡ closing_kind = kind-is b closing_kind i c in rw k at ranges

-- a record whose ranges fit as an entry's has the kind of one
pub ranges-entry : (owner : Account) (r : List ℕ) → entry_ranges owner r ≡ true → entry_kind (get kind_field r) ≡ true
unfolding entry_ranges entry_kind
ranges-entry owner r h = by-advance (eqb (get kind_field r) advance_kind) refl
  where
    by-closing : (t : Bool) → eqb (get kind_field r) closing_kind ≡ t → eqb (get kind_field r) advance_kind ≡ false
        → (eqb (get kind_field r) advance_kind || eqb (get kind_field r) closing_kind) ≡ true
    by-closing true e a = rw (a, e)
    by-closing false e a = absurd (false≢true (rw (a, e) at h))

    by-advance : (t : Bool) → eqb (get kind_field r) advance_kind ≡ t → (eqb (get kind_field r) advance_kind || eqb (get kind_field r) closing_kind) ≡ true
    by-advance true e = rw e
    by-advance false e = by-closing (eqb (get kind_field r) closing_kind) refl e

-- a sound book has a good u
sound-used : (b : List ℕ) → 0 < capacity b → sound b ≡ true → used_fits b ≡ true
sound-used b c h = by_value (used_fits b) refl
  where
    by_value : (t : Bool) → used_fits b ≡ t → used_fits b ≡ true
    by_value true e = e
    by_value false e = absurd (true≢false (sym (faulty-unfit b 0 e) ∙ none-faulty b h 0 c))

-- a good record, rule by rule
module _ (b : List ℕ) (i : ℕ) (g : good_record b i ≡ true) where
  good-own : (ranges_fit b i && zero_bytes_fit b i) ≡ true
  unfolding good_record
  good-own =
      and_left (ranges_fit b i && zero_bytes_fit b i) (links_fit b i)
      (and_left ((ranges_fit b i && zero_bytes_fit b i) && links_fit b i) (pointed_once b i) g)

  good-ranges : ranges_fit b i ≡ true
  good-ranges = and_left (ranges_fit b i) (zero_bytes_fit b i) good-own

  good-zeros : zero_bytes_fit b i ≡ true
  good-zeros = and_right (ranges_fit b i) (zero_bytes_fit b i) good-own

  good-links : links_fit b i ≡ true
  unfolding good_record
  good-links =
      and_right (ranges_fit b i && zero_bytes_fit b i) (links_fit b i)
      (and_left ((ranges_fit b i && zero_bytes_fit b i) && links_fit b i) (pointed_once b i) g)

  good-pointed : pointed_once b i ≡ true
  unfolding good_record
  good-pointed = and_right ((ranges_fit b i && zero_bytes_fit b i) && links_fit b i) (pointed_once b i) g

  good-user : kind_at b i ≡ user_kind → UserGood b i
  unfolding ranges_fit zero_bytes_fit unnamed_of links_fit
  good-user k =
      let links : ((user_next_fits b i && number_is_new b i) && (first_entry_fits b i && first_in_order b i)) ≡ true = rw k at good-links in
      let near = and_left (user_next_fits b i && number_is_new b i) (first_entry_fits b i && first_in_order b i) links in
      let far = and_right (user_next_fits b i && number_is_new b i) (first_entry_fits b i && first_in_order b i) links in
      record {
        fits = rw k at good-ranges;
        unnamed = rw k at good-zeros;
        next = and_left (user_next_fits b i) (number_is_new b i) near;
        number = and_right (user_next_fits b i) (number_is_new b i) near;
        first = and_left (first_entry_fits b i) (first_in_order b i) far;
        order = and_right (first_entry_fits b i) (first_in_order b i) far;
        pointed = good-pointed;
      }

  entry-links : ((owner_fits b i && entry_next_fits b i) && next_in_order b i) ≡ true → EntryLinks b i
  entry-links links =
      let near = and_left (owner_fits b i && entry_next_fits b i) (next_in_order b i) links in
      record {
        owner = and_left (owner_fits b i) (entry_next_fits b i) near;
        next = and_right (owner_fits b i) (entry_next_fits b i) near;
        order = and_right (owner_fits b i && entry_next_fits b i) (next_in_order b i) links;
        pointed = good-pointed;
      }

  good-entry : (kind_at b i ≡ user_kind → ⊥) → EntryGood b i
  unfolding links_fit
  good-entry n = record { own = good-own; links = entry-links (rw (ne_eqb (kind_at b i) user_kind n) at good-links) }

  -- a good record is a user or an entry
  pub good-known : 1 ≤ i → i < used b → (is_user b i || is_entry b i) ≡ true
  unfolding is_entry ranges_fit has_kind kind_at
  good-known lo hi = by-user (eqb (kind_at b i) user_kind) refl
    where
      by-user : (t : Bool) → eqb (kind_at b i) user_kind ≡ t → (is_user b i || is_entry b i) ≡ true
      by-user true e = rw (e, lt-ltb 0 i lo, lt-ltb i (used b) hi)
      by-user false e =
          let fits : entry_ranges (account_at b (owner_of b i)) (record_at b i) ≡ true = rw e at good-ranges in
          rw (e, lt-ltb 0 i lo, lt-ltb i (used b) hi, ranges-entry (account_at b (owner_of b i)) (record_at b i) fits)

-- a sound book is without a fault
pub sound-faultless : (b : List ℕ) → length_fits b ≡ true → sound b ≡ true → Faultless b
sound-faultless b fits h =
    let c : 0 < capacity b = omega (arith, capacity-least b fits) in
    let u = sound-used b c h in
    let within = used-within b u in
    let good : (i : ℕ) → 1 ≤ i → i < used b → good_record b i ≡ true = λ i lo hi.
    not-false (good_record b i) (sym (faulty-record b u i lo hi) ∙ none-faulty b h i (omega arith)) in
    record {
      used-fits = u;
      head = not-false (good_head b) (sym (faulty-head b u) ∙ none-faulty b h 0 c);
      known = λ i lo hi. good-known b i (good i lo hi) lo hi;
      user = λ i k. let p = kind-index b user_kind i k in good-user b i (good i p.0 p.1.0) p.1.1;
      entry = λ i k. let p = entry-index b i k in good-entry b i (good i p.0 p.1) (entry-no-user b i k);
    }

-- the rules of a kind make a good record
user-good : (b : List ℕ) (i : ℕ) → kind_at b i ≡ user_kind → UserGood b i → good_record b i ≡ true
unfolding good_record ranges_fit zero_bytes_fit unnamed_of links_fit
user-good b i k g = rw (k, g.fits, g.unnamed, g.next, g.number, g.first, g.order, g.pointed)

entry-good : (b : List ℕ) (i : ℕ) → (kind_at b i ≡ user_kind → ⊥) → EntryGood b i → good_record b i ≡ true
unfolding good_record links_fit
entry-good b i n g = rw (g.own, ne_eqb (kind_at b i) user_kind n, g.links.owner, g.links.next, g.links.order, g.links.pointed)

faultless-good : (b : List ℕ) → Faultless b → (i : ℕ) → 1 ≤ i → i < used b → good_record b i ≡ true
faultless-good b f i lo hi = by-user (is_user b i) refl
  where
    by-user : (t : Bool) → is_user b i ≡ t → good_record b i ≡ true
    by-user true e = user-good b i (kind-is b user_kind i e) (f.user i e)
    by-user false e =
        let entry : is_entry b i ≡ true = rw e at (f.known i lo hi) in
        entry-good b i (entry-no-user b i entry) (f.entry i entry)

pub faultless-sound : (b : List ℕ) → Faultless b → sound b ≡ true
faultless-sound b f = good-sound b f.used-fits f.head (faultless-good b f)
