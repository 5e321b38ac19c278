-- Which records are faulty, case by case, and that a sound book is one without a faulty record.
use Prim.Native.Nat.{ℕ, ◌+◌, ◌*◌, ◌≤◌, ◌<◌}
use mathlib.Core.Path.{◌≡◌, refl, sym, ap, ◌∙◌}
use mathlib.Core.Bool.{Bool, true, false, not, and-false, true≢false}
use mathlib.Core.List.{List}
use native.Mathlib.Decide.{dec_lt}
use native.Mathlib.Omega.{arith}
use borrow.Author.Tests.{leb-true, lt-ltb, le-ltb, ne_eqb, eqb-true, not-true}
use lib.Dec.{leb, eqb}
use lib.ListN.{length}
use Rattle.units.specs.Limits.{record_length, most_records}
use Rattle.units.proofs.Bools.{and_left, and_right}
use Rattle.units.proofs.Folds.{none-at, none_of, any_of, first-is}
use Rattle.book_layout.specs.Fields.{capacity, user_kind}
use Rattle.book_rules.specs.Book.{length_fits, used, used_fits, kind_at, owner_fits, own_rules_fit, links_fit, good_record, good_head, faulty, sound, smallest_faulty}
use Rattle.book_rules.proofs.Lengths.{capacity-least, capacity-most}

pub used-within : (b : List ℕ) → used_fits b ≡ true → (1 ≤ used b) × (used b ≤ capacity b)
unfolding used_fits
used-within b u =
    (leb-true 1 (used b) (and_left (leb 1 (used b)) (leb (used b) (capacity b)) u), leb-true (used b) (capacity b) (and_right (leb 1 (used b)) (leb (used b) (capacity b)) u))

-- where u is outside 1 to capacity the head alone is faulty
pub faulty-unfit : (b : List ℕ) (i : ℕ) → used_fits b ≡ false → faulty b i ≡ eqb i 0
unfolding faulty
faulty-unfit b i u = rw u

module _ (b : List ℕ) (u : used_fits b ≡ true) where
  -- the book has a record that is used whole
  pub used-whole : (i : ℕ) → i < used b → record_length * i + record_length ≤ length b
  used-whole i h = let m = (used-within b u).1 in omega arith

  pub used-counted : length_fits b ≡ true → used b ≤ most_records
  used-counted fits = let c = capacity-most b fits in let m = (used-within b u).1 in omega arith

  pub faulty-head : faulty b 0 ≡ not (good_head b)
  unfolding faulty
  faulty-head = rw (u, lt-ltb 0 (used b) (used-within b u).0)

  pub faulty-record : (i : ℕ) → 1 ≤ i → i < used b → faulty b i ≡ not (good_record b i)
  unfolding faulty
  faulty-record i p h = rw (u, lt-ltb i (used b) h, ne_eqb i 0 (omega arith))

  faulty-past : (i : ℕ) → used b ≤ i → faulty b i ≡ false
  unfolding faulty
  faulty-past i h = rw (u, le-ltb i (used b) h)

-- a record that breaks a rule of its own is not good, nor is one that is no user and whose owner is no user before it
module _ (b : List ℕ) (i : ℕ) where
  pub own-bad : own_rules_fit b i ≡ false → good_record b i ≡ false
  unfolding good_record
  own-bad e = rw e

  no-links : (kind_at b i ≡ user_kind → ⊥) → owner_fits b i ≡ false → links_fit b i ≡ false
  unfolding links_fit
  no-links u f = rw (ne_eqb (kind_at b i) user_kind u, f)

  pub ownerless-bad : (kind_at b i ≡ user_kind → ⊥) → owner_fits b i ≡ false → good_record b i ≡ false
  unfolding good_record
  ownerless-bad u f = rw (no-links u f, and-false (own_rules_fit b i))

-- "A book is sound if no record is faulty."
pub none-faulty : (b : List ℕ) → sound b ≡ true → (i : ℕ) → i < capacity b → faulty b i ≡ false
unfolding sound
none-faulty b s = none-at (capacity b) (faulty b) (not-true _ s)

-- a book is sound if u, the head and every other record are good
pub good-sound : (b : List ℕ) → used_fits b ≡ true → good_head b ≡ true → ((i : ℕ) → 1 ≤ i → i < used b → good_record b i ≡ true)
    → sound b ≡ true
unfolding sound
good-sound b u head records = ap not (none_of (capacity b) (faulty b) (λ i _. by_index i (dec_lt i (used b)) (dec_lt 0 i)))
  where
    by_index : (i : ℕ) → Dec (i < used b) → Dec (0 < i) → faulty b i ≡ false
    by_index i (no past) d = faulty-past b u i (omega (arith, past))
    by_index i (yes h) (yes p) = faulty-record b u i p h ∙ ap not (records i p h)
    by_index i (yes h) (no z) = let e : i ≡ 0 = omega (arith, z) in rw e (faulty-head b u ∙ ap not head)

-- a faulty record lies in the book, so that a book with one is not sound
faulty-below : (b : List ℕ) → length_fits b ≡ true → (i : ℕ) → faulty b i ≡ true → i < capacity b
faulty-below b fits i f = by-used (used_fits b) refl
  where
    by_order : used_fits b ≡ true → Dec (i < used b) → i < capacity b
    by_order u (yes h) = omega (arith, (used-within b u).1)
    by_order u (no past) = absurd (true≢false (sym f ∙ faulty-past b u i (omega (arith, past))))

    by-used : (t : Bool) → used_fits b ≡ t → i < capacity b
    by-used true u = by_order u (dec_lt i (used b))
    by-used false u =
        let z : i ≡ 0 = eqb-true i 0 (sym (faulty-unfit b i u) ∙ f) in
        omega (arith, capacity-least b fits)

pub faulty-not-sound : (b : List ℕ) → length_fits b ≡ true → (i : ℕ) → faulty b i ≡ true → sound b ≡ false
unfolding sound
faulty-not-sound b fits i f = rw (any_of (capacity b) (faulty b) i (faulty-below b fits i f) f)

-- the smallest faulty record: it is faulty, and none before it is
pub smallest-is : (b : List ℕ) → length_fits b ≡ true → (i : ℕ) → faulty b i ≡ true → ((j : ℕ) → j < i → faulty b j ≡ false) → i ≡ smallest_faulty b
unfolding smallest_faulty
smallest-is b fits i f before = first-is (capacity b) (faulty b) i (faulty-below b fits i f) f before

-- the head, where it is faulty
pub smallest-head : (b : List ℕ) → length_fits b ≡ true → faulty b 0 ≡ true → 0 ≡ smallest_faulty b
smallest-head b fits f = smallest-is b fits 0 f (λ j l. let z : ⊥ = omega arith in absurd z)

-- another record, where the head and all records before it are good
pub smallest-record : (b : List ℕ) → length_fits b ≡ true → used_fits b ≡ true → good_head b ≡ true → (i : ℕ) → 1 ≤ i → i < used b → good_record b i ≡ false
    → ((j : ℕ) → 1 ≤ j → j < i → good_record b j ≡ true) → i ≡ smallest_faulty b
smallest-record b fits u head i lo hi bad before = smallest-is b fits i (faulty-record b u i lo hi ∙ ap not bad) (λ j l. by_index j l (dec_lt 0 j))
  where
    by_index : (j : ℕ) → j < i → Dec (0 < j) → faulty b j ≡ false
    by_index j l (yes p) = faulty-record b u j p (omega arith) ∙ ap not (before j p l)
    by_index j l (no z) = let e : j ≡ 0 = omega (arith, z) in rw e (faulty-head b u ∙ ap not head)
