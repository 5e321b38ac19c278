-- A book with one record more: its head, its size, and that it is good when the old records and the new one are.
use Prim.Native.Nat.{ℕ, ◌+◌, ◌≤◌, ◌<◌}
use mathlib.Core.Path.{◌≡◌, subst}
use mathlib.Core.Bool.{true, ◌||◌}
use mathlib.Core.List.{List}
use native.Mathlib.Decide.{dec_lt}
use native.Mathlib.Omega.{arith}
use borrow.Author.Tests.{le-leb}
use lib.Dec.{eqb}
use lib.ListN.{length}
use Rattle.units.proofs.Bools.{and_left, and_right, and_both}
use Rattle.book_layout.specs.Fields.{record_at, all_zero, unnamed_of_head, capacity, user_kind}
use Rattle.book_layout.proofs.ByteRanges.{Bytes}
use Rattle.book_rules.specs.Book.{length_fits, used, used_fits, first_user, good_head, is_user, has_kind, kind_at}
use Rattle.book_rules.proofs.RecordKinds.{has-kind}
use Rattle.call_keeps.proofs.Bools.{or-stays}
use Rattle.call_keeps.proofs.Good.{Good, sizes}
use Rattle.call_keeps.proofs.Written.{HeadAt}
use Rattle.call_keeps.proofs.Frame.{Frame}
use Rattle.call_keeps.proofs.KindsKept.{kind-stays}
use Rattle.call_keeps.proofs.RecordsKept.{GoodAt, good-records}

-- the first user is 0 or a user
pub first-user-fits : (b : List ℕ) → good_head b ≡ true → (eqb (first_user b) 0 || is_user b (first_user b)) ≡ true
unfolding good_head
first-user-fits b h = and_left (eqb (first_user b) 0 || is_user b (first_user b)) (all_zero unnamed_of_head (record_at b 0)) h

pub head-rest : (b : List ℕ) → good_head b ≡ true → all_zero unnamed_of_head (record_at b 0) ≡ true
unfolding good_head
head-rest b h = and_right (eqb (first_user b) 0 || is_user b (first_user b)) (all_zero unnamed_of_head (record_at b 0)) h

pub head-good : (b : List ℕ) (first : ℕ) → first_user b ≡ first → (eqb first 0 || is_user b first) ≡ true → all_zero unnamed_of_head (record_at b 0) ≡ true → good_head b ≡ true
unfolding good_head
head-good b first e h rest = rw e (and_both h rest)

-- a first user that stays is still one
pub first-user-stays : (b b' : List ℕ) (i : ℕ) → Frame b b' i → good_head b ≡ true → (eqb (first_user b) 0 || is_user b' (first_user b)) ≡ true
first-user-stays b b' i f h = or-stays (eqb (first_user b) 0) (is_user b (first_user b)) (λ e. e) (kind-stays b b' i f user_kind (first_user b)) (first-user-fits b h)

pub length-kept : (b b' : List ℕ) → length b' ≡ length b → length_fits b ≡ true → length_fits b' ≡ true
unfolding length_fits
length-kept b b' e h = rw e h

module _ (b b' : List ℕ) (g : Good b) (room : used b < capacity b) (l : length b' ≡ length b) (first : ℕ) (head : HeadAt b' (used b + 1) first) where
  grown : used b < used b'
  grown = omega (arith, head.used-is)

  grown-fits : used_fits b' ≡ true
  unfolding used_fits
  grown-fits = and_both (le-leb 1 (used b') (omega (arith, head.used-is))) (le-leb (used b') (capacity b') (omega (arith, head.used-is)))

  -- the new record has the kind that it holds
  pub new-kind : (k : ℕ) → kind_at b' (used b) ≡ k → has_kind b' k (used b) ≡ true
  new-kind k e = let s = sizes b g in has-kind b' k (used b) s.some grown e

  pub grown-good : Bytes b' → (eqb first 0 || is_user b' first) ≡ true → ((j : ℕ) → 1 ≤ j → j < used b → GoodAt b' j) → GoodAt b' (used b) → Good b'
  grown-good bytes linked old new =
      record {
        bytes = bytes;
        length = length-kept b b' l g.length;
        faultless = good-records b' grown-fits (head-good b' first head.first-is linked head.rest) (λ j lo hi. by_place j lo hi (dec_lt j (used b)));
      }
    where
      by_place : (j : ℕ) → 1 ≤ j → j < used b' → Dec (j < used b) → GoodAt b' j
      by_place j lo hi (yes lower) = old j lo lower
      by_place j lo hi (no n) = let last : used b ≡ j = omega (arith, n, head.used-is) in subst (GoodAt b') last new
