-- A digit more or the end of the digits: what the number at a place becomes. A number above a bound stays above it.
use Prim.Native.Nat.{ℕ, suc, ◌+◌, ◌-◌, ◌*◌, ◌≤◌, ◌<◌, min}
use mathlib.Core.Path.{◌≡◌}
use mathlib.Core.Bool.{Bool, true, false, cond}
use mathlib.Core.List.{List, [], ◌∷◌}
use native.Mathlib.Decide.{dec_lt}
use native.Mathlib.Numerals.{add-one}
use native.Mathlib.Omega.{arith}
use borrow.Author.Tests.{leb-true}
use lib.Dec.{leb}
use lib.ListN.{length, get_or, drop, get_or-eq_default, drop_of_length-le}
use lib.Seq.{drop-cons}
use Rattle.units.proofs.Bools.{and_left, and_right}
use Rattle.decimals.specs.Decimals.{is_digit, digits, value_after}

-- a byte other than 0 stands within the text
pub inside : (s : List ℕ) (k : ℕ) → (get_or s k 0 ≡ 0 → ⊥) → k < length s
inside s k h = either (dec_lt k (length s))
  where
    either : Dec (k < length s) → k < length s
    either (yes l) = l
    either (no m) = absurd (h (get_or-eq_default s 0 (omega (arith, m))))

pub digit-bounds : (b : ℕ) → is_digit b ≡ true → (48 ≤ b) × (b ≤ 57)
unfolding is_digit
digit-bounds b e = (leb-true 48 b (and_left (leb 48 b) (leb b 57) e), leb-true b 57 (and_right (leb 48 b) (leb b 57) e))

digit-inside : (s : List ℕ) (k : ℕ) → is_digit (get_or s k 0) ≡ true → k < length s
digit-inside s k e = let b = digit-bounds (get_or s k 0) e in inside s k (λ z. omega arith)

-- a digit more
pub digits_more : (s : List ℕ) (k : ℕ) → is_digit (get_or s k 0) ≡ true → digits (drop k s) ≡ suc (digits (drop (k + 1) s))
unfolding digits
digits_more s k e = rw (add-one, drop-cons s k 0 (digit-inside s k e), e)

pub value-more : (n : ℕ) (s : List ℕ) (k : ℕ) → is_digit (get_or s k 0) ≡ true
    → value_after n (drop k s) ≡ value_after (n * 10 + (get_or s k 0 - 48)) (drop (k + 1) s)
unfolding value_after
value-more n s k e = rw (add-one, drop-cons s k 0 (digit-inside s k e), e)

-- no digit more
pub digits-none : (s : List ℕ) (k : ℕ) → is_digit (get_or s k 0) ≡ false → digits (drop k s) ≡ 0
unfolding digits
digits-none s k e = either (dec_lt k (length s))
  where
    either : Dec (k < length s) → digits (drop k s) ≡ 0
    either (yes l) = rw (drop-cons s k 0 l, e)
    either (no m) = let end : length s ≤ k = omega (arith, m) in rw (drop_of_length-le s end)

pub value_none : (n : ℕ) (s : List ℕ) (k : ℕ) → is_digit (get_or s k 0) ≡ false → value_after n (drop k s) ≡ n
unfolding value_after
value_none n s k e = either (dec_lt k (length s))
  where
    either : Dec (k < length s) → value_after n (drop k s) ≡ n
    either (yes l) = rw (drop-cons s k 0 l, e)
    either (no m) = let end : length s ≤ k = omega (arith, m) in rw (drop_of_length-le s end)

-- more digits make no smaller number
value-least : (n : ℕ) (t : List ℕ) → n ≤ value_after n t
unfolding value_after
value-least n [] = omega arith
value-least n (b ∷ bs) = by-test (is_digit b) (value-least (n * 10 + (b - 48)) bs)
  where
    by-test : (d : Bool) → n * 10 + (b - 48) ≤ value_after (n * 10 + (b - 48)) bs → n ≤ cond d (value_after (n * 10 + (b - 48)) bs) n
    by-test true more = omega arith
    by-test false more = omega arith

-- digits behind a number that is above a bound change nothing of what counts
pub value-capped : (most n : ℕ) (t : List ℕ) → min (value_after (min n most) t) most ≡ min (value_after n t) most
value-capped most n t = by_size (dec_lt n most)
  where
    by_size : Dec (n < most) → min (value_after (min n most) t) most ≡ min (value_after n t) most
    by_size (yes less) = let same : min n most ≡ n = omega arith in rw same
    by_size (no more) =
        let all : min n most ≡ most = omega (arith, more) in
        let one = value-least most t in
        let other = value-least n t in
        rw all (omega (arith, more))
