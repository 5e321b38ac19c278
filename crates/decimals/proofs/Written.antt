-- Laws of decimal digits: a number is the digits before the last one and the last one, however large it is; k digits hold every
-- number below 10^k.
use Prim.Native.Nat.{ℕ, zero, suc, ◌+◌, ◌*◌, ◌/◌, ◌%◌, ◌^◌, ◌≤◌, ◌<◌}
use mathlib.Core.Path.{◌≡◌, sym, ap, ◌∙◌}
use mathlib.Core.Bool.{true, false, cond}
use mathlib.Core.List.{List, [], ◌∷◌, ◌++◌}
use native.Mathlib.Nat.{pow-suc, one-le-pow, zero-add}
use native.Mathlib.Decide.{dec_lt}
use native.Mathlib.Omega.{arith}
use lib.Dec.{ltb}
use borrow.Author.Tests.{lt-ltb, le-ltb}
use lib.ListN.{length, take, set, length-append}
use lib.Seq.{take_at}
use Rattle.codec.specs.Bytes.{stored}
use Rattle.codec.proofs.Stores.{length-stored}
use Rattle.codec.proofs.Pieces.{stored_next}
use Rattle.decimals.specs.Decimals.{decimal_of, decimal, field}

-- any count of digits above the number itself gives the same
enough : (k j n : ℕ) → n < k → n < j → decimal_of k n ≡ decimal_of j n
unfolding decimal_of
enough zero j n h l = let z : ⊥ = omega arith in absurd z
enough (suc k) zero n h l = let z : ⊥ = omega arith in absurd z
enough (suc k) (suc j) n h l = by_size (dec_lt n 10) (λ less. enough k j (n / 10) (omega arith) (omega arith))
  where
    by_size : Dec (n < 10) → (10 ≤ n → decimal_of k (n / 10) ≡ decimal_of j (n / 10)) → decimal_of (suc k) n ≡ decimal_of (suc j) n
    by_size (yes less) rest = let small : ltb n 10 ≡ true = lt-ltb n 10 less in rw small
    by_size (no more) rest =
        let ten : 10 ≤ n = omega (arith, more) in
        let large : ltb n 10 ≡ false = le-ltb n 10 ten in
        rw (large, rest ten)

-- the digits before the last one
unfoldable pub front : ℕ → List ℕ
front n = cond (ltb n 10) [] (decimal (n / 10))

pub front-none : (n : ℕ) → n < 10 → front n ≡ []
unfolding front
front-none n h = let small : ltb n 10 ≡ true = lt-ltb n 10 h in rw small

pub front-more : (n : ℕ) → 10 ≤ n → front n ≡ decimal (n / 10)
unfolding front
front-more n h = let large : ltb n 10 ≡ false = le-ltb n 10 h in rw large

decimal-last : (n : ℕ) → decimal n ≡ front n ++ ((48 + n % 10) ∷ [])
unfolding front decimal decimal_of
decimal-last n = by_size (dec_lt n 10)
  where
    by_size : Dec (n < 10) → decimal_of (suc n) n ≡ front n ++ ((48 + n % 10) ∷ [])
    by_size (yes less) =
        let small : ltb n 10 ≡ true = lt-ltb n 10 less in
        let digit : n % 10 ≡ n = omega arith in
        rw (small, digit)
    by_size (no more) =
        let large : ltb n 10 ≡ false = le-ltb n 10 (omega (arith, more)) in
        rw (large, enough n (suc (n / 10)) (n / 10) (omega (arith, more)) (omega arith))

-- a single digit, and a digit more
pub decimal_digit : (n : ℕ) → n < 10 → decimal n ≡ (48 + n) ∷ []
decimal_digit n h =
    let digit : n % 10 ≡ n = omega arith in
    decimal-last n ∙ ap (λ (f : List ℕ). f ++ ((48 + n % 10) ∷ [])) (front-none n h) ∙ ap (λ (d : ℕ). (48 + d) ∷ []) digit

pub decimal-more : (n : ℕ) → 10 ≤ n → decimal n ≡ decimal (n / 10) ++ ((48 + n % 10) ∷ [])
decimal-more n h = decimal-last n ∙ ap (λ (f : List ℕ). f ++ ((48 + n % 10) ∷ [])) (front-more n h)

pub front_length : (n : ℕ) → length (front n) + 1 ≡ length (decimal n)
front_length n = sym (ap length (decimal-last n) ∙ length-append (front n) ((48 + n % 10) ∷ []))

pub length_more : (n : ℕ) → 10 ≤ n → length (decimal n) ≡ length (decimal (n / 10)) + 1
length_more n h = ap length (decimal-more n h) ∙ length-append (decimal (n / 10)) ((48 + n % 10) ∷ [])

-- k digits hold every number below 10^k, and no number from 10^k on
pub decimal-short : (k n : ℕ) → n < 10 ^ suc k → length (decimal n) ≤ suc k
decimal-short zero n h = let l : length (decimal n) ≡ 1 = ap length (decimal_digit n (omega arith)) in omega arith
decimal-short (suc k) n h = by_size (dec_lt n 10) (decimal-short k)
  where
    by_size : Dec (n < 10) → ((m : ℕ) → m < 10 ^ suc k → length (decimal m) ≤ suc k) → length (decimal n) ≤ suc (suc k)
    by_size (yes less) shorter = let l : length (decimal n) ≡ 1 = ap length (decimal_digit n less) in omega arith
    by_size (no more) shorter =
        let rest : n / 10 < 10 ^ suc k = let p : 10 ^ suc (suc k) ≡ 10 ^ suc k * 10 = pow-suc 10 (suc k) in omega arith in
        let before : length (front n) ≡ length (decimal (n / 10)) = ap length (front-more n (omega (arith, more))) in
        omega (arith, front_length n, shorter (n / 10) rest)

pub decimal-long : (k n : ℕ) → 10 ^ k ≤ n → suc k ≤ length (decimal n)
decimal-long zero n h = omega (arith, front_length n)
decimal-long (suc k) n h =
    let p : 10 ^ suc k ≡ 10 ^ k * 10 = pow-suc 10 k in
    let one : 1 ≤ 10 ^ k = one-le-pow k 10 (omega arith) in
    let rest : 10 ^ k ≤ n / 10 = omega arith in
    omega (arith, length_more n (omega arith), decimal-long k (n / 10) rest)

pub field-length : (n stop : ℕ) → length (field n stop) ≡ length (decimal n) + 1
unfolding field
field-length n stop = length-append (decimal n) (stop ∷ [])

-- the last digit behind those before it, and the byte behind a number
module _ (at n : ℕ) (s : List ℕ) (room : at + length (decimal n) ≤ length s) where
  pub front-inside : at + length (front n) < length s
  front-inside = omega (arith, front_length n)

  pub length_front : length (stored at (front n) s) ≡ length s
  length_front = length-stored at (front n) s (omega (arith, front-inside))

  pub last_written : set (stored at (front n) s) (at + length (front n)) (48 + n % 10) ≡ stored at (decimal n) s
  last_written = stored_next at (48 + n % 10) (front n) s front-inside ∙ ap (λ (bs : List ℕ). stored at bs s) (sym (decimal-last n))

-- a number that was written at the front of a text stands there
pub number-front : (n count : ℕ) (s out : List ℕ) → count ≡ 0 + length (decimal n) → out ≡ stored 0 (decimal n) s → take count out ≡ decimal n
unfolding stored
number-front n count s out c e = rw e (take_at (decimal n) _ count (sym (c ∙ zero-add (length (decimal n)))))

pub field-written : (at n stop : ℕ) (s : List ℕ) → at + length (field n stop) ≤ length s
    → set (stored at (decimal n) s) (at + length (decimal n)) stop ≡ stored at (field n stop) s
unfolding field
field-written at n stop s h = stored_next at stop (decimal n) s (omega (arith, field-length n stop))
