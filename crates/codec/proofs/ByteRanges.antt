-- Every byte of a string is below 256: what keeps that, and what it says of the numbers that stand there.
use Prim.Native.Nat.{ℕ, zero, suc, ◌+◌, ◌*◌, ◌/◌, ◌%◌, ◌^◌, ◌≤◌, ◌<◌}
use mathlib.Core.Path.{◌≡◌, refl, ap, ap₂, ◌∙◌}
use mathlib.Core.List.{List, [], ◌∷◌, ◌++◌}
use native.Mathlib.Nat.{pow-suc}
use native.Mathlib.Omega.{arith}
use lib.ListN.{length, get_or, take, drop, replicate, length-drop}
use lib.Dec.{lit<}
use Rattle.codec.specs.Bytes.{little_endian, bytes_of, part, number, stored}

abbrev pub Bytes : List ℕ → Type 0
Bytes b = (k : ℕ) → get_or b k 0 < 256

pub none : Bytes []
none k = omega arith

pub more : (x : ℕ) (b : List ℕ) → x < 256 → Bytes b → Bytes (x ∷ b)
more x b h bs zero = h
more x b h bs (suc k) = bs k

append : (a b : List ℕ) → Bytes a → Bytes b → Bytes (a ++ b)
append [] b ha hb = hb
append (x ∷ a) b ha hb = more x (a ++ b) (ha 0) (append a b (λ k. ha (suc k)) hb)

front : (n : ℕ) (b : List ℕ) → Bytes b → Bytes (take n b)
front zero b h = none
front (suc n) [] h = none
front (suc n) (x ∷ b) h = more x (take n b) (h 0) (front n b (λ k. h (suc k)))

rest : (n : ℕ) (b : List ℕ) → Bytes b → Bytes (drop n b)
rest zero b h = h
rest (suc n) [] h = none
rest (suc n) (x ∷ b) h = rest n b (λ k. h (suc k))

pub of_number : (w n : ℕ) → Bytes (bytes_of w n)
unfolding bytes_of
of_number zero n = none
of_number (suc w) n = more (n % 256) (bytes_of w (n / 256)) (omega arith) (of_number w (n / 256))

pub of-zeros : (n : ℕ) → Bytes (replicate n 0)
of-zeros zero = none
of-zeros (suc n) = more 0 (replicate n 0) (omega arith) (of-zeros n)

pub of_part : (w at : ℕ) (s : List ℕ) → Bytes s → Bytes (part w at s)
unfolding part
of_part w at s h = front w (drop at s) (rest at s h)

pub of-stored : (at : ℕ) (bs s : List ℕ) → Bytes bs → Bytes s → Bytes (stored at bs s)
unfolding stored
of-stored at bs s hb hs =
    append (take at s) (bs ++ drop (at + length bs) s) (front at s hs)
    (append bs (drop (at + length bs) s) hb (rest (at + length bs) s hs))

-- w bytes make a number below 256 ^ w
front_below : (w : ℕ) (s : List ℕ) → Bytes s → little_endian (take w s) < 256 ^ w
unfolding little_endian
front_below zero s h = lit< {m = 0} {n = 256 ^ 0} tt
front_below (suc w) [] h = let p : 256 ^ suc w ≡ 256 ^ w * 256 = pow-suc 256 w in let q = front_below w [] none in omega arith
front_below (suc w) (x ∷ s) h =
    let p : 256 ^ suc w ≡ 256 ^ w * 256 = pow-suc 256 w in
    let q : little_endian (take w s) < 256 ^ w = front_below w s (λ k. h (suc k)) in
    omega (arith, h 0)

pub number-below : (w at : ℕ) (s : List ℕ) → Bytes s → number w at s < 256 ^ w
unfolding number part
number-below w at s h = front_below w (drop at s) (rest at s h)

-- reading and writing give the bytes back
front-back : (w : ℕ) (s : List ℕ) → w ≤ length s → Bytes s → bytes_of w (little_endian (take w s)) ≡ take w s
unfolding little_endian bytes_of
front-back zero s l h = refl
front-back (suc w) [] l h = let z : ⊥ = omega arith in absurd z
front-back (suc w) (x ∷ s) l h =
    let tail = little_endian (take w s) in
    let low : (x + 256 * tail) % 256 ≡ x = omega (arith, h 0) in
    let high : (x + 256 * tail) / 256 ≡ tail = omega (arith, h 0) in
    ap₂ ◌∷◌ low (ap (bytes_of w) high ∙ front-back w s (omega arith) (λ k. h (suc k)))

pub bytes_back : (w at : ℕ) (s : List ℕ) → at + w ≤ length s → Bytes s → bytes_of w (number w at s) ≡ part w at s
unfolding number part
bytes_back w at s l h = front-back w (drop at s) (rw length-drop (omega arith)) (rest at s h)
