-- Laws of numbers in bytes: a number is worked from the bytes one by one, and writing and reading give it back.
use Prim.Native.Nat.{ℕ, zero, suc, ◌+◌, ◌-◌, ◌*◌, ◌/◌, ◌^◌, ◌≤◌, ◌<◌}
use mathlib.Core.Path.{◌≡◌, refl, sym, ap, ap₂, ◌∙◌}
use mathlib.Core.List.{List, [], ◌∷◌}
use native.Mathlib.Nat.{add-zero, pow-suc, sub-zero}
use native.Mathlib.Omega.{arith}
use lib.ListN.{length, get_or, take, drop}
use lib.Seq.{get_or-drop, take-nil, take-take, drop-drop}
use Rattle.codec.specs.Bytes.{little_endian, bytes_of, part, number}

-- f 0, f 1, .. f (n − 1)
abbrev pub table : ℕ → (ℕ → ℕ) → List ℕ
table zero f = []
table (suc n) f = f 0 ∷ table n (λ i. f (suc i))

table-cong : (n : ℕ) (f g : ℕ → ℕ) → ((i : ℕ) → i < n → f i ≡ g i) → table n f ≡ table n g
table-cong zero f g h = refl
table-cong (suc n) f g h =
    ap₂ ◌∷◌ (h 0 (omega arith)) (table-cong n (λ i. f (suc i)) (λ i. g (suc i)) (λ i l. h (suc i) (omega (arith, l))))

zeros-value : (w : ℕ) → little_endian (table w (λ i. 0)) ≡ 0
unfolding little_endian
zeros-value zero = refl
zeros-value (suc w) = let tail = zeros-value w in omega arith

-- bytes left out past the end count as zero
front-value : (w : ℕ) (s : List ℕ) → little_endian (take w s) ≡ little_endian (table w (λ i. get_or s i 0))
unfolding little_endian
front-value zero s = refl
front-value (suc w) [] = sym (zeros-value (suc w))
front-value (suc w) (b ∷ s) = ap (λ (n : ℕ). b + 256 * n) (front-value w s)

pub number-bytes : (w at : ℕ) (s : List ℕ) → number w at s ≡ little_endian (table w (λ i. get_or s (at + i) 0))
unfolding number part
number-bytes w at s =
    front-value w (drop at s) ∙ ap little_endian (table-cong w (λ i. get_or (drop at s) i 0) (λ i. get_or s (at + i) 0) (λ i l. get_or-drop at s i 0))

-- the number at a place, from eight bytes that are those of the string, with zeros past its end
pub number_padded : (w at : ℕ) (bytes s : List ℕ) → w ≤ 8 → ((i : ℕ) → i < 8 → get_or bytes i 0 ≡ get_or s (at + i) 0)
    → little_endian (take w bytes) ≡ number w at s
number_padded w at bytes s h same =
    front-value w bytes
    ∙ ap little_endian (table-cong w (λ i. get_or bytes i 0) (λ i. get_or s (at + i) 0) (λ i l. same i (omega (arith, h, l))))
    ∙ sym (number-bytes w at s)

pub length-bytes : (w n : ℕ) → length (bytes_of w n) ≡ w
unfolding bytes_of
length-bytes zero n = refl
length-bytes (suc w) n = ap suc (length-bytes w (n / 256))

-- writing and reading give the number back
pub bytes-value : (w n : ℕ) → n < 256 ^ w → little_endian (bytes_of w n) ≡ n
unfolding little_endian bytes_of
bytes-value zero n h = omega arith
bytes-value (suc w) n h =
    let rest : n / 256 < 256 ^ w = let p : 256 ^ suc w ≡ 256 ^ w * 256 = pow-suc 256 w in omega arith in
    let tail : little_endian (bytes_of w (n / 256)) ≡ n / 256 = bytes-value w (n / 256) rest in
    omega arith

-- a number of one byte, and one of four
pub number-one : (at : ℕ) (s : List ℕ) → number 1 at s ≡ get_or s at 0
unfolding little_endian
number-one at s = rw (number-bytes 1 at s, add-zero at) (omega arith)

pub number-four : (at : ℕ) (s : List ℕ) → number 4 at s
    ≡ (get_or s at 0 + get_or s (at + 1) 0 * 256) + (get_or s (at + 2) 0 + get_or s (at + 3) 0 * 256) * 65536
unfolding little_endian
number-four at s = rw (number-bytes 4 at s, add-zero at) (omega arith)

pub drop-take : (o at : ℕ) (s : List ℕ) → drop o (take at s) ≡ take (at - o) (drop o s)
drop-take zero at s = rw sub-zero
drop-take (suc o) zero s = let none : 0 - suc o ≡ 0 = omega arith in rw none
drop-take (suc o) (suc at) [] = sym (take-nil (suc at - suc o))
drop-take (suc o) (suc at) (x ∷ s) = let less : suc at - suc o ≡ at - o = omega arith in rw less (drop-take o at s)

-- a number within a part is a number of the whole
pub number-part : (w o n at : ℕ) (s : List ℕ) → o + w ≤ n → number w o (part n at s) ≡ number w (at + o) s
unfolding number part
number-part w o n at s h =
    ap little_endian
    (ap (take w) (drop-take o n (drop at s) ∙ ap (take (n - o)) (drop-drop o at s))
    ∙ take-take w (n - o) (drop (at + o) s) (omega arith))
