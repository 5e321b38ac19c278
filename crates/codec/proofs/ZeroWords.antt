-- A stretch of zero bytes by words: a word is zero where its bytes are.
use Prim.Native.Nat.{ℕ, zero, suc, ◌+◌, ◌*◌, ◌≤◌, ◌<◌}
use mathlib.Core.Path.{◌≡◌, refl, sym, ap, ap₂, ◌∙◌}
use mathlib.Core.Bool.{Bool, true, false, ◌&&◌}
use mathlib.Core.List.{List, []}
use native.Mathlib.Omega.{arith}
use borrow.Author.Tests.{eq-eqb, eqb-true}
use lib.Dec.{eqb}
use lib.ListN.{get_or, take, drop}
use Rattle.std.specs.Simd.{first_chunks}
use Rattle.std.proofs.lemmas.List.{drop-drop}
use Rattle.units.proofs.Folds.{all-at, all_of}
use Rattle.codec.specs.Bytes.{little_endian, number, part, zeros}
use Rattle.codec.proofs.Numbers.{table, number-bytes, number-part}
use Rattle.codec.proofs.ZeroBytes.{zeros-more}

-- two tests that pass together are one
same_test : (s t : Bool) → (s ≡ true → t ≡ true) → (t ≡ true → s ≡ true) → s ≡ t
same_test true t f g = sym (f refl)
same_test false true f g = g refl
same_test false false f g = refl

-- a number is zero where its bytes are
bytes-zero : (w : ℕ) (f : ℕ → ℕ) → little_endian (table w f) ≡ 0 → (i : ℕ) → i < w → f i ≡ 0
unfolding little_endian
bytes-zero zero f e i l = let z : ⊥ = omega arith in absurd z
bytes-zero (suc w) f e zero l = omega arith
bytes-zero (suc w) f e (suc i) l = bytes-zero w (λ k. f (suc k)) (omega arith) i (omega arith)

number-zero : (w : ℕ) (f : ℕ → ℕ) → ((i : ℕ) → i < w → f i ≡ 0) → little_endian (table w f) ≡ 0
unfolding little_endian
number-zero zero f h = refl
number-zero (suc w) f h = let tail = number-zero w (λ k. f (suc k)) (λ i l. h (suc i) (omega arith)) in omega (arith, h 0 (omega arith))

zero_number : (w at : ℕ) (s : List ℕ) → eqb (number w at s) 0 ≡ zeros at w s
unfolding zeros
zero_number w at s =
    same_test (eqb (number w at s) 0) (zeros at w s)
    (λ e. all_of w test (λ i l. eq-eqb (byte i) 0 (bytes-zero w byte (sym (number-bytes w at s) ∙ eqb-true (number w at s) 0 e) i l)))
    (λ z. eq-eqb (number w at s) 0 (number-bytes w at s ∙ number-zero w byte (λ i l. eqb-true (byte i) 0 (all-at w test z i l))))
  where
    byte : ℕ → ℕ
    byte i = get_or s (at + i) 0

    test : ℕ → Bool
    test i = eqb (byte i) 0

-- the word at an index of those into which a list is cut
word-at : (w k i : ℕ) (s : List ℕ) → i < k → get_or (first_chunks w k s) i [] ≡ take w (drop (i * w) s)
word-at w zero i s h = let z : ⊥ = omega arith in absurd z
word-at w (suc k) zero s h = let none : 0 * w ≡ 0 = omega arith in rw none refl
word-at w (suc k) (suc i) s h =
    let more : w + i * w ≡ suc i * w = omega arith in
    word-at w k i (drop w s) (omega arith) ∙ ap (take w) (drop-drop (i * w) w s ∙ ap (λ (o : ℕ). drop o s) more)

-- a running test, taken a word of a part further
pub word_next : (w k i from n : ℕ) (s : List ℕ) {all : Bool} {word : ℕ} → i < k → i * w + w ≤ n → all ≡ zeros from (i * w) s
    → word ≡ little_endian (get_or (first_chunks w k (take n (drop from s))) i []) → (all && eqb word 0) ≡ zeros from ((i + 1) * w) s
unfolding number part
word_next w k i from n s less within a e =
    let next : i * w + w ≡ (i + 1) * w = omega arith in
    let here : little_endian (take w (drop (i * w) (take n (drop from s)))) ≡ number w (from + i * w) s = number-part w (i * w) n from s within in
    ap₂ ◌&&◌ a (ap (λ (b : ℕ). eqb b 0) (e ∙ ap little_endian (word-at w k i (take n (drop from s)) less) ∙ here) ∙ zero_number w (from + i * w) s)
    ∙ sym (zeros-more from (i * w) w s)
    ∙ ap (λ (c : ℕ). zeros from c s) next
