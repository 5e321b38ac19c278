-- A stretch of zero bytes: byte by byte, in two parts, and of it only what stands within the string.
use Prim.Native.Nat.{ℕ, zero, suc, ◌+◌, ◌-◌, ◌≤◌}
use mathlib.Core.Path.{◌≡◌, refl, sym, ap, ap₂, ◌∙◌}
use mathlib.Core.Bool.{Bool, true, ◌&&◌, and-true, and_assoc}
use mathlib.Core.List.{List}
use native.Mathlib.Nat.{add-zero, add-suc, add_assoc}
use native.Mathlib.Decide.{dec_le}
use native.Mathlib.Omega.{arith}
use lib.Dec.{eqb}
use Rattle.std.proofs.Common.{add-one, min}
use lib.ListN.{length, get_or}
use Rattle.std.proofs.lemmas.List.{get_or_past}
use Rattle.units.specs.Folds.{all_below}
use Rattle.codec.specs.Bytes.{zeros}

pub zeros_none : (from : ℕ) (s : List ℕ) → true ≡ zeros from 0 s
unfolding zeros all_below
zeros_none from s = refl

-- a running test, taken a byte further
pub zeros_next : (from i : ℕ) (s : List ℕ) {all : Bool} {b : ℕ} → all ≡ zeros from i s → b ≡ get_or s (from + i) 0
    → (all && eqb b 0) ≡ zeros from (i + 1) s
unfolding zeros all_below
zeros_next from i s a e = rw (add-one) (ap₂ ◌&&◌ a (ap (λ (k : ℕ). eqb k 0) e))

-- in two parts
pub zeros-more : (from i n : ℕ) (s : List ℕ) → zeros from (i + n) s ≡ (zeros from i s && zeros (from + i) n s)
unfolding zeros all_below
zeros-more from i zero s = rw (add-zero i, and-true (all_below i (λ k. eqb (get_or s (from + k) 0) 0)))
zeros-more from i (suc n) s =
    rw (add-suc i n) (ap₂ ◌&&◌ (zeros-more from i n s) (ap (λ (k : ℕ). eqb (get_or s k 0) 0) (sym (add_assoc from i n))))
    ∙ and_assoc (zeros from i s) (zeros (from + i) n s) (eqb (get_or s (from + i + n) 0) 0)

-- past the end all is zero
zeros-past : (from n : ℕ) (s : List ℕ) → length s ≤ from → zeros from n s ≡ true
unfolding zeros all_below
zeros-past from zero s h = refl
zeros-past from (suc n) s h = rw (zeros-past from n s h, get_or_past s (from + n) 0 (omega (arith, h)))

-- what stands within the string decides
pub zeros_within : (from count first end : ℕ) (s : List ℕ) → end ≡ min (from + count) (length s) → first ≡ min from end
    → zeros first (end - first) s ≡ zeros from count s
zeros_within from count first end s e f = either (dec_le from (length s))
  where
    inside : from ≤ length s → zeros first (end - first) s ≡ zeros from count s
    inside l =
        let same : first ≡ from = omega (arith, e, f, l) in
        let rest : count ≡ (end - from) + (count - (end - from)) = omega (arith, e, l) in
        let past : zeros (from + (end - from)) (count - (end - from)) s ≡ true = tail (dec_le (from + count) (length s)) in
        rw same (sym (ap (λ (k : ℕ). zeros from k s) rest ∙ zeros-more from (end - from) (count - (end - from)) s ∙ rw (past, and-true (zeros from (end - from) s))))
      where
        tail : Dec (from + count ≤ length s) → zeros (from + (end - from)) (count - (end - from)) s ≡ true
        tail (yes k) = let none : count - (end - from) ≡ 0 = omega (arith, e, k) in rw none (sym (zeros_none (from + (end - from)) s))
        tail (no g) = zeros-past (from + (end - from)) (count - (end - from)) s (omega (arith, e, g, l))

    either : Dec (from ≤ length s) → zeros first (end - first) s ≡ zeros from count s
    either (yes l) = inside l
    either (no g) =
        let none : end - first ≡ 0 = omega (arith, e, f, g) in
        rw none (sym (zeros_none first s) ∙ sym (zeros-past from count s (omega (arith, g))))
