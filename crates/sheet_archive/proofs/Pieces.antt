-- Pieces of one size, one after the other: each is a part of the whole, and a string cut into pieces is put together again.
use Rattle.std.proofs.Common.{◌≡◌, ℕ, zero, suc, ◌+◌, ◌*◌, ◌<◌, ◌≤◌, List, [], ◌++◌, length, sym, refl, ap, ◌∙◌, ap₂, mul-le-mul_left, mul-zero, mul-suc, arith, length-append, take_all}
use Rattle.units.proofs.Folds.{below_suc}
use Rattle.codec.specs.Bytes.{part}
use Rattle.codec.proofs.Parts.{part-first, part-second, part-add}
use Rattle.sheet_archive.specs.Tables.{pieces}

pub pieces-cong : (n : ℕ) (g h : ℕ → List ℕ) → ((i : ℕ) → i < n → g i ≡ h i) → pieces n g ≡ pieces n h
unfolding pieces
pieces-cong zero g h e = refl
pieces-cong (suc n) g h e = ap₂ ◌++◌ (pieces-cong n g h (λ i l. e i (omega arith))) (e n (omega arith))

part-nothing : (at : ℕ) (s : List ℕ) → part 0 at s ≡ []
unfolding part
part-nothing at s = refl

-- the parts of a string, put together
pub pieces-back : (n size at : ℕ) (s : List ℕ) → pieces n (λ i. part size (at + size * i) s) ≡ part (size * n) at s
unfolding pieces
pieces-back zero size at s = rw mul-zero (sym (part-nothing at s))
pieces-back (suc n) size at s =
    ap (λ (l : List ℕ). l ++ part size (at + size * n) s) (pieces-back n size at s)
    ∙ sym (part-add (size * n) size at s)
    ∙ ap (λ (w : ℕ). part w at s) (sym (mul-suc size n))

module _ (size : ℕ) (g : ℕ → List ℕ) (sized : (i : ℕ) → length (g i) ≡ size) where
  pub length-pieces : (n : ℕ) → length (pieces n g) ≡ size * n
  unfolding pieces
  length-pieces zero = omega arith
  length-pieces (suc n) = rw length-append (omega (arith, length-pieces n, sized n, mul-suc size n))

  part-whole : (i : ℕ) → part size 0 (g i) ≡ g i
  unfolding part
  part-whole i = take_all size (g i) (omega (arith, sized i))

  pub part-piece : (n i : ℕ) → i < n → part size (size * i) (pieces n g) ≡ g i
  unfolding pieces
  part-piece zero i l = let z : ⊥ = omega arith in absurd z
  part-piece (suc n) i l =
      below_suc (λ k. part size (size * k) (pieces n g ++ g n) ≡ g k) n
      (λ k b. part-first size (size * k) (pieces n g) (g n) (inside k b) ∙ part-piece n k b)
      (ap (λ (at : ℕ). part size at (pieces n g ++ g n)) seam ∙ part-second size 0 (pieces n g) (g n) ∙ part-whole n)
      i l
    where
      inside : (k : ℕ) → k < n → size * k + size ≤ length (pieces n g)
      inside k b = let m : size * suc k ≤ size * n = mul-le-mul_left size b in omega (arith, length-pieces n, mul-suc size k)

      seam : size * n ≡ length (pieces n g) + 0
      seam = omega (arith, length-pieces n)
