-- The readings of a month are written one after the other, and the months one after the other.
use Prim.Native.Nat.{ℕ, ◌+◌, ◌≤◌}
use mathlib.Core.Path.{◌≡◌, refl, ap, ap₂, ◌∙◌}
use mathlib.Core.List.{List, ◌++◌, append_assoc}
use native.Mathlib.Numerals.{add-one}
use native.Mathlib.Omega.{arith}
use lib.ListN.{length, length-append}
use Rattle.codec.specs.Bytes.{bytes_of, stored}
use Rattle.codec.proofs.Numbers.{length-bytes}
use Rattle.codec.proofs.Pieces.{stored-then}
use Rattle.sheet_losses.specs.Losses.{injected_place, three_readings, with_injected}

pub length_three : (f : ℕ → ℕ) → length (three_readings f) ≡ 12
unfolding three_readings
length_three f =
    simp length-append (omega (arith, length-bytes 4 (f 0), length-bytes 4 (f 1), length-bytes 4 (f 2)))

pub three-stored : (at : ℕ) (f : ℕ → ℕ) (s s₁ s₂ s₃ : List ℕ) → at + 12 ≤ length s → s₁ ≡ stored at (bytes_of 4 (f 0)) s
    → s₂ ≡ stored (at + 4) (bytes_of 4 (f 1)) s₁ → s₃ ≡ stored (at + 8) (bytes_of 4 (f 2)) s₂ → s₃ ≡ stored at (three_readings f) s
unfolding three_readings
three-stored at f s s₁ s₂ s₃ room e₁ e₂ e₃ =
    let a = bytes_of 4 (f 0) in
    let b = bytes_of 4 (f 1) in
    let c = bytes_of 4 (f 2) in
    let la = length-bytes 4 (f 0) in
    let lb = length-bytes 4 (f 1) in
    let lc = length-bytes 4 (f 2) in
    let ab : length (a ++ b) ≡ 8 = simp length-append (omega arith) in
    let first : at + 4 ≡ at + length a = omega arith in
    let second : at + 8 ≡ at + length (a ++ b) = omega arith in
    let two : s₂ ≡ stored at (a ++ b) s =
    e₂ ∙ ap₂ (λ (k : ℕ) (t : List ℕ). stored k b t) first e₁ ∙ stored-then at a b s (omega arith) in
    e₃ ∙ ap₂ (λ (k : ℕ) (t : List ℕ). stored k c t) second two ∙ stored-then at (a ++ b) c s (omega arith)
    ∙ ap (λ (l : List ℕ). stored at l s) (append_assoc a b c)

module _ (readings : ℕ → ℕ → ℕ) (s : List ℕ) where
  pub none_written : s ≡ with_injected readings s 0
  unfolding with_injected
  none_written = refl

  pub next-written : (month : ℕ) (t t' : List ℕ) → t ≡ with_injected readings s month → t' ≡ stored (injected_place month) (three_readings (readings month)) t
      → t' ≡ with_injected readings s (month + 1)
  unfolding with_injected
  next-written month t t' e n = rw (add-one month) (n ∙ ap (stored (injected_place month) (three_readings (readings month))) e)
