-- Differences and running sums of a column undo each other modulo 2^32.
use Rattle.std.proofs.Common.{◌≡◌, ℕ, zero, suc, ◌+◌, ◌^◌, ◌<◌, ◌≤◌, refl, ◌∙◌, ap₂, add-one, arith}
use Rattle.sheet_archive.specs.Archive.{minus, plus, differences, sums}
use Rattle.sheet_archive.specs.InnerSteps.{before}

-- every number has 32 bits
abbrev pub Words : (ℕ → ℕ) → Type 0
Words f = (m : ℕ) → f m < 2 ^ 32

pub differences-words : (f : ℕ → ℕ) → Words f → Words (differences f)
unfolding differences
differences-words f w zero = w 0
differences-words f w (suc m) = omega arith

pub sums-words : (f : ℕ → ℕ) → Words f → Words (sums f)
unfolding sums
sums-words f w zero = w 0
sums-words f w (suc m) = omega arith

pub differences-cong : (f g : ℕ → ℕ) (m : ℕ) → ((i : ℕ) → i ≤ m → f i ≡ g i) → differences f m ≡ differences g m
unfolding differences
differences-cong f g zero e = e 0 (omega arith)
differences-cong f g (suc m) e = ap₂ minus (e (suc m) (omega arith)) (e m (omega arith))

pub sums-cong : (f g : ℕ → ℕ) (m : ℕ) → ((i : ℕ) → i ≤ m → f i ≡ g i) → sums f m ≡ sums g m
unfolding sums
sums-cong f g zero e = e 0 (omega arith)
sums-cong f g (suc m) e = ap₂ plus (sums-cong f g m (λ i l. e i (omega arith))) (e (suc m) (omega arith))

plus-minus : (x y : ℕ) → x < 2 ^ 32 → y < 2 ^ 32 → plus y (minus x y) ≡ x
plus-minus x y hx hy = omega arith

minus_plus : (x y : ℕ) → x < 2 ^ 32 → y < 2 ^ 32 → minus (plus y x) y ≡ x
minus_plus x y hx hy = omega arith

pub sums-of-differences : (f : ℕ → ℕ) → Words f → (m : ℕ) → sums (differences f) m ≡ f m
unfolding sums differences
sums-of-differences f w zero = refl
sums-of-differences f w (suc m) = rw (sums-of-differences f w m) (plus-minus (f (suc m)) (f m) (w (suc m)) (w m))

pub differences-of-sums : (f : ℕ → ℕ) → Words f → (m : ℕ) → differences (sums f) m ≡ f m
unfolding sums differences
differences-of-sums f w zero = refl
differences-of-sums f w (suc m) = minus_plus (f (suc m)) (sums f m) (w (suc m)) (sums-words f w m)

-- A TURN OF EACH LOOP: in an archive a number is a difference from the one before, in a sheet the sum of that one and more
pub before-next : (f : ℕ → ℕ) (m : ℕ) {number : ℕ} → number ≡ f m → number ≡ before f (m + 1)
unfolding before
before-next f m e = rw (add-one m) e

difference-from-before : (f : ℕ → ℕ) (m : ℕ) → 1 ≤ m → minus (f m) (before f m) ≡ differences f m
unfolding before differences
difference-from-before f zero h = let z : ⊥ = omega arith in absurd z
difference-from-before f (suc m) h = refl

pub difference-worked : (f : ℕ → ℕ) (m : ℕ) {number last less : ℕ} → 1 ≤ m → number ≡ f m → last ≡ before f m → less ≡ minus number last
    → less ≡ differences f m
difference-worked f m h n l e = e ∙ ap₂ minus n l ∙ difference-from-before f m h

pub sum-from-before : (d : ℕ → ℕ) (m : ℕ) → d m < 2 ^ 32 → plus (before (sums d) m) (d m) ≡ sums d m
unfolding before sums
sum-from-before d zero h = omega arith
sum-from-before d (suc m) h = refl
