-- Sums over the entries of a chain: equal terms, and bounds from a bound on each term.
use Prim.Native.Nat.{ℕ, zero, suc, ◌+◌, ◌*◌, ◌≤◌}
use mathlib.Core.Path.{◌≡◌, refl, sym, ap, ◌∙◌}
use mathlib.Core.Bool.{Bool, true, false}
use mathlib.Core.List.{List, [], ◌∷◌}
use native.Mathlib.Nat.{mul-suc}
use native.Mathlib.Numerals.{add-one}
use native.Mathlib.Omega.{arith}
use lib.Dec.{ltb}
use lib.IntN.{ℤ, pos, negsuc, nat_abs, neg_ℤ, sub_ℕ, ◌+ℤ◌, ◌-ℤ◌, +ℤ_assoc, +ℤ-neg_ℤ_cancel}
use lib.ListN.{length}
use borrow.Author.Tests.{ltb-true}
use Rattle.book_rules.specs.Book.{is_advance, is_closing, level_of}
use Rattle.chains.specs.Statements.{sum_over, sum_over_ℤ}
use Rattle.chains.proofs.Lists.{All}
use Rattle.chains.proofs.Order.{Ordered, nothing, advance, closing}

-- terms of at most `cap` each
pub sum-at-most : (P : ℕ → Type 0) (f : ℕ → ℕ) (cap : ℕ) → ((e : ℕ) → P e → f e ≤ cap) → (es : List ℕ) → All P es → sum_over f es ≤ cap * length es
unfolding sum_over
sum-at-most P f cap h [] a = omega arith
sum-at-most P f cap h (e ∷ es) a =
    let first = h e a.0 in
    let rest = sum-at-most P f cap h es a.1 in
    omega (arith, mul-suc cap (length es))

-- terms of at most `cap` for each closing, and nothing for an advance: at most `cap` for each closed year
pub closings-at-most : (b : List ℕ) (activation : ℕ) (f : ℕ → ℕ) (cap : ℕ) → ((e : ℕ) → is_closing b e ≡ true → f e ≤ cap) → ((e : ℕ) → is_advance b e ≡ true → f e ≡ 0)
    → {y : ℕ} {es : List ℕ} → Ordered b activation y es → sum_over f es + cap * activation ≤ cap * y
unfolding sum_over
closings-at-most b activation f cap hc ha (nothing e) = rw e (omega arith)
closings-at-most b activation f cap hc ha (advance {e = k} a e o) =
    let rest = closings-at-most b activation f cap hc ha o in
    rw (← e) (omega (arith, ha k a))
closings-at-most b activation f cap hc ha (closing {e = k} c e o) =
    let rest = closings-at-most b activation f cap hc ha o in
    rw (← e, add-one) (omega (arith, hc k c, mul-suc cap (level_of b k)))

-- a signed sum is at most the sum of the sizes
size-difference : (a b : ℕ) → nat_abs (sub_ℕ a b) ≤ a + b
size-difference a b = by-test (ltb a b) refl
  where
    by-test : (t : Bool) → ltb a b ≡ t → nat_abs (sub_ℕ a b) ≤ a + b
    by-test true e = let l = ltb-true a b e in rw e (omega arith)
    by-test false e = rw e (omega arith)

size-negated : (z : ℤ) → nat_abs (neg_ℤ z) ≡ nat_abs z
size-negated (pos zero) = refl
size-negated (pos (suc n)) = refl
size-negated (negsuc n) = refl

size-sum : (x y : ℤ) → nat_abs (x +ℤ y) ≤ nat_abs x + nat_abs y
size-sum (pos a) (pos b) = omega arith
size-sum (pos a) (negsuc b) = size-difference a (suc b)
size-sum (negsuc a) (pos b) = omega (arith, size-difference b (suc a))
size-sum (negsuc a) (negsuc b) = omega arith

-- where a sum x + y + r comes to w, the sum before r is at most as large as w and r together
pub size-before : (x y r w : ℤ) → x +ℤ (y +ℤ r) ≡ w → nat_abs (x +ℤ y) ≤ nat_abs w + nat_abs r
size-before x y r w e =
    let before : x +ℤ y ≡ w -ℤ r = sym (+ℤ-neg_ℤ_cancel (x +ℤ y) r) ∙ ap (λ z. z -ℤ r) (+ℤ_assoc x y r ∙ e) in
    rw before (omega (arith, size-sum w (neg_ℤ r), size-negated r))

pub size-of-sum : (f : ℕ → ℤ) (es : List ℕ) → nat_abs (sum_over_ℤ f es) ≤ sum_over (λ e. nat_abs (f e)) es
unfolding sum_over sum_over_ℤ
size-of-sum f [] = omega arith
size-of-sum f (e ∷ es) = let rest = size-of-sum f es in omega (arith, size-sum (f e) (sum_over_ℤ f es))
