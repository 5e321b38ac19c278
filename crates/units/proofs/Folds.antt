-- Laws of sums and tests over the numbers below n.
use Prim.Native.Nat.{ℕ, zero, suc, ◌+◌, ◌*◌, ◌≤◌, ◌<◌}
use mathlib.Core.Path.{◌≡◌, refl, ap₂, ◌∙◌, sym, subst}
use mathlib.Core.Bool.{Bool, true, false, cond, ◌&&◌, ◌||◌, true≢false}
use mathlib.Core.Logic.{◌⊎◌, inl, inr}
use native.Mathlib.Nat.{mul-suc}
use native.Mathlib.Decide.{dec_lt}
use native.Mathlib.Numerals.{add-one}
use native.Mathlib.Omega.{arith}
use Rattle.units.proofs.Bools.{and_left, and_right, and_both, or_left, or_right, or-neither}
use Rattle.units.specs.Folds.{sum_below, all_below, any_below, first_below}

pub sum-zero : (f : ℕ → ℕ) → sum_below 0 f ≡ 0
unfolding sum_below
sum-zero f = refl

pub sum_step : (n : ℕ) (f : ℕ → ℕ) → sum_below (n + 1) f ≡ sum_below n f + f n
unfolding sum_below
sum_step n f = rw add-one refl

pub sum-cong : (n : ℕ) (f g : ℕ → ℕ) → ((i : ℕ) → i < n → f i ≡ g i) → sum_below n f ≡ sum_below n g
unfolding sum_below
sum-cong zero f g h = refl
sum-cong (suc n) f g h = ap₂ ◌+◌ (sum-cong n f g (λ i l. h i (omega arith))) (h n (omega arith))

-- a sum of numbers of at most `cap` each
pub sum-capped : (n cap : ℕ) (f : ℕ → ℕ) → ((i : ℕ) → i < n → f i ≤ cap) → sum_below n f ≤ cap * n
unfolding sum_below
sum-capped zero cap f h = omega arith
sum-capped (suc n) cap f h =
    let tail : sum_below n f ≤ cap * n = sum-capped n cap f (λ i l. h i (omega arith)) in
    let last : f n ≤ cap = h n (omega arith) in
    omega (arith, mul-suc cap n)

pub sum-none : (n : ℕ) (f : ℕ → ℕ) → ((j : ℕ) → j < n → f j ≡ 0) → sum_below n f ≡ 0
sum-none n f h = omega (arith, sum-capped n 0 f (λ j l. omega (arith, h j l)))

pub sum-plus : (n : ℕ) (f g : ℕ → ℕ) → sum_below n (λ i. f i + g i) ≡ sum_below n f + sum_below n g
unfolding sum_below
sum-plus zero f g = refl
sum-plus (suc n) f g = let tail = sum-plus n f g in omega arith

-- f and g agree everywhere but at p
pub sum-changed : (n p : ℕ) (f g : ℕ → ℕ) → p < n → ((j : ℕ) → j < n → (j ≡ p → ⊥) → f j ≡ g j) → sum_below n f + g p ≡ sum_below n g + f p
unfolding sum_below
sum-changed zero p f g l h = let z : ⊥ = omega arith in absurd z
sum-changed (suc n) p f g l h = by_place (dec_lt p n) (λ lower. sum-changed n p f g lower (λ j m. h j (omega arith)))
  where
    by_place : Dec (p < n) → (p < n → sum_below n f + g p ≡ sum_below n g + f p) → sum_below n f + f n + g p ≡ sum_below n g + g n + f p
    by_place (yes lower) rest = omega (arith, rest lower, h n (omega arith) (omega arith))
    by_place (no high) rest =
        let last : n ≡ p = omega (arith, high) in
        let below : sum_below n f ≡ sum_below n g = sum-cong n f g (λ j m. h j (omega arith) (omega arith)) in
        rw (sym last) (omega arith)

-- g has x for y at p, and y at its end
pub sum_moved : (n p : ℕ) (f g : ℕ → ℕ) (x y : ℕ) → p < n → ((j : ℕ) → j < n → (j ≡ p → ⊥) → g j ≡ f j) → g p + y ≡ f p + x → g n ≡ y
    → sum_below (n + 1) g ≡ sum_below n f + x
sum_moved n p f g x y l h here end = omega (arith, sum_step n g, sum-changed n p g f l h)

pub all-zero : (p : ℕ → Bool) → all_below 0 p ≡ true
unfolding all_below
all-zero p = refl

all-step : (n : ℕ) (p : ℕ → Bool) → all_below (n + 1) p ≡ (all_below n p && p n)
unfolding all_below
all-step n p = rw add-one refl

pub any-zero : (p : ℕ → Bool) → any_below 0 p ≡ false
unfolding any_below
any-zero p = refl

pub any_step : (n : ℕ) (p : ℕ → Bool) → any_below (n + 1) p ≡ (any_below n p || p n)
unfolding any_below
any_step n p = rw add-one refl

-- a running sum or test, taken one step further
pub sum-next : (n : ℕ) (f : ℕ → ℕ) {acc t : ℕ} → acc ≡ sum_below n f → t ≡ f n → acc + t ≡ sum_below (n + 1) f
sum-next n f p q = ap₂ ◌+◌ p q ∙ sym (sum_step n f)

pub all-next : (n : ℕ) (p : ℕ → Bool) {acc t : Bool} → acc ≡ all_below n p → t ≡ p n → (acc && t) ≡ all_below (n + 1) p
all-next n p a b = ap₂ ◌&&◌ a b ∙ sym (all-step n p)

pub any_next : (n : ℕ) (p : ℕ → Bool) {acc t : Bool} → acc ≡ any_below n p → t ≡ p n → (acc || t) ≡ any_below (n + 1) p
any_next n p a b = ap₂ ◌||◌ a b ∙ sym (any_step n p)

-- a running sum of so many numbers, after i of them: it is small
pub record Summing (f : ℕ → ℕ) (count most i sum : ℕ) : Type 0 where
  pub within : i ≤ count
  pub bounded : sum ≤ most
  pub sums : sum ≡ sum_below i f

-- what holds below n and at n holds below suc n
pub below_suc : (P : ℕ → Type 0) (n : ℕ) → ((i : ℕ) → i < n → P i) → P n → (i : ℕ) → i < suc n → P i
below_suc P n h l i b = either (dec_lt i n)
  where
    either : Dec (i < n) → P i
    either (yes lower) = h i lower
    either (no m) = let same : n ≡ i = omega (arith, m) in subst P same l

-- a test that passes below n passes at each number there, and conversely
pub all-at : (n : ℕ) (p : ℕ → Bool) → all_below n p ≡ true → (i : ℕ) → i < n → p i ≡ true
unfolding all_below
all-at zero p e i h = let z : ⊥ = omega arith in absurd z
all-at (suc n) p e i h =
    below_suc (λ k. p k ≡ true) n (all-at n p (and_left (all_below n p) (p n) e)) (and_right (all_below n p) (p n) e) i h

pub all_of : (n : ℕ) (p : ℕ → Bool) → ((i : ℕ) → i < n → p i ≡ true) → all_below n p ≡ true
unfolding all_below
all_of zero p h = refl
all_of (suc n) p h = and_both (all_of n p (λ i l. h i (omega arith))) (h n (omega arith))

-- a test that fails everywhere below n is passed nowhere there, and conversely
pub none-at : (n : ℕ) (p : ℕ → Bool) → any_below n p ≡ false → (i : ℕ) → i < n → p i ≡ false
unfolding any_below
none-at zero p e i h = let z : ⊥ = omega arith in absurd z
none-at (suc n) p e i h =
    below_suc (λ k. p k ≡ false) n (none-at n p (or_left (any_below n p) (p n) e)) (or_right (any_below n p) (p n) e) i h

pub none_of : (n : ℕ) (p : ℕ → Bool) → ((i : ℕ) → i < n → p i ≡ false) → any_below n p ≡ false
unfolding any_below
none_of zero p h = refl
none_of (suc n) p h = or-neither (none_of n p (λ i l. h i (omega arith))) (h n (omega arith))

pub any_of : (n : ℕ) (p : ℕ → Bool) (i : ℕ) → i < n → p i ≡ true → any_below n p ≡ true
any_of n p i h e = by_value (any_below n p) refl
  where
    by_value : (b : Bool) → any_below n p ≡ b → any_below n p ≡ true
    by_value true q = q
    by_value false q = absurd (true≢false (sym e ∙ none-at n p q i h))

pub any-cong : (n : ℕ) (p q : ℕ → Bool) → ((i : ℕ) → i < n → p i ≡ q i) → any_below n p ≡ any_below n q
unfolding any_below
any-cong zero p q h = refl
any-cong (suc n) p q h = ap₂ ◌||◌ (any-cong n p q (λ i l. h i (omega arith))) (h n (omega arith))

-- the first number below n that passes a test, or none does
pub record First (n : ℕ) (p : ℕ → Bool) : Type 0 where
  pub at : ℕ
  pub below : at < n
  pub here : p at ≡ true
  pub before : (i : ℕ) → i < at → p i ≡ false

pub first_below_lem : (n : ℕ) (p : ℕ → Bool) → First n p ⊎ ((i : ℕ) → i < n → p i ≡ false)
first_below_lem zero p = inr (λ i l. let z : ⊥ = omega arith in absurd z)
first_below_lem (suc n) p = further (first_below_lem n p) (p n) refl
  where
    further : First n p ⊎ ((i : ℕ) → i < n → p i ≡ false) → (t : Bool) → p n ≡ t → First (suc n) p ⊎ ((i : ℕ) → i < suc n → p i ≡ false)
    further (inl f) t e = inl (record { at = f.at; below = omega (arith, f.below); here = f.here; before = f.before })
    further (inr none) true e = inl (record { at = n; below = omega arith; here = e; before = none })
    further (inr none) false e = inr (below_suc (λ k. p k ≡ false) n none e)

-- the number at which a test passes first
pub first-is : (n : ℕ) (p : ℕ → Bool) (i : ℕ) → i < n → p i ≡ true → ((j : ℕ) → j < i → p j ≡ false) → i ≡ first_below n p
unfolding first_below
first-is zero p i l here before = let z : ⊥ = omega arith in absurd z
first-is (suc n) p i l here before = by_place (dec_lt i n) (λ lower. first-is n p i lower here before)
  where
    by_place : Dec (i < n) → (i < n → i ≡ first_below n p) → i ≡ cond (any_below n p) (first_below n p) n
    by_place (yes lower) rest = rw (any_of n p i lower here) (rest lower)
    by_place (no high) rest =
        let same : i ≡ n = omega (arith, high) in
        let none : any_below n p ≡ false = none_of n p (λ j b. before j (omega arith)) in
        rw none same
