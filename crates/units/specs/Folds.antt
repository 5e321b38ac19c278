-- Sums and tests over the numbers below n.
use Rattle.std.specs.Prelude.{ℕ, zero, suc, ◌+◌, Bool, true, false, cond, ◌&&◌, ◌||◌}

-- f 0 + f 1 + .. + f (n − 1)
unfoldable pub sum_below : ℕ → (ℕ → ℕ) → ℕ
sum_below zero f = 0
sum_below (suc n) f = sum_below n f + f n

-- the test passes at every number below n
unfoldable pub all_below : ℕ → (ℕ → Bool) → Bool
all_below zero p = true
all_below (suc n) p = all_below n p && p n

-- the test passes at some number below n
unfoldable pub any_below : ℕ → (ℕ → Bool) → Bool
any_below zero p = false
any_below (suc n) p = any_below n p || p n

-- the smallest number at which the test passes, where it passes at some number below n
unfoldable pub first_below : ℕ → (ℕ → Bool) → ℕ
first_below zero p = 0
first_below (suc n) p = cond (any_below n p) (first_below n p) n
