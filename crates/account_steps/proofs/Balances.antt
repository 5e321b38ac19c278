-- A balance: the two cases of the difference, its range, and that 64 bits hold it.
use Rattle.std.proofs.Common.{◌≡◌, ℕ, zero, suc, ◌+◌, ◌-◌, ◌%◌, ◌^◌, ◌<◌, ◌≤◌, ℤ, pos, negsuc, neg_ℤ, ◌-ℤ◌, ◌≤ℤ◌, refl, ap, ◌∙◌, arith, SFits, le-ltb, lt-ltb}
use Rattle.std.specs.Int.{w64, int_wrap, int_rem_euclid, cast_signed}
use Rattle.std.specs.Prelude.{FitsSigned, unsigned_abs}
use Rattle.std.proofs.lemmas.Int.{ints, int_wrap_fits}
use native.Mathlib.Decide.{dec_lt}
use lib.IntN.{sub_ℕ}
use Rattle.units.specs.Limits.{max_year_ticks, max_contribution}
use Rattle.account_steps.specs.Closing.{balance_of}

difference : (x a : ℕ) → pos x -ℤ pos a ≡ sub_ℕ x a
difference x zero = rw (le-ltb x 0 (omega arith)) (ap pos (omega arith))
difference x (suc a) = refl

pub balance-above : (x a : ℕ) → a ≤ x → balance_of x a ≡ pos (x - a)
unfolding balance_of
balance-above x a h = difference x a ∙ rw (le-ltb x a h) refl

pub balance-below : (x a : ℕ) → x < a → balance_of x a ≡ negsuc (a - suc x)
unfolding balance_of
balance-below x a h = difference x a ∙ rw (lt-ltb x a h) refl

-- the difference modulo 2^64, read as a signed number
pub wrapped-difference : (x a : ℕ) → x < 2 ^ 64 → a < 2 ^ 64 → cast_signed w64 ((x + (2 ^ 64 - a)) % 2 ^ 64) ≡ int_wrap w64 (balance_of x a)
unfolding int_wrap
wrapped-difference x a hx ha = ap (cast_signed w64) (either (dec_lt x a))
  where
    either : Dec (x < a) → (x + (2 ^ 64 - a)) % 2 ^ 64 ≡ unsigned_abs (int_rem_euclid (balance_of x a) (pos (2 ^ 64)))
    either (yes below) = rw (balance-below x a below) (omega arith)
    either (no m) = rw (balance-above x a (omega (arith, m))) (omega arith)

-- the two cases, for a fact about every balance
pub by_sign : (P : ℤ → Type 0) (x a : ℕ) → ((n : ℕ) → n ≤ x → P (pos n)) → ((n : ℕ) → n < a → P (negsuc n)) → P (balance_of x a)
by_sign P x a above below = either (dec_lt x a)
  where
    either : Dec (x < a) → P (balance_of x a)
    either (yes h) = rw (balance-below x a h) (below (a - suc x) (omega arith))
    either (no h) = rw (balance-above x a (omega arith)) (above (x - a) (omega arith))

pub balance-fits : (x a : ℕ) → x < 2 ^ 63 → a < 2 ^ 63 → FitsSigned w64 (balance_of x a)
balance-fits x a hx ha =
    by_sign (SFits w64) x a (λ n h. record { sfits = omega arith }) (λ n h. record { sfits = omega arith })

-- 64 bits hold it as it is
pub balance-held : (x a : ℕ) → x < 2 ^ 63 → a < 2 ^ 63 → int_wrap w64 (balance_of x a) ≡ balance_of x a
balance-held x a hx ha = int_wrap_fits w64 (balance_of x a) (balance-fits x a hx ha)

-- "balance from −3.6·10^14 to 1.08·10^15"
pub balance-in-range : (x a : ℕ) → x ≤ max_contribution → a ≤ max_year_ticks
    → (neg_ℤ (pos max_year_ticks) ≤ℤ int_wrap w64 (balance_of x a)) × (int_wrap w64 (balance_of x a) ≤ℤ pos max_contribution)
unfolding balance_of
balance-in-range x a hx ha = rw (balance-held x a (omega arith) (omega arith)) (omega (arith, ints), omega (arith, ints))
