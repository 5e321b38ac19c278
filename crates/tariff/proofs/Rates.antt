-- Rates: the mean of n months is the number nearest to the sum divided by n, halves up; the tier rate of a renewable plant, small and large.
use Prim.Native.Nat.{ℕ, ◌+◌, ◌*◌, ◌/◌, ◌≤◌, ◌<◌, min}
use mathlib.Core.Path.{◌≡◌}
use native.Mathlib.Nat.{mul-div-le, lt-mul-div-succ, div-lt_iff_lt-mul, mul-add, mul-one}
use native.Mathlib.Omega.{arith}
use lib.Dec.{eqb, leb}
use borrow.Author.Tests.{ne_eqb, le-leb, lt-leb}
use Rattle.units.proofs.Bools.{cond-capped}
use Rattle.tariff.specs.Tariff.{mean_rate, cogeneration, small_power, limit, tier_rate}

pub mean-rate-near :
    (n s : ℕ) → 0 < n → (2 * n * mean_rate n s ≤ 2 * s + n) × (2 * s + n < 2 * n * mean_rate n s + 2 * n)
unfolding mean_rate
mean-rate-near n s h =
    let positive : 0 < 2 * n = omega arith in
    (mul-div-le (2 * s + n) (2 * n), rw (mul-add, mul-one) at (lt-mul-div-succ (2 * s + n) positive))

pub mean-rate-capped : (n s cap : ℕ) → 0 < n → s ≤ cap * n → mean_rate n s ≤ cap
unfolding mean_rate
mean-rate-capped n s cap h k =
    let positive : 0 < 2 * n = omega arith in
    let whole : 2 * s + n < (cap + 1) * (2 * n) = omega arith in
    let below : (2 * s + n) / (2 * n) < cap + 1 = (div-lt_iff_lt-mul positive).1 whole in
    omega arith

pub rate-of-small :
    {plant power : ℕ} (net system : ℕ) → (plant ≡ cogeneration → ⊥) → power ≤ small_power →
    tier_rate plant power net system ≡ net + system
unfolding tier_rate
rate-of-small {plant} {power} net system n h = rw (ne_eqb plant cogeneration n, le-leb power small_power h)

pub rate-of-large :
    {plant power : ℕ} (net system : ℕ) → (plant ≡ cogeneration → ⊥) → small_power < power →
    tier_rate plant power net system ≡ net + min system (limit plant power net)
unfolding tier_rate
rate-of-large {plant} {power} net system n h = rw (ne_eqb plant cogeneration n, lt-leb power small_power h)

pub tier-rate-capped :
    (plant power cap : ℕ) {net system : ℕ} → net ≤ cap → system ≤ cap → tier_rate plant power net system ≤ cap + cap
unfolding tier_rate
tier-rate-capped plant power cap {net} {system} h k =
    cond-capped (eqb plant cogeneration) (omega arith) (cond-capped (leb power small_power) (omega arith) (omega arith))
