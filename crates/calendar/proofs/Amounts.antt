-- A run pays its amount or nothing, so that each half's most bounds it.
use Rattle.std.proofs.Common.{◌≡◌, ℕ, ◌+◌, ◌*◌, ◌≤◌, ◌<◌, cond, ap, ◌∙◌, arith}
use Rattle.std.proofs.Math.Nat.{mul-le-mul}
use Rattle.std.proofs.lemmas.Bool.Decides.{nat_tests}
use Rattle.units.specs.declared.Ticks.{Ticks}
use Rattle.units.specs.Units.{ticks}
use Rattle.units.specs.Limits.{max_price, max_half_kwh, max_half_ticks}
use Rattle.calendar.specs.declared.Halves.{Halves}
use Rattle.calendar.specs.ElectionAndAdvances.{halves_count, threshold, paid_of, amount_of}
use Rattle.units.specs.InnerWithin.{TicksWithin}

pub paid-nothing : {amount : ℕ} → amount ≤ threshold → paid_of amount ≡ 0
unfolding paid_of
paid-nothing {amount} h = grind (arith, nat_tests)

pub paid-whole : {amount : ℕ} → threshold < amount → paid_of amount ≡ amount
unfolding paid_of
paid-whole {amount} h = grind (arith, nat_tests)

paid-at-most : (amount : ℕ) → paid_of amount ≤ amount
unfolding paid_of
paid-at-most amount = grind (arith, nat_tests)

pub halves_at_most : (h : Halves) → halves_count h ≤ 2
unfolding halves_count
halves_at_most h = grind arith

pub half_at_most : {energy price : ℕ} → energy ≤ max_half_kwh → price ≤ max_price → energy * price ≤ max_half_ticks
half_at_most h k = mul-le-mul h k

-- the run of two shares
pub run-of-shares :
    (h : Halves) (price h₁ h₂ : ℕ) {a b : ℕ} {paid : Ticks} → a ≡ cond h.first (h₁ * price) 0 →
    b ≡ cond h.second (h₂ * price) 0 → a ≤ max_half_ticks * cond h.first 1 0 → b ≤ max_half_ticks * cond h.second 1 0 →
    paid ≡ ticks (paid_of (a + b)) → TicksWithin (amount_of h price h₁ h₂) (max_half_ticks * halves_count h) paid
unfolding amount_of halves_count
run-of-shares h price h₁ h₂ {a} {b} {paid} q₁ q₂ l₁ l₂ p =
    let exact : ticks (paid_of (a + b)) ≡ ticks (amount_of h price h₁ h₂) = rw (q₁, q₂) in
    let same : paid.0 ≡ paid_of (a + b) = ap (λ (t : Ticks). t.0) p in
    record { is = p ∙ exact; most = omega (arith, paid-at-most (a + b)) }
