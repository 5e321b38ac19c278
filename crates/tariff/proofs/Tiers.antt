-- The parts of a stretch that is cut at three rising bounds sum to it, since what lies between two bounds and what lies above
-- the second make what lies above the first.
use Prim.Native.Nat.{ℕ, zero-le, ◌+◌, ◌-◌, ◌≤◌}
use mathlib.Core.Path.{◌≡◌, refl, ap}
use mathlib.Core.List.{List, [], ◌∷◌, map}
use native.Mathlib.Omega.{arith}
use Rattle.units.specs.Units.{kwh}
use Rattle.units.specs.Folds.{sum_below}
use Rattle.tariff.specs.Tariff.{between, above, tiers, numbers, tier_sum}

between-above : (low high : ℕ) {a b : ℕ} → a ≤ b → between low high a b + above low high b ≡ above low high a
unfolding between above
between-above low high {a} {b} h = omega arith

above-none : (w e : ℕ) → e ≤ w → above (w - e) w 0 ≡ e
unfolding above
above-none w e h = omega arith

pub parts_sum :
    {b₁ b₂ b₃ w e : ℕ} → b₁ ≤ b₂ → b₂ ≤ b₃ → e ≤ w →
    tier_sum (between (w - e) w 0 b₁ ∷ between (w - e) w b₁ b₂ ∷ between (w - e) w b₂ b₃ ∷ above (w - e) w b₃ ∷ []) ≡ e
unfolding tier_sum sum_below
parts_sum {b₁} {b₂} {b₃} {w} {e} h₁ h₂ h =
    let first = between-above (w - e) w {a = 0} {b = b₁} zero-le in
    let second = between-above (w - e) w h₁ in
    let third = between-above (w - e) w h₂ in
    omega (arith, above-none w e h)

pub tiers-sum : {b₁ b₂ b₃ w e : ℕ} → b₁ ≤ b₂ → b₂ ≤ b₃ → e ≤ w → tier_sum (tiers b₁ b₂ b₃ w e) ≡ e
unfolding tiers
tiers-sum h₁ h₂ h = parts_sum h₁ h₂ h

pub first_tier_sum : (e : ℕ) → tier_sum (e ∷ 0 ∷ 0 ∷ 0 ∷ []) ≡ e
unfolding tier_sum sum_below
first_tier_sum e = omega arith

pub numbers-kwh : (parts : List ℕ) → numbers (map kwh parts) ≡ parts
numbers-kwh [] = refl
numbers-kwh (p ∷ parts) = ap (λ (ps : List ℕ). p ∷ ps) (numbers-kwh parts)
