-- Bounds on a product from bounds on its factors.
use Prim.Native.Nat.{ℕ, ◌*◌, ◌≤◌}
use mathlib.Core.Path.{◌≡◌, ap}
use native.Mathlib.Nat.{mul-le-mul, mul-le-mul_right, mul_comm, le_trans, le_of_eq}
use Rattle.units.specs.declared.Ticks.{Ticks}
use Rattle.units.specs.Units.{ticks}

-- a price of at most `cap` makes a product of at most `cap` for each kWh
pub product-capped : (cap a b : ℕ) → b ≤ cap → a * b ≤ cap * a
product-capped cap a b h = le_trans (le_of_eq (mul_comm a b)) (mul-le-mul_right a h)

-- an amount of energy times price, from bounds on both
pub amount-capped : (m n : ℕ) {t : Ticks} {a b : ℕ} → t ≡ ticks (a * b) → a ≤ m → b ≤ n → t.0 ≤ m * n
amount-capped m n {t} {a} {b} e ha hb = le_trans (le_of_eq (ap (λ (x : Ticks). x.0) e)) (mul-le-mul ha hb)
