-- A month's row: its value, and its total within limits.
use Prim.Native.Nat.{◌+◌, ◌*◌, ◌≤◌}
use mathlib.Core.Path.{◌≡◌, ap}
use mathlib.Core.List.{List}
use native.Mathlib.Omega.{arith}
use Rattle.units.specs.declared.Kwh.{Kwh}
use Rattle.units.specs.declared.Rate.{Rate}
use Rattle.units.specs.declared.Ticks.{Ticks}
use Rattle.units.specs.Units.{ticks}
use Rattle.units.specs.Limits.{max_kwh, max_price}
use Rattle.units.specs.Folds.{sum_below}
use Rattle.units.proofs.Products.{amount-capped}
use Rattle.sheet_prices.specs.InnerArrays.{row_value, RowFits, energy_at, price_at}

-- three amounts that are energy times price, band by band
pub row-sum : (energy : List Kwh) (prices : List Rate) (t₀ t₁ t₂ : Ticks) → RowFits energy prices
    → t₀ ≡ ticks (energy_at 0 energy * price_at 0 prices)
    → t₁ ≡ ticks (energy_at 1 energy * price_at 1 prices)
    → t₂ ≡ ticks (energy_at 2 energy * price_at 2 prices)
    → (t₀.0 + t₁.0 + t₂.0 ≡ row_value energy prices) × (t₀.0 + t₁.0 + t₂.0 ≤ 3 * (max_kwh * max_price))
unfolding row_value sum_below
row-sum energy prices t₀ t₁ t₂ h e₀ e₁ e₂ =
    let c₀ = amount-capped max_kwh max_price e₀ h.energy₀ h.price₀ in
    let c₁ = amount-capped max_kwh max_price e₁ h.energy₁ h.price₁ in
    let c₂ = amount-capped max_kwh max_price e₂ h.energy₂ h.price₂ in
    let n₀ = ap (λ (t : Ticks). t.0) e₀ in
    let n₁ = ap (λ (t : Ticks). t.0) e₁ in
    let n₂ = ap (λ (t : Ticks). t.0) e₂ in
    (omega arith, omega arith)
