-- The sum of the user's third demand (docs/DEMANDS.md), "advances of closed years plus balances, less flat-rate parts, plus
-- liquidations, plus lapsed credit, plus standing credit", of sums as the program holds them.
use Rattle.std.specs.Prelude.{◌^◌, ◌<◌, ℤ, pos, nat_abs, ◌+ℤ◌, ◌-ℤ◌}
use Rattle.statements.specs.declared.Sums.{Sums}

unfoldable pub conserved_in : Sums → ℤ
conserved_in s =
    ((((pos s.closed_advances.0 +ℤ s.balance.0) -ℤ pos s.flat_rate.0) +ℤ pos s.liquidation.0)
    +ℤ pos s.lapsed.0)
    +ℤ pos s.credit.0

-- sums that make it fit 64 bits
pub record Small (s : Sums) : Type 0 where
  pub credit : s.credit.0 < 2 ^ 59
  pub value : s.value.0 < 2 ^ 59
  pub flat_rate : s.flat_rate.0 < 2 ^ 59
  pub liquidation : s.liquidation.0 < 2 ^ 59
  pub lapsed : s.lapsed.0 < 2 ^ 62
  pub balance : nat_abs s.balance.0 < 2 ^ 59
  pub closed_advances : s.closed_advances.0 < 2 ^ 59
