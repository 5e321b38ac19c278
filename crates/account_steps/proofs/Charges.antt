-- What is withheld: never more than the rest, never more than what is paid; and a balance that is positive, by truncated subtraction.
use Rattle.std.proofs.Common.{◌≡◌, ℕ, ◌+◌, ◌-◌, ◌<◌, ◌≤◌, min, ℤ, refl, arith}
use native.Mathlib.Decide.{dec_lt}
use Rattle.account_steps.specs.Closing.{balance_of}
use Rattle.account_steps.proofs.Balances.{balance-above, balance-below}
use Rattle.account_steps.specs.Charges.{withheld_from, positive_part, withheld_at_closing}

pub withheld-rest : (rest payment : ℕ) → withheld_from rest payment ≤ rest
unfolding withheld_from
withheld-rest rest payment = omega arith

pub withheld-paid : (rest payment : ℕ) → withheld_from rest payment ≤ payment
unfolding withheld_from
withheld-paid rest payment = omega arith

pub closing-rest : (rest : ℕ) (balance : ℤ) (liquidation : ℕ) → withheld_at_closing rest balance liquidation ≤ rest
unfolding withheld_at_closing withheld_from
closing-rest rest balance liquidation = omega arith

pub closing-paid : (rest : ℕ) (balance : ℤ) (liquidation : ℕ) → withheld_at_closing rest balance liquidation ≤ positive_part balance + liquidation
unfolding withheld_at_closing withheld_from
closing-paid rest balance liquidation = omega arith

-- "one stored total": the smaller of the rest and all that the closing pays
pub closing-total : (rest : ℕ) (balance : ℤ) (liquidation : ℕ) → withheld_at_closing rest balance liquidation ≡ min rest (positive_part balance + liquidation)
unfolding withheld_at_closing withheld_from
closing-total rest balance liquidation = omega arith

-- a positive balance is what the contribution is above the advances
pub positive_balance : (contribution advances : ℕ) → positive_part (balance_of contribution advances) ≡ contribution - advances
unfolding positive_part
positive_balance contribution advances = by_size (dec_lt contribution advances)
  where
    by_size : Dec (contribution < advances) → positive_part (balance_of contribution advances) ≡ contribution - advances
    by_size (yes below) = rw (balance-below contribution advances below) (omega arith)
    by_size (no above) = rw (balance-above contribution advances (omega (arith, above))) refl
