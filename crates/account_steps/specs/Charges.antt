-- Ticket 1 of document 02, the administrative charge, in ticks.
use Rattle.std.specs.Prelude.{ℕ, ◌+◌, ◌-◌, min, cond, ℤ, pos, negsuc, nat_le}
use Rattle.units.specs.Units.{ticks}
use Rattle.units.specs.Limits.{max_charge}
use Rattle.sheet_values.specs.declared.YearValues.{YearValues}
use Rattle.account_steps.specs.Closing.{contribution_of, liquidation_of, balance_of}
use Rattle.account_steps.specs.declared.Account.{Account}
use Rattle.account_steps.specs.declared.Charge.{Charge}

-- "Document 000 sets a yearly charge of 15 € up to 3 kW, 30 € up to 20 kW and 45 € above.", by the power in watts
unfoldable pub charge_of : ℕ → ℕ
charge_of power = cond (nat_le power 3000) 1500000 (cond (nat_le power 20000) 3000000 max_charge)

-- "It is withheld, as far as each reaches, from each later positive payment": the smaller of the rest and the payment
unfoldable pub withheld_from : ℕ → ℕ → ℕ
withheld_from rest payment = min rest payment

-- what a balance pays: nothing unless it is positive
unfoldable pub positive_part : ℤ → ℕ
positive_part (pos n) = n
positive_part (negsuc n) = 0

-- ".. an advance, then within a closing the balance and after it the liquidation."
unfoldable pub withheld_at_closing : ℕ → ℤ → ℕ → ℕ
withheld_at_closing rest balance liquidation =
    let first = withheld_from rest (positive_part balance) in first + withheld_from (rest - first) liquidation

-- .. of the account's rest, where these values close its open year
unfoldable pub closing_withheld : Account → YearValues → ℕ
closing_withheld a v =
    withheld_at_closing a.charge.rest.0
    (balance_of (contribution_of a.option a.credit.0 v.value.0 v.cost.0 v.flat_rate.0) a.advances.0)
    (liquidation_of a.option v.value.0 v.cost.0)

-- an account with another charge of its open year and another rest
abbrev pub with_charge : Charge → Account → Account
with_charge c a = record a { charge = c }

abbrev pub charge_is : ℕ → ℕ → Charge
charge_is made rest = record { made = made; rest = ticks rest }

-- "A new call charges the open year once. The unpaid rest stands in .. the user record."
unfoldable pub account_charged : Account → Account
account_charged a = with_charge (charge_is 1 (a.charge.rest.0 + charge_of a.details.power)) a

-- the account once so much of its rest is withheld
unfoldable pub account_withheld : ℕ → Account → Account
account_withheld withheld a = with_charge (charge_is a.charge.made (a.charge.rest.0 - withheld)) a
