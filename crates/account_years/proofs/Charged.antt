-- What each closed year was charged: none, all, or not kept; and the room for the sums.
use Prim.Native.Nat.{ℕ, ◌+◌, ◌-◌, ◌^◌, ◌≤◌, ◌<◌}
use mathlib.Core.Path.{◌≡◌}
use mathlib.Core.Bool.{true}
use mathlib.Core.List.{List}
use Rattle.std.specs.Prelude.{Option}
use native.Mathlib.Omega.{arith}
use mir.Syntax.{w64}
use mir.Val.{Fits}
use lib.Dec.{eqb}
use Rattle.units.specs.declared.Ticks.{Ticks}
use Rattle.units.specs.Units.{ticks}
use Rattle.units.specs.Limits.{max_charge}
use Rattle.units.proofs.Bools.{cond-capped}
use Rattle.account_steps.specs.declared.Account.{Account}
use Rattle.account_steps.specs.Charges.{charge_of}
use Rattle.book_rules.specs.Book.{length_fits, sound, is_user, account_at}
use Rattle.book_rules.proofs.Faultless.{sound-faultless}
use Rattle.call_keeps.proofs.Widths.{account-within}
use Rattle.account_years.specs.declared.Payments.{Payments}
use Rattle.account_years.specs.History.{payments_of, charge_of_open, charge_of_each, charges_from, charges_of}
use Rattle.account_years.proofs.PaidOut.{withheld-small}

pub open-most : (made yearly : ℕ) → yearly ≤ max_charge → charge_of_open made yearly ≤ max_charge
unfolding charge_of_open
open-most made yearly h = cond-capped (eqb made 0) (omega arith) h

-- the charges of a user of a sound book
module _ (b : List ℕ) (i : ℕ) (long : length_fits b ≡ true) (good : sound b ≡ true) (user : is_user b i ≡ true) (account : Account) (read : account ≡ account_at b i) where
  pub in_order : account.details.year ≤ account.open_year
  in_order = rw read (account-within (account_at b i) ((sound-faultless b long good).user i user).fits).from

  module _ (p : Payments) (paid : p ≡ payments_of b i 0 65535) where
    pub made-room : Fits w64 (p.withheld.0 + account.charge.rest.0)
    made-room =
        let w = account-within (account_at b i) ((sound-faultless b long good).user i user).fits in
        let few : p.withheld.0 < 2 ^ 63 = rw paid (withheld-small b i 0 65535 long good user) in
        let rest : account.charge.rest.0 < 2 ^ 63 = rw read (omega (arith, w.rest, w.charged, w.to)) in
        record { fits = omega arith }

    pub charges-are : (yearly ofOpen : Ticks) → yearly ≡ ticks (charge_of account.details.power) → ofOpen ≡ ticks (charge_of_open account.charge.made yearly.0)
        → (each : Option Ticks) → each ≡ charge_of_each (p.withheld.0 + account.charge.rest.0) ofOpen.0 yearly.0 (account.open_year - account.details.year)
        → record { made = ticks (p.withheld.0 + account.charge.rest.0); withheld = p.withheld; rest = account.charge.rest; «open» = ofOpen; each = each } ≡ charges_of b i
    unfolding charges_of charges_from
    charges-are yearly ofOpen y o each e = rw (e, o, y, paid, read)
