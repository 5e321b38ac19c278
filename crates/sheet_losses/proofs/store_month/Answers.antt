-- Three stores one after the other.
use native.Mathlib.Omega.{arith}
use Rattle.sheet_losses.specs.Losses.{injected_place}
use Rattle.sheet_losses.specs.InnerSteps.{in_band}
use Rattle.sheet_losses.proofs.Writing.{three-stored}
use Rattle.sheet_losses.proofs.store_month.Goals as goal

pub returns : goal.returns
returns c =
    let a = c.args in
    three-stored (injected_place a.month) (in_band a.readings) a.sheet.now c.put.new.s c.put-2.new.s c.put-3.new.s
    (omega arith) (rw c.from.ensures at c.put.ensures) (rw c.from.ensures at c.put-2.ensures) (rw c.from.ensures at c.put-3.ensures)
