-- The number, then the byte at the place behind it.
use Prim.Native.Nat.{ℕ}
use mathlib.Core.Path.{ap₂, ◌∙◌}
use mathlib.Core.List.{List}
use native.Mathlib.Omega.{arith}
use lib.ListN.{set}
use Rattle.decimals.proofs.Written.{field-length, field-written}
use Rattle.decimals.proofs.write_field.Goals as goal

pub write_number-end-requires : goal.write_number-end-requires
write_number-end-requires c =
    let a = c.args in
    omega (arith, field-length a.n a.stop)

pub bounds-out-end : goal.bounds-out-end
bounds-out-end c =
    let a = c.args in
    omega (arith, c.write_number-end.ensures.end, c.write_number-end.auto.out, field-length a.n a.stop)

pub overflow_add-result : goal.overflow_add-result
overflow_add-result c =
    let a = c.args in
    omega (arith, c.write_number-end.ensures.end, field-length a.n a.stop)

pub returns : goal.returns
returns c =
    let a = c.args in
    let d = c.write_number-end in
    let written = ap₂ (λ (l : List ℕ) (e : ℕ). set l e a.stop) d.ensures.stands d.ensures.end ∙ field-written a.at a.n a.stop
    a.out.now (omega arith) in
    record { end = omega (arith, d.ensures.end, field-length a.n a.stop); stands = written }
