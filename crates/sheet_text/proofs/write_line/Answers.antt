-- The month, then its numbers.
use mathlib.Core.Path.{ap, ap₂, ◌∙◌}
use lib.ListN.{length}
use Rattle.decimals.specs.Decimals.{field}
use mathlib.Core.List.{List}
use Prim.Native.Nat.{ℕ, ◌+◌}
use native.Mathlib.Omega.{arith}
use Rattle.codec.specs.Bytes.{stored}
use Rattle.sheet_text.specs.Lines.{readings, semicolon}
use Rattle.sheet_text.specs.InnerSteps.{kwh_of, numbers_to}
use Rattle.sheet_text.proofs.LineWriting.{line-length, line-written}
use Rattle.sheet_text.proofs.write_line.Goals as goal

pub write_field-end-requires : goal.write_field-end-requires
write_field-end-requires c =
    let a = c.args in
    let front = ap (λ (n : ℕ). length (field (n + 1) semicolon)) c.from.ensures in
    omega (arith, line-length (a.month + 1) (kwh_of a.kwh), front)

pub write_numbers-requires : goal.write_numbers-requires
write_numbers-requires c =
    let a = c.args in
    let w = c.write_field-end in
    let front = ap (λ (n : ℕ). length (field (n + 1) semicolon)) c.from.ensures in
    omega (arith, line-length (a.month + 1) (kwh_of a.kwh), w.ensures.end, w.auto.out, front)

pub returns : goal.returns
returns c =
    let a = c.args in
    let w = c.write_field-end in
    let n = c.write_numbers in
    let kwh = kwh_of a.kwh in
    let front = ap (λ (n : ℕ). length (field (n + 1) semicolon)) c.from.ensures in
    let put = rw c.from.ensures at w.ensures.stands in
    let long = rw c.from.ensures at w.ensures.end in
    record {
      end = omega (arith, line-length (a.month + 1) kwh, w.ensures.end, n.ensures.end, front);
      stands = n.ensures.stands
          ∙ ap₂ (λ (e : ℕ) (o : List ℕ). stored e (numbers_to kwh readings) o) long put
          ∙ line-written a.at (a.month + 1) kwh a.out.now (omega arith);
    }
