-- All digits of a number of 64 bits are at most twenty.
use Prim.Native.Nat.{ℕ, ◌+◌}
use mathlib.Core.Path.{ap, ◌∙◌}
use mathlib.Core.List.{List}
use native.Mathlib.Omega.{arith}
use lib.ListN.{length}
use Rattle.codec.specs.Bytes.{stored}
use Rattle.listing_text.proofs.Fields.{field-short, field-whole}
use Rattle.listing_text.proofs.field_at.Goals as goal

pub write_field-requires : goal.write_field-requires
write_field-requires c =
    let a = c.args in
    omega (arith, ap length (field-whole a.n a.after (omega arith)), field-short a.n a.after)

pub returns : goal.returns
returns c =
    let a = c.args in
    let w = c.write_field in
    let whole = field-whole a.n a.after (omega arith) in record {
      end = w.ensures.end ∙ ap (λ (l : List ℕ). a.at + length l) whole;
      stands = w.ensures.stands ∙ ap (λ (l : List ℕ). stored a.at l a.out.now) whole;
      most = omega (arith, w.ensures.end, ap length whole, field-short a.n a.after);
    }
