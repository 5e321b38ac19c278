-- One byte more.
use Rattle.std.proofs.Common.{refl, rules, arith}
use lib.ListN.{length-set}
use Rattle.std.proofs.lemmas.Str.{IsUtf8-from_ascii}
use Rattle.text.specs.Text.{hex_of}
use Rattle.text.proofs.Spellings.{hex_of_none, byte_written, ascii_none, ascii_more, ascii_all}
use Rattle.text.proofs.hex_to.Goals as goal

pub loop-k-init : goal.loop-k-init
loop-k-init c = (omega arith, refl, rw hex_of_none refl, ascii_none)

pub loop-k-preserved : goal.loop-k-preserved
loop-k-preserved c =
    let l = c.loop-k in
    let bytes = c.args.bytes.now in (
      omega (arith, c.loop-k-test.true),
      simp length-set l.invariant.1,
      byte_written bytes c.args.out.now l.out l.k _ _ c.loop-k-test.true c.requires l.invariant.2 c.digit_of.ensures c.digit_of-in-loop-k.ensures,
      ascii_more bytes l.k c.loop-k-test.true (search rules) l.invariant.3,
    )

pub returns-clause-text : goal.returns-clause-text
returns-clause-text c =
    IsUtf8-from_ascii (hex_of c.args.bytes.now) (ascii_all c.args.bytes.now c.loop-k.k (omega (arith, c.loop-k-test.false)) c.loop-k.invariant.3)
