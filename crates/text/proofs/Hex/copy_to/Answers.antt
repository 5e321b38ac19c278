-- One byte more.
use Rattle.std.proofs.Common.{◌<◌, ◌+◌, ◌*◌, length, refl, arith}
use lib.ListN.{length-set}
use Rattle.text.proofs.Spellings.{hex_of_none, byte_read, rest_stays}
use Rattle.text.proofs.Hex.copy_to.Goals as goal

pub loop-k-init : goal.loop-k-init
loop-k-init c = (omega arith, refl, rw hex_of_none refl, refl)

pub loop-k-preserved : goal.loop-k-preserved
loop-k-preserved c =
    let l = c.loop-k in
    let digits = c.args.self.digits.now in
    let more = c.loop-k-test.true in
    let inside : 2 * l.k + 1 < length digits = omega (arith, more, c.count-count.ensures) in
    let room : l.k < length l.out = omega (arith, more, c.count-count.ensures, c.requires, l.invariant.1) in
    let high = c.digit_value.ensures in
    let low = c.digit_value-in-loop-k.ensures in (
      omega (arith, more),
      simp length-set l.invariant.1,
      byte_read digits l.out l.k _ _ inside room high.small low.small high.digit low.digit l.invariant.2,
      rest_stays c.args.out.now l.out l.k _ l.invariant.3,
    )
