-- The digits are those of the number: at most twenty, which is all that a number of 64 bits has.
use mathlib.Core.Path.{sym, ap, ◌∙◌}
use native.Mathlib.Omega.{arith}
use lib.Seq.{length-take-le}
use Rattle.decimals.proofs.Written.{decimal-short, number-front}
use Rattle.output.specs.InnerRows.{joined}
use Rattle.output.proofs.Row.put_number.Goals as goal

pub write_number-count-requires : goal.write_number-count-requires
write_number-count-requires c = omega (arith, decimal-short 19 c.args.n (omega arith))

pub slice_bounds-digits-end : goal.slice_bounds-digits-end
slice_bounds-digits-end c =
    let w = c.write_number-count in
    omega (arith, w.ensures.end, w.auto.out, decimal-short 19 c.args.n (omega arith))

pub slice_bounds-put_text-end : goal.slice_bounds-put_text-end
slice_bounds-put_text-end c =
    let w = c.write_number-count in
    let n = c.args.n in
    sym (length-take-le w.result w.new.out (omega (arith, w.ensures.end, w.auto.out, decimal-short 19 n (omega arith))))

pub returns : goal.returns
returns c =
    let w = c.write_number-count in
    c.put_text.ensures ∙ ap (joined _) (number-front c.args.n w.result _ w.new.out w.ensures.end w.ensures.stands)
