-- The digits, the first of them and the byte behind them: the rule, test by test.
use Rattle.std.proofs.Common.{refl, sym, ◌∙◌, arith, length-drop}
use lib.Seq.{take_all}
use Rattle.decimals.proofs.Fields.{field-tested, behind-clipped}
use Rattle.decimals.proofs.read_field.Goals as goal

pub returns-else-plain-byte_at : goal.returns-else-plain-byte_at
returns-else-plain-byte_at c =
    let s = c.args.s.now in
    record {
      missing = sym (field-tested s c.args.stop _ _ _ _ c.read_run-run.ensures.count c.byte_at.ensures c.byte_at-2.ensures refl)
          ∙ c.if-plain-byte_at.false;
      value = c.read_run-run.ensures.value;
      rest = take_all _ _ (rw length-drop (omega arith)) ∙ behind-clipped s _ _ c.read_run-run.ensures.count c.min-end.ensures;
    }

pub returns-then-plain-byte_at : goal.returns-then-plain-byte_at
returns-then-plain-byte_at c =
    let s = c.args.s.now in
    record {
      stands = sym (field-tested s c.args.stop _ _ _ _ c.read_run-run.ensures.count c.byte_at.ensures c.byte_at-2.ensures refl)
          ∙ c.if-plain-byte_at.true;
      value = c.read_run-run.ensures.value;
      rest = take_all _ _ (rw length-drop (omega arith)) ∙ behind-clipped s _ _ c.read_run-run.ensures.count c.min-end.ensures;
    }
