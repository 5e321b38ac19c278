-- Place by place.
use Prim.Native.Nat.{◌+◌, ◌*◌}
use mathlib.Core.Path.{refl, ap, ◌∙◌}
use Rattle.codec.specs.Bytes.{bytes_of, stored}
use Rattle.sheet_text.specs.InnerSteps.{kwh_of}
use Rattle.sheet_text.proofs.Filling.{month-none, month-next}
use Rattle.std.proofs.Common.{rules}
use Rattle.sheet_text.proofs.fill_month.Goals as goal

pub loop-place-init : goal.loop-place-init
loop-place-init c =
    let a = c.args in
    record { within = search rules; same = refl; written = month-none (kwh_of a.kwh) a.month a.sheet.now }

pub loop-place-preserved : goal.loop-place-preserved
loop-place-preserved c =
    let l = c.loop-place in
    let a = c.args in
    let put = c.put in record {
      within = search rules;
      same = put.auto.s ∙ l.invariant.same;
      written = put.ensures
          ∙ ap (stored (32 + 96 * a.month + 4 * l.place) (bytes_of 4 (kwh_of a.kwh l.place))) l.invariant.written
          ∙ month-next (kwh_of a.kwh) a.month a.sheet.now l.place;
    }
