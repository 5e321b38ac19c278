-- Month by month, each from the one before it.
use Rattle.std.proofs.Common.{ℕ, ◌+◌, List, sym, refl, subst, arith, rules}
use Rattle.codec.proofs.ByteRanges.{Bytes}
use Rattle.sheet_archive.specs.InnerSteps.{Restored}
use Rattle.sheet_archive.proofs.Restoring.{carried_none, carried_on, month-worked, month-stored}
use Rattle.sheet_archive.proofs.restore_four.Goals as goal

pub loop-month-init : goal.loop-month-init
loop-month-init c =
    let begun = c.requires.restored in
    record { within = search rules; same = refl; long = begun.long; held = carried_none _ _; restored = begun }

pub loop-month-preserved : goal.loop-month-preserved
loop-month-preserved c =
    let w = c.store_four in
    let n = c.next_four-next in
    let l = c.loop-month in
    let a = c.args in
    let bytes : Bytes a.archive.now = c.fits-archive in
    let worked = month-worked a.archive.now bytes a.column l.month l.numbers n.result l.invariant.held n.ensures in record {
      within = search rules;
      same = omega (arith, w.auto.sheet);
      long = omega (arith, w.auto.sheet);
      held = carried_on a.archive.now a.column l.month n.result worked;
      restored = subst (λ (s : List ℕ). Restored a.archive.now s a.column (l.month + 1) 0) (sym w.ensures)
          (month-stored a.archive.now l.sheet a.column l.month n.result (search rules) (search rules) worked
          l.invariant.restored);
    }
