-- Line by line, each where the one before it ends; the twelve of a sheet past 13 fit.
use Prim.Native.Nat.{ℕ, ◌+◌}
use mathlib.Core.Path.{◌≡◌, refl, sym, ap, ap₂, ◌∙◌}
use mathlib.Core.List.{List}
use native.Mathlib.Omega.{arith}
use lib.ListN.{length}
use Rattle.codec.specs.Bytes.{stored}
use Rattle.codec.proofs.Pieces.{stored-none}
use Rattle.sheet.specs.YearSheet.{word}
use Rattle.sheet_text.specs.Lines.{months, line, lines}
use Rattle.sheet_text.specs.InnerSteps.{kwh_of}
use Rattle.sheet_text.proofs.LineWriting.{line_same, lines_none, lines-length, lines-room, year-room, lines-written}
use Rattle.sheet_text.proofs.SheetAbove.{sizes-of, sheet-within}
use Rattle.std.proofs.Common.{rules}
use Rattle.sheet_text.proofs.write_lines.Goals as goal

pub loop-month-init : goal.loop-month-init
loop-month-init c =
    let a = c.args in
    let none = lines_none (word a.sheet.now) in
    record {
      within = search rules;
      same = refl;
      ends = ap length none;
      written = sym (ap (λ (t : List ℕ). stored 0 t a.out.now) (sym none) ∙ stored-none 0 a.out.now);
    }

pub write_line-end-requires : goal.write_line-end-requires
write_line-end-requires c =
    let l = c.loop-month in
    let s = c.args.sheet.now in
    let same = line_same (l.month + 1) (kwh_of c.month_of.result) (word s l.month) c.month_of.ensures in
    let room = (sizes-of s c.args.out.now c.requires.0).1 in
    omega (
      arith,
      ap length same,
      lines-room l.month (word s) (omega arith) (sheet-within s c.requires.1),
      l.invariant.same,
      l.invariant.ends,
    )

pub loop-month-preserved : goal.loop-month-preserved
loop-month-preserved c =
    let l = c.loop-month in
    let s = c.args.sheet.now in
    let out = c.args.out.now in
    let six = c.month_of in
    let w = c.write_line-end in
    let same = line_same (l.month + 1) (kwh_of six.result) (word s l.month) six.ensures in
    let room = (sizes-of s out c.requires.0).1 in record {
      within = search rules;
      same = w.auto.out ∙ l.invariant.same;
      ends = omega (arith, ap length same, lines-length l.month (word s), w.ensures.end, l.invariant.ends);
      written = w.ensures.stands
          ∙ ap (λ (t : List ℕ). stored l.end t l.out) same
          ∙ ap₂ (λ (e : ℕ) (o : List ℕ). stored e (line (l.month + 1) (word s l.month)) o) l.invariant.ends l.invariant.written
          ∙ lines-written l.month (word s) out (omega arith) (sheet-within s c.requires.1) room;
    }

pub returns : goal.returns
returns c =
    let l = c.loop-month in
    let s = c.args.sheet.now in
    let end : l.month ≡ months = omega arith in
    let whole = l.invariant.ends ∙ ap (λ (m : ℕ). length (lines m (word s))) end in record {
      end = whole;
      most = omega (arith, year-room (word s) (sheet-within s c.requires.1));
      stands = l.invariant.written ∙ ap (λ (m : ℕ). stored 0 (lines m (word s)) c.args.out.now) end;
    }
