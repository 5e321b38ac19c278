-- Field by field, each where the one before it ends.
use Prim.Native.Nat.{ℕ}
use mathlib.Core.Path.{◌≡◌, refl, sym, ap, ap₂, ◌∙◌}
use mathlib.Core.List.{List}
use native.Mathlib.Omega.{arith}
use lib.ListN.{length}
use Rattle.codec.specs.Bytes.{stored}
use Rattle.codec.proofs.Pieces.{stored-none}
use Rattle.decimals.specs.Decimals.{field}
use Rattle.sheet_text.specs.InnerSteps.{kwh_of, stop_at}
use Rattle.sheet_text.proofs.LineWriting.{numbers-none, numbers-room, numbers-length, numbers-written}
use Rattle.std.proofs.Common.{rules}
use Rattle.sheet_text.proofs.write_numbers.Goals as goal

pub loop-place-init : goal.loop-place-init
loop-place-init c =
    let a = c.args in
    let none = numbers-none (kwh_of a.kwh) in record {
      within = search rules;
      same = refl;
      ends = omega (arith, ap length none);
      written = sym (ap (λ (t : List ℕ). stored a.at t a.out.now) (sym none) ∙ stored-none a.at a.out.now);
    }

pub write_field-end-requires : goal.write_field-end-requires
write_field-end-requires c =
    let l = c.loop-place in
    let a = c.args in
    let kwh = kwh_of a.kwh in
    let same : length (field c.from.result c.stop_at.result) ≡ length (field (kwh l.place) (stop_at l.place))
    = ap₂ (λ (n b : ℕ). length (field n b)) c.from.ensures c.stop_at.ensures in
    omega (arith, numbers-room kwh l.place (omega arith), l.invariant.same, l.invariant.ends)

pub loop-place-preserved : goal.loop-place-preserved
loop-place-preserved c =
    let l = c.loop-place in
    let a = c.args in
    let kwh = kwh_of a.kwh in
    let p = l.place in
    let w = c.write_field-end in
    let stop = c.stop_at in
    let long : length (field c.from.result stop.result) ≡ length (field (kwh p) (stop_at p))
    = ap₂ (λ (n b : ℕ). length (field n b)) c.from.ensures stop.ensures in record {
      within = search rules;
      same = w.auto.out ∙ l.invariant.same;
      ends = omega (arith, numbers-length kwh p, w.ensures.end, l.invariant.ends);
      written = w.ensures.stands
          ∙ ap₂ (λ (n b : ℕ). stored l.end (field n b) l.out) c.from.ensures stop.ensures
          ∙ ap₂ (λ (e : ℕ) (o : List ℕ). stored e (field (kwh p) (stop_at p)) o) l.invariant.ends l.invariant.written
          ∙ numbers-written kwh a.at p a.out.now (omega arith) (omega arith);
    }
