-- The three answers of the writer, and what each leaves of the lent bytes.
use Prim.Native.Nat.{ℕ}
use mathlib.Core.Path.{◌≡◌, refl, sym, ap}
use mathlib.Core.Bool.{Bool, true, false, not, ◌&&◌, ◌||◌}
use mathlib.Core.List.{List}
use Rattle.std.specs.Prelude.{Err}
use lib.Dec.{eqb}
use lib.ListN.{length}
use Rattle.codec.specs.Bytes.{stored}
use Rattle.refusals.specs.declared.Position.{Position}
use Rattle.sheet.specs.YearSheet.{sheet_length, word}
use Rattle.refusals.specs.declared.Refusal.TheVariants.{AboveLimit}
use Rattle.sheet_text.specs.Lines.{year_text}
use Rattle.sheet_text.specs.Writing.{text_room, buffers_fit, sheet_above, size_refused, text_written, write_answer, buffer_after}
use Rattle.sheet_text.specs.InnerSteps.{SheetAbove}

either-wrong : (x y : Bool) → (not x || not y) ≡ true → (x && y) ≡ false
either-wrong true true e = sym e
either-wrong true false e = refl
either-wrong false y e = refl

neither-wrong : (x y : Bool) → (not x || not y) ≡ false → (x && y) ≡ true
neither-wrong true true e = refl
neither-wrong true false e = sym e
neither-wrong false y e = sym e

module _ (s b : List ℕ) where
  abbrev Wrong : Bool
  Wrong = not (eqb (length s) sheet_length) || not (eqb (length b) text_room)

  pub sizes-right : Wrong ≡ false → buffers_fit s b ≡ true
  unfolding buffers_fit
  sizes-right e = neither-wrong (eqb (length s) sheet_length) (eqb (length b) text_room) e

  pub sizes-answered : Wrong ≡ true → (size_refused ≡ write_answer s b) × (b ≡ buffer_after s b)
  unfolding buffers_fit write_answer buffer_after
  sizes-answered e =
      let no_size = either-wrong (eqb (length s) sheet_length) (eqb (length b) text_room) e in
      (rw no_size, rw no_size)

  module _ (right : Wrong ≡ false) where
    pub above-answered : {position : Position} → SheetAbove s position → (Err (AboveLimit position) ≡ write_answer s b) × (b ≡ buffer_after s b)
    unfolding write_answer buffer_after
    above-answered above =
        let size = sizes-right right in
        (rw (size, above.some, above.at), rw (size, above.some))

    pub text-answered : sheet_above s ≡ false → (n : ℕ) (after : List ℕ) → n ≡ length (year_text (word s)) → after ≡ stored 0 (year_text (word s)) b
        → (text_written n ≡ write_answer s b) × (after ≡ buffer_after s b)
    unfolding write_answer buffer_after
    text-answered none n after e f =
        let size = sizes-right right in
        (rw (size, none) (ap text_written e), rw (size, none) f)
