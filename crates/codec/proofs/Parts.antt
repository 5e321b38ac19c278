-- Parts of a string that is put together from two, and a part put together from two.
use Prim.Native.Nat.{ℕ, ◌+◌, ◌≤◌}
use mathlib.Core.Path.{◌≡◌, ap, ◌∙◌}
use mathlib.Core.List.{List, ◌++◌}
use native.Mathlib.Omega.{arith}
use lib.ListN.{length, take, drop, length-drop}
use lib.Seq.{take-append-le, drop-append-le, drop-append-add, take-add, drop-drop}
use Rattle.codec.specs.Bytes.{part}

-- a part of the first string, and one of the second
pub part-first : (w at : ℕ) (xs ys : List ℕ) → at + w ≤ length xs → part w at (xs ++ ys) ≡ part w at xs
unfolding part
part-first w at xs ys h =
    ap (take w) (drop-append-le at xs ys (omega arith)) ∙ take-append-le w (drop at xs) ys (rw length-drop (omega arith))

pub part-second : (w at : ℕ) (xs ys : List ℕ) → part w (length xs + at) (xs ++ ys) ≡ part w at ys
unfolding part
part-second w at xs ys = ap (take w) (drop-append-add xs ys at)

pub part-add : (v w at : ℕ) (s : List ℕ) → part (v + w) at s ≡ part v at s ++ part w (at + v) s
unfolding part
part-add v w at s = take-add v w (drop at s) ∙ ap (λ (l : List ℕ). take v (drop at s) ++ take w l) (drop-drop v at s)
