-- A test that is made only where another one passes; and the tests of an entry by its owner's years.
use Prim.Native.Nat.{ℕ, ◌≤◌, ◌<◌}
use mathlib.Core.Path.{◌≡◌}
use mathlib.Core.Bool.{Bool, true, false, ◌&&◌, ◌||◌, and-true}
use native.Mathlib.Decide.{dec_lt}
use native.Mathlib.Omega.{arith}
use borrow.Author.Tests.{eq-eqb, ne_eqb, eqb-false, le-leb, lt-leb, leb-false}
use lib.Dec.{eqb, leb}
use Rattle.units.proofs.Bools.{or_left, or_right}

pub tested : {s t r : Bool} → s ≡ true → r ≡ t → r ≡ (t && s)
tested {s} {t} e p = rw (e, and-true t) p

-- an owner that is a record below the entry
pub owner-below : (owner i : ℕ) → (eqb owner 0 || leb i owner) ≡ false → (1 ≤ owner) × (owner < i)
owner-below owner i e =
    let some = eqb-false owner 0 (or_left (eqb owner 0) (leb i owner) e) in
    (omega (arith, some), leb-false i owner (or_right (eqb owner 0) (leb i owner) e))

-- what is at most nothing is nothing
pub none_is_zero : (n : ℕ) → eqb n 0 ≡ leb n 0
none_is_zero n = by_size (dec_lt 0 n)
  where
    by_size : Dec (0 < n) → eqb n 0 ≡ leb n 0
    by_size (yes h) = rw (ne_eqb n 0 (omega arith), lt-leb n 0 h)
    by_size (no h) = rw (eq-eqb n 0 (omega (arith, h)), le-leb n 0 (omega (arith, h)))
