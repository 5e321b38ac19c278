-- Advances by year: those before a year and those of it are those before the next, and no advance is of a year after the
-- two that were open when it was made.
use Prim.Native.Nat.{ℕ, ◌+◌, ◌≤◌, ◌<◌}
use mathlib.Core.Path.{◌≡◌, refl}
use mathlib.Core.Bool.{cond}
use mathlib.Core.List.{List, [], ◌∷◌}
use native.Mathlib.Decide.{dec_lt}
use native.Mathlib.Omega.{arith}
use lib.Dec.{eqb, ltb}
use borrow.Author.Tests.{lt-ltb, le-ltb, eq-eqb, ne_eqb}
use Rattle.ledger.specs.Ledger.{Advance, sum_advances}

-- one advance of t ticks, of the year y: before the year z + 1, it is before z or of z
advance-split : (z y t : ℕ) → cond (ltb y (z + 1)) t 0 ≡ cond (ltb y z) t 0 + cond (eqb z y) t 0
advance-split z y t = either (dec_lt y z) (dec_lt z y)
  where
    either : Dec (y < z) → Dec (z < y) → cond (ltb y (z + 1)) t 0 ≡ cond (ltb y z) t 0 + cond (eqb z y) t 0
    either (yes before) d =
        rw (lt-ltb y (z + 1) (omega arith), lt-ltb y z before, ne_eqb z y (λ e. omega arith)) (omega arith)
    either (no m) (yes after) =
        rw (le-ltb y (z + 1) (omega arith), le-ltb y z (omega arith), ne_eqb z y (λ e. omega arith)) (omega arith)
    either (no m) (no n) =
        rw (lt-ltb y (z + 1) (omega arith), le-ltb y z (omega arith), eq-eqb z y (omega arith)) (omega arith)

pub advances-split : (z : ℕ) (l : List Advance)
    → sum_advances (λ y. ltb y (z + 1)) l ≡ sum_advances (λ y. ltb y z) l + sum_advances (eqb z) l
unfolding sum_advances
advances-split z [] = refl
advances-split z (a ∷ l) =
    let front = advance-split z a.year a.ticks in
    let rest = advances-split z l in
    omega arith

-- an advance of the year z, or of a later one, is not before z
pub advance-not-before : (y z t : ℕ) → z ≤ y → cond (ltb y z) t 0 ≡ 0
advance-not-before y z t h = rw (le-ltb y z h)

-- no advance is of a year after y
unfoldable pub NoneAfter : ℕ → List Advance → Type 0
NoneAfter y [] = Unit {0}
NoneAfter y (a ∷ l) = (a.year ≤ y) × NoneAfter y l

pub none-after-later : {y z : ℕ} → y ≤ z → (l : List Advance) → NoneAfter y l → NoneAfter z l
unfolding NoneAfter
none-after-later h [] n = tt
none-after-later h (a ∷ l) n = (omega (arith, n.0), none-after-later h l n.1)

-- so a later year has none
pub none-of-later : {y z : ℕ} → y < z → (l : List Advance) → NoneAfter y l → sum_advances (eqb z) l ≡ 0
unfolding NoneAfter sum_advances
none-of-later h [] n = refl
none-of-later {y} {z} h (a ∷ l) n =
    rw (ne_eqb z a.year (λ e. omega (arith, n.0))) (omega (arith, none-of-later h l n.1))
