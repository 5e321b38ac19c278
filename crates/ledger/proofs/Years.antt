-- Items stand a year each from the activation year on, so that a year with an item is one before the open year, and no year is
-- closed where the open year is the activation year.
use Prim.Native.Nat.{ℕ, ◌+◌, ◌≤◌, ◌<◌}
use mathlib.Core.Path.{◌≡◌, refl, ap, ap₂, sym, ◌∙◌}
use mathlib.Core.Bool.{Bool, cond, ◌||◌, or-true}
use mathlib.Core.List.{List, [], ◌∷◌}
use native.Mathlib.Decide.{dec_lt}
use native.Mathlib.Nat.{le_refl}
use native.Mathlib.Omega.{arith}
use borrow.Author.Tests.{lt-ltb, le-ltb, eq-eqb, ne_eqb}
use lib.Dec.{eqb, ltb}
use Rattle.ledger.specs.Ledger.{Item, Advance, year_after, is_closed, none_closed, sum_advances}
use Rattle.ledger.specs.Accounting.{Consecutive}

pub from-activation : (activation : ℕ) (is : List Item) → Consecutive activation is → activation ≤ year_after activation is
unfolding Consecutive year_after
from-activation activation [] c = le_refl activation
from-activation activation (i ∷ is) c = let before = from-activation activation is c.1 in omega (arith, c.0)

pub none-closed : (activation : ℕ) (is : List Item) → Consecutive activation is → none_closed is ≡ eqb (year_after activation is) activation
unfolding none_closed year_after Consecutive
none-closed activation [] c = sym (eq-eqb activation activation refl)
none-closed activation (i ∷ is) c =
    let before = from-activation activation is c.1 in
    sym (ne_eqb (i.year + 1) activation (λ e. omega (arith, c.0, e)))

-- one year more
last-or-before : (z y : ℕ) → (eqb z y || ltb y z) ≡ ltb y (z + 1)
last-or-before z y = either (dec_lt y z) (dec_lt z y)
  where
    either : Dec (y < z) → Dec (z < y) → (eqb z y || ltb y z) ≡ ltb y (z + 1)
    either (yes before) d = rw (lt-ltb y z before, lt-ltb y (z + 1) (omega arith), or-true (eqb z y))
    either (no m) (yes after) = rw (ne_eqb z y (λ e. omega arith), le-ltb y z (omega arith), le-ltb y (z + 1) (omega arith))
    either (no m) (no n) = rw (eq-eqb z y (omega arith), lt-ltb y (z + 1) (omega arith))

closed-before : (activation : ℕ) (is : List Item) → Consecutive activation is → (y : ℕ) → activation ≤ y → is_closed is y ≡ ltb y (year_after activation is)
unfolding is_closed Consecutive year_after
closed-before activation [] c y from = sym (le-ltb y activation from)
closed-before activation (i ∷ is) c y from =
    ap (λ (t : Bool). eqb i.year y || t) (closed-before activation is c.1 y from)
    ∙ ap (λ (z : ℕ). eqb i.year y || ltb y z) (sym c.0)
    ∙ last-or-before i.year y

-- no advance is of a year before y
unfoldable pub NoneBefore : ℕ → List Advance → Type 0
NoneBefore y [] = Unit {0}
NoneBefore y (a ∷ l) = (y ≤ a.year) × NoneBefore y l

pub closed-advances-before : (activation : ℕ) (is : List Item) → Consecutive activation is → (as' : List Advance) → NoneBefore activation as'
    → sum_advances (is_closed is) as' ≡ sum_advances (λ y. ltb y (year_after activation is)) as'
unfolding sum_advances NoneBefore
closed-advances-before activation is c [] n = refl
closed-advances-before activation is c (a ∷ as') n =
    ap₂ (λ (t : Bool) (rest : ℕ). cond t a.ticks 0 + rest) (closed-before activation is c a.year n.0) (closed-advances-before activation is c as' n.1)
