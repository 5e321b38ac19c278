-- The search for a user's number: it ends at the head, which is no user.
use Prim.Native.Nat.{ℕ, zero, suc, ◌≤◌}
use mathlib.Core.Path.{◌≡◌, refl}
use mathlib.Core.Bool.{Bool, true, false, cond, ◌&&◌}
use mathlib.Core.List.{List}
use native.Mathlib.Omega.{arith}
use lib.Dec.{eqb}
use Rattle.book_rules.specs.Book.{is_user, number_of}
use Rattle.book_rules.specs.Find.{find_below}

pub found_none : (b : List ℕ) (n left : ℕ) → left ≤ 1 → find_below b n left ≡ 0
unfolding find_below
found_none b n zero l = refl
found_none b n (suc zero) l = by_value (is_user b 0 && eqb (number_of b 0) n)
  where
    by_value : (t : Bool) → ◌≡◌ {A = ℕ} (cond t 0 0) 0
    by_value true = refl
    by_value false = refl
found_none b n (suc (suc k)) l = let z : ⊥ = omega arith in absurd z
