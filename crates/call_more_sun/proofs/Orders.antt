-- The numbers of the order, by computation: those of a closing without 12, 14 and 3, and 23 after 13 (19 stands at 13's place).
use Prim.Native.Nat.{ℕ}
use mathlib.Core.Path.{◌≡◌, refl}
use mathlib.Core.Bool.{true}
use mathlib.Core.List.{List, [], ◌∷◌}
use Rattle.call_rules.specs.Rules.{numbers_of, without}
use Rattle.call_rules.specs.Refusals.{Look}
use Rattle.call_more_sun.specs.Asked.{more_sun_rules, more_sun_order}

pub more-sun-order : (b s : List ℕ) (month band : ℕ) → numbers_of (more_sun_order b s month band) ≡ 1 ∷ 2 ∷ 11 ∷ 6 ∷ 13 ∷ 19 ∷ 23 ∷ []
unfolding numbers_of more_sun_order
more-sun-order b s month band = refl

-- 2 is the book's alone
pub without-2 : (v : Look) (s : List ℕ) (month band : ℕ) → without 2 (more_sun_rules v s month band) ≡ true
unfolding without
without-2 v s month band = refl
