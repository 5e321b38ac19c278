-- The order of a call is a list of rules: a test, and the number that the call answers where the test fails ("Who brings which
-- number"). Every number in a list is a literal, so that a fact of acceptance can be asked for by its number.
use Rattle.std.specs.Prelude.{ℕ, Bool, true, cond, not, ◌&&◌, List, [], ◌∷◌, eqb}

pub record Rule : Type 0 where
  pub number : ℕ
  pub test : Bool

infix 5 ◌unless◌
abbrev pub ◌unless◌ : ℕ → Bool → Rule
n unless t = record { number = n; test = t }

-- the number of the first rule whose test fails; 0 is acceptance
unfoldable pub refused_by : List Rule → ℕ
refused_by [] = 0
refused_by (r ∷ rs) = cond r.test (refused_by rs) r.number

-- the numbers of the rules, in their order
unfoldable pub numbers_of : List Rule → List ℕ
numbers_of [] = []
numbers_of (r ∷ rs) = r.number ∷ numbers_of rs

-- the test that a number stands for
unfoldable pub test_of : ℕ → List Rule → Bool
test_of n [] = true
test_of n (r ∷ rs) = cond (eqb r.number n) r.test (test_of n rs)

-- no rule has the number
unfoldable pub without : ℕ → List Rule → Bool
without n [] = true
without n (r ∷ rs) = not (eqb r.number n) && without n rs
