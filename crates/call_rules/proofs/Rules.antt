-- What the answer of an order tells: a call that is not refused_by meets each rule, and no order answers a number that none of
-- its rules has.
use Prim.Native.Nat.{ℕ}
use mathlib.Core.Path.{◌≡◌, refl, sym}
use mathlib.Core.Bool.{Bool, true, false, cond, not}
use mathlib.Core.List.{List, [], ◌∷◌}
use borrow.Author.Tests.{eqb-false, not-true}
use lib.Dec.{eqb}
use Rattle.units.proofs.Bools.{and_left, and_right}
use Rattle.call_rules.specs.Rules.{Rule, refused_by, test_of, without}

pub passes : (n : ℕ) (rs : List Rule) → without 0 rs ≡ true → refused_by rs ≡ 0 → test_of n rs ≡ true
unfolding refused_by test_of without
passes n [] some h = refl
passes n (r ∷ rs) some h = by-test r.test refl (eqb r.number n) (passes n rs (and_right (not (eqb r.number 0)) (without 0 rs) some))
  where
    by-test : (t : Bool) → r.test ≡ t → (own : Bool) → (refused_by rs ≡ 0 → test_of n rs ≡ true) → cond own r.test (test_of n rs) ≡ true
    by-test true e true rest = e
    by-test true e false rest = let later : refused_by rs ≡ 0 = rw e at h in rest later
    by-test false e own rest =
        let stopped : r.number ≡ 0 = rw e at h in
        absurd (eqb-false r.number 0 (not-true (eqb r.number 0) (and_left (not (eqb r.number 0)) (without 0 rs) some)) stopped)

pub never-answered : (n : ℕ) (rs : List Rule) → without n rs ≡ true → (n ≡ 0 → ⊥) → refused_by rs ≡ n → ⊥
unfolding refused_by without
never-answered n [] some other h = other (sym h)
never-answered n (r ∷ rs) some other h = by-test r.test refl (never-answered n rs (and_right (not (eqb r.number n)) (without n rs) some) other)
  where
    by-test : (t : Bool) → r.test ≡ t → (refused_by rs ≡ n → ⊥) → ⊥
    by-test true e rest = rest (rw e at h)
    by-test false e rest =
        let stopped : r.number ≡ n = rw e at h in
        eqb-false r.number n (not-true (eqb r.number n) (and_left (not (eqb r.number n)) (without n rs) some)) stopped
