-- The numbers of each call's own rules, by computation: with 1 and 2 in front they are document 01's line "Order", with 19 at
-- 13's place (ticket 7). No call has a rule of its own with 0, 1 or 2. A call that is not refused passes every test of its order,
-- and each is found by its number.
use Prim.Native.Nat.{ℕ}
use mathlib.Core.Path.{◌≡◌, refl}
use mathlib.Core.Bool.{true}
use mathlib.Core.List.{List, [], ◌∷◌}
use Rattle.sheet_values.specs.declared.Details.{Details}
use Rattle.book_rules.specs.Book.{length_fits}
use Rattle.call_rules.specs.Rules.{Rule, numbers_of, test_of, without}
use Rattle.call_rules.specs.Refusals.{Look, look_at}
use Rattle.call_rules.specs.Calls.{Call, enrol, elect, advance, close, statement, charge, named_by, rules_of, order_of, refusal_of}
use Rattle.call_rules.proofs.Rules.{passes}

module _ (v : Look) where
  pub enrol-order : (n : ℕ) (d : Details) (o : ℕ) → numbers_of (rules_of v (enrol n d o)) ≡ 4 ∷ 5 ∷ 3 ∷ []
  unfolding numbers_of rules_of
  enrol-order n d o = refl

  pub elect-order : (n o y m d : ℕ) → numbers_of (rules_of v (elect n o y m d)) ≡ 6 ∷ 7 ∷ 8 ∷ []
  unfolding numbers_of rules_of
  elect-order n o y m d = refl

  pub advance-order : (n y r p e₁ e₂ : ℕ) → numbers_of (rules_of v (advance n y r p e₁ e₂)) ≡ 6 ∷ 9 ∷ 10 ∷ 3 ∷ []
  unfolding numbers_of rules_of
  advance-order n y r p e₁ e₂ = refl

  pub close-order : (s : List ℕ) → numbers_of (rules_of v (close s)) ≡ 11 ∷ 6 ∷ 12 ∷ 13 ∷ 19 ∷ 14 ∷ 3 ∷ []
  unfolding numbers_of rules_of
  close-order s = refl

  pub statement-order : (n : ℕ) → numbers_of (rules_of v (statement n)) ≡ 6 ∷ []
  unfolding numbers_of rules_of
  statement-order n = refl

  pub charge-order : (n : ℕ) → numbers_of (rules_of v (charge n)) ≡ 6 ∷ 16 ∷ []
  unfolding numbers_of rules_of
  charge-order n = refl

-- 0 is acceptance, 1 and 2 are the book's. Each is a computation: where a number of a list were no literal, it would stop here.
pub record Reserved (rs : List Rule) : Type 0 where
  pub zero : without 0 rs ≡ true
  pub one : without 1 rs ≡ true
  pub two : without 2 rs ≡ true

pub reserved : (v : Look) (c : Call) → Reserved (rules_of v c)
unfolding rules_of without
reserved v (enrol n d o) = record { zero = refl; one = refl; two = refl }
reserved v (elect n o y m d) = record { zero = refl; one = refl; two = refl }
reserved v (advance n y r p e₁ e₂) = record { zero = refl; one = refl; two = refl }
reserved v (close s) = record { zero = refl; one = refl; two = refl }
reserved v (statement n) = record { zero = refl; one = refl; two = refl }
reserved v (charge n) = record { zero = refl; one = refl; two = refl }

module _ (b : List ℕ) (c : Call) (h : refusal_of b c ≡ 0) where
  pub fact : (n : ℕ) → test_of n (order_of b c) ≡ true
  unfolding refusal_of without
  fact n = passes n (order_of b c) (reserved (look_at b (named_by c)) c).zero h

  pub length-fact : length_fits b ≡ true
  unfolding test_of
  length-fact = fact 1
