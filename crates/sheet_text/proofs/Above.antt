-- The first place of a month with a number above its limit.
use Prim.Native.Nat.{ℕ, zero, suc, ◌+◌, ◌≤◌, ◌<◌}
use mathlib.Core.Path.{◌≡◌, refl, sym, ◌∙◌}
use mathlib.Core.Bool.{Bool, true, false}
use native.Mathlib.Omega.{arith}
use lib.Dec.{ltb}
use borrow.Author.Tests.{lt-ltb, le-ltb, ltb-false}
use Rattle.units.specs.Limits.{max_kwh}
use Rattle.units.specs.Folds.{any_below, first_below}
use Rattle.units.proofs.Bools.{or-neither}
use Rattle.units.proofs.Folds.{any-zero, any_step, any_of, any-cong, none-at, none_of, first-is}
use Rattle.sheet_text.specs.Lines.{readings}
use Rattle.sheet_text.specs.Reading.{some_kwh_above, first_above}
use Rattle.sheet_text.specs.InnerSteps.{FirstAbove}

module _ (kwh : ℕ → ℕ) where
  abbrev pub NoneBefore : ℕ → Type 0
  NoneBefore p = any_below p (λ i. ltb max_kwh (kwh i)) ≡ false

  pub none-before-first : NoneBefore 0
  none-before-first = any-zero (λ i. ltb max_kwh (kwh i))

  pub none_more : (p : ℕ) → NoneBefore p → kwh p ≤ max_kwh → NoneBefore (p + 1)
  none_more p h l = any_step p (λ i. ltb max_kwh (kwh i)) ∙ or-neither h (le-ltb max_kwh (kwh p) l)

  -- a number above the limit, none before it; none at all
  some-above : (p : ℕ) → p < readings → max_kwh < kwh p → some_kwh_above kwh ≡ true
  unfolding some_kwh_above
  some-above p l h = any_of readings (λ i. ltb max_kwh (kwh i)) p l (lt-ltb max_kwh (kwh p) h)

  pub above-found : (p : ℕ) → p < readings → NoneBefore p → max_kwh < kwh p → FirstAbove kwh p
  unfolding first_above
  above-found p l none h =
      record {
        within = l;
        some = some-above p l h;
        first = first-is readings (λ i. ltb max_kwh (kwh i)) p l (lt-ltb max_kwh (kwh p) h) (λ j b. none-at p (λ i. ltb max_kwh (kwh i)) none j b);
      }

  pub above-none : NoneBefore readings → some_kwh_above kwh ≡ false
  unfolding some_kwh_above
  above-none none = none

  pub none_above : some_kwh_above kwh ≡ false → (p : ℕ) → p < readings → kwh p ≤ max_kwh
  unfolding some_kwh_above
  none_above none p l = ltb-false max_kwh (kwh p) (none-at readings (λ i. ltb max_kwh (kwh i)) none p l)

  pub all-within : ((p : ℕ) → p < readings → kwh p ≤ max_kwh) → some_kwh_above kwh ≡ false
  unfolding some_kwh_above
  all-within h = none_of readings (λ i. ltb max_kwh (kwh i)) (λ p l. le-ltb max_kwh (kwh p) (h p l))

first-same : (n : ℕ) (p q : ℕ → Bool) → ((i : ℕ) → i < n → p i ≡ q i) → first_below n p ≡ first_below n q
unfolding first_below
first-same zero p q h = refl
first-same (suc n) p q h =
    rw (any-cong n p q (λ i l. h i (omega arith)), first-same n p q (λ i l. h i (omega arith)))

-- numbers that are on the same side of the limit
module _ (f g : ℕ → ℕ) (same : (p : ℕ) → p < readings → ltb max_kwh (f p) ≡ ltb max_kwh (g p)) where
  pub some_same : some_kwh_above f ≡ some_kwh_above g
  unfolding some_kwh_above
  some_same = any-cong readings (λ i. ltb max_kwh (f i)) (λ i. ltb max_kwh (g i)) same

  pub above_same : {p : ℕ} → FirstAbove f p → FirstAbove g p
  unfolding first_above
  above_same w =
      record {
        within = w.within;
        some = sym some_same ∙ w.some;
        first = w.first ∙ first-same readings (λ i. ltb max_kwh (f i)) (λ i. ltb max_kwh (g i)) same;
      }
