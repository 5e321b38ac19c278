-- The standing credit of document 01's sentence, "the largest total ..", is given by the credit of a closing, year by
-- year: it exists, is the only one, and the lapsed credit goes by it.
use Prim.Native.Nat.{ℕ, zero, suc, ◌+◌, ◌-◌, ◌≤◌}
use mathlib.Core.Path.{◌≡◌, refl, sym, ◌∙◌}
use mathlib.Core.Bool.{Bool, true, false, cond, true≢false}
use mathlib.Core.List.{List, [], ◌∷◌}
use mathlib.Core.Logic.{◌⊎◌, inl, inr, ⊎_elim}
use native.Mathlib.Decide.{dec_le}
use native.Mathlib.Omega.{arith}
use lib.ListN.{take}
use Rattle.units.proofs.Bools.{or_left, or_right, or-neither}
use Rattle.account_steps.specs.Closing.{liquidates, credit_after}
use Rattle.ledger.specs.Ledger.{Item, sum_items}
use Rattle.ledger.specs.Accounting.{Run, Standing, holds_liquidation, value_over, cost_over}

-- the credit of the closings, one after another from zero on
unfoldable pub figure : List Item → ℕ
figure [] = 0
figure (i ∷ is) = credit_after i.option (figure is) i.value i.cost

-- the runs that end with a year i: none if i is a liquidation year, else i alone and i after each run that ends before it
no_run : (n : ℕ) (i : Item) (is : List Item) → liquidates i.option ≡ true → Run n (i ∷ is) → ⊥
unfolding holds_liquidation
no_run zero i is e r = omega (arith, r.some)
no_run (suc n) i is e r = true≢false (sym e ∙ or_left (liquidates i.option) (holds_liquidation (take n is)) r.on_credit)

run_alone : (i : Item) (is : List Item) → liquidates i.option ≡ false → Run 1 (i ∷ is)
unfolding holds_liquidation
run_alone i is e = record { some = omega arith; within = omega arith; on_credit = or-neither e refl }

run-after : (n : ℕ) (i : Item) (is : List Item) → liquidates i.option ≡ false → Run n is → Run (suc n) (i ∷ is)
unfolding holds_liquidation
run-after n i is e r =
    record { some = omega arith; within = omega (arith, r.within); on_credit = or-neither e r.on_credit }

run-before : (n : ℕ) (i : Item) (is : List Item) → Run (suc (suc n)) (i ∷ is) → Run (suc n) is
unfolding holds_liquidation
run-before n i is r =
    record {
      some = omega arith;
      within = omega (arith, r.within);
      on_credit = or_right (liquidates i.option) (holds_liquidation (take (suc n) is)) r.on_credit;
    }

-- after a liquidation year
standing-liquidated : (i : Item) (is : List Item) → liquidates i.option ≡ true → Standing (i ∷ is) 0
standing-liquidated i is e = record { largest = λ n r. absurd (no_run n i is e r); reached = inl refl }

-- after a year on credit, from the figure k of the years before
module _ (i : Item) (is : List Item) (k : ℕ) (e : liquidates i.option ≡ false) (s : Standing is k) where
  largest-carried : (n : ℕ) → Run n (i ∷ is) → value_over n (i ∷ is) ≤ (k + i.value - i.cost) + cost_over n (i ∷ is)
  unfolding sum_items
  largest-carried zero r = let z : ⊥ = omega (arith, r.some) in absurd z
  largest-carried (suc zero) r = omega arith
  largest-carried (suc (suc n)) r = omega (arith, s.largest (suc n) (run-before n i is r))

  abbrev Reached : Type 0
  Reached = (n : ℕ) × Run n (i ∷ is) × (value_over n (i ∷ is) ≡ (k + i.value - i.cost) + cost_over n (i ∷ is))

  reached-above : suc i.cost ≤ k + i.value → Reached
  unfolding sum_items
  reached-above above = ⊎_elim from_zero from-run s.reached
    where
      from_zero : k ≡ 0 → Reached
      from_zero z = (1, run_alone i is e, omega arith)

      from-run : (n : ℕ) × Run n is × (value_over n is ≡ k + cost_over n is) → Reached
      from-run p = (suc p.0, run-after p.0 i is e p.1, omega (arith, p.2))

  reached-carried : (k + i.value - i.cost ≡ 0) ⊎ Reached
  reached-carried = either (dec_le (k + i.value) i.cost)
    where
      either : Dec (k + i.value ≤ i.cost) → (k + i.value - i.cost ≡ 0) ⊎ Reached
      either (yes below) = inl (omega arith)
      either (no above) = inr (reached-above (omega arith))

  standing-carried : Standing (i ∷ is) (k + i.value - i.cost)
  standing-carried = record { largest = largest-carried; reached = reached-carried }

standing-next : (i : Item) (is : List Item) (k : ℕ)
    → Standing is k → Standing (i ∷ is) (credit_after i.option k i.value i.cost)
unfolding credit_after
standing-next i is k s = by-option (liquidates i.option) refl
  where
    by-option : (b : Bool) → liquidates i.option ≡ b → Standing (i ∷ is) (cond (liquidates i.option) 0 (k + i.value - i.cost))
    by-option true e = rw e (standing-liquidated i is e)
    by-option false e = rw e (standing-carried i is k e s)

standing-none : Standing [] 0
standing-none = record { largest = λ n r. omega (arith, r.some, r.within); reached = inl refl }

-- the figure that document 01's sentence names exists, ..
pub standing-exists : (is : List Item) → Standing is (figure is)
unfolding figure
standing-exists [] = standing-none
standing-exists (i ∷ is) = standing-next i is (figure is) (standing-exists is)

standing-at-most : (is : List Item) (k k' : ℕ) → Standing is k → Standing is k' → k ≤ k'
standing-at-most is k k' s s' = ⊎_elim from_zero from-run s.reached
  where
    from_zero : k ≡ 0 → k ≤ k'
    from_zero z = omega arith

    from-run : (n : ℕ) × Run n is × (value_over n is ≡ k + cost_over n is) → k ≤ k'
    from-run p = omega (arith, p.2, s'.largest p.0 p.1)

-- .. and there is no other
pub standing-unique : {is : List Item} {k k' : ℕ} → Standing is k → Standing is k' → k ≡ k'
standing-unique {is} {k} {k'} s s' = omega (arith, standing-at-most is k k' s s', standing-at-most is k' k s' s)
