-- The earliest number at fault: there is one where any number is at fault, and no sheet has two. It decides between 13 and 19.
use Prim.Native.Nat.{ℕ, ◌+◌, ◌-◌, ◌<◌}
use mathlib.Core.Path.{◌≡◌, refl, sym, ap, ap₂, ◌∙◌}
use mathlib.Core.Bool.{Bool, true, false, not, ◌&&◌, ◌||◌, true≢false}
use mathlib.Core.Logic.{◌⊎◌, inl, inr, ⊎_elim}
use mathlib.Core.List.{List}
use native.Mathlib.Omega.{arith}
use borrow.Author.Tests.{not-true}
use Rattle.units.specs.Folds.{all_below, any_below}
use Rattle.units.proofs.Bools.{and_left, and_right, and_both, or-neither}
use Rattle.units.proofs.Folds.{all-at, all_of, none-at, none_of, any_of, First, first_below_lem}
use Rattle.std.specs.Prelude.{Result, Ok, Err, is_ok}
use Rattle.refusals.specs.declared.Position.{Position}
use Rattle.sheet.specs.YearSheet.{above_limit, stray_band, at_fault, earliest, refused13, refused19, EarliestAt, OneEarliest, tells, Tells, Past13}
use Rattle.refusals.specs.Refusals.{nowhere}
use Rattle.refusals.specs.declared.Refusal.{Refusal}
use Rattle.refusals.specs.Refusals.{number_of, position_of, position_at, refusal_in, position_in}
use Rattle.sheet.specs.Objections.{number_of_fault, answer_to, Faulted}

-- every other answer tells zeros
pub untold : (s : List ℕ) (n : ℕ) → tells n ≡ false → Tells s n nowhere
untold s n other = record { position = λ e. absurd (true≢false (sym e ∙ other)); zeros = λ e. refl }

module _ (s : List ℕ) where
  -- none of the months before m has a number at fault
  abbrev Before : ℕ → Type 0
  Before m = (n : ℕ) → n < m → (p : ℕ) → p < 23 → at_fault s n p ≡ false

  pub record IsEarliest (m place : ℕ) : Type 0 where
    pub at-fault : at_fault s m place ≡ true
    pub row : (p : ℕ) → p < place → at_fault s m p ≡ false
    pub months : Before m

  is-earliest : (m place : ℕ) → earliest s m place ≡ true → IsEarliest m place
  unfolding earliest
  is-earliest m place e =
      let row = all_below place (λ p. not (at_fault s m p)) in
      let months = all_below m (λ n. all_below 23 (λ p. not (at_fault s n p))) in
      let rest = and_right (at_fault s m place) (row && months) e in
      record {
        at-fault = and_left (at_fault s m place) (row && months) e;
        row = λ p l. not-true _ (all-at place (λ q. not (at_fault s m q)) (and_left row months rest) p l);
        months = λ n l p k. not-true _ (all-at 23 (λ q. not (at_fault s n q)) (all-at m (λ x. all_below 23 (λ q. not (at_fault s x q))) (and_right row months rest) n l) p k);
      }

  earliest-is : (m place : ℕ) → IsEarliest m place → earliest s m place ≡ true
  unfolding earliest
  earliest-is m place i =
      and_both i.at-fault
      (and_both (all_of place (λ p. not (at_fault s m p)) (λ p l. rw (i.row p l)))
      (all_of m (λ n. all_below 23 (λ p. not (at_fault s n p))) (λ n l. all_of 23 (λ p. not (at_fault s n p)) (λ p k. rw (i.months n l p k)))))

  -- of two earliest numbers neither stands before the other
  not_earlier : (m p n q : ℕ) → IsEarliest m p → IsEarliest n q → p < 23 → m < n → ⊥
  not_earlier m p n q here there hp l = true≢false (sym here.at-fault ∙ there.months m l p hp)

  not_left : (m p q : ℕ) → IsEarliest m p → IsEarliest m q → p < q → ⊥
  not_left m p q here there l = true≢false (sym here.at-fault ∙ there.row p l)

  same_number : (m p n q : ℕ) → IsEarliest m p → IsEarliest n q → p < 23 → q < 23 → (m ≡ n) × (p ≡ q)
  same_number m p n q here there hp hq =
      let month : m ≡ n = omega (arith, not_earlier m p n q here there hp, not_earlier n q m p there here hq) in
      let moved : IsEarliest m q = rw month there in
      (month, omega (arith, not_left m p q here moved, not_left m q p moved here))

  -- a number is the earliest at fault, or none is at fault
  pub record Found : Type 0 where
    pub m : ℕ
    pub place : ℕ
    pub month-to : m < 12
    pub place-to : place < 23
    pub here : IsEarliest m place

  pub found-or-none : Found ⊎ ((m : ℕ) → m < 12 → (p : ℕ) → p < 23 → at_fault s m p ≡ false)
  found-or-none = by-month (first_below_lem 12 (λ m. any_below 23 (at_fault s m)))
    where
      by_place : (f : First 12 (λ m. any_below 23 (at_fault s m))) → First 23 (at_fault s f.at) ⊎ ((p : ℕ) → p < 23 → at_fault s f.at p ≡ false) → Found
      by_place f (inl g) =
          record {
            m = f.at;
            place = g.at;
            month-to = f.below;
            place-to = g.below;
            here = record { at-fault = g.here; row = g.before; months = λ n l. none-at 23 (at_fault s n) (f.before n l) };
          }
      by_place f (inr none) = absurd (true≢false (sym f.here ∙ none_of 23 (at_fault s f.at) none))

      by-month : First 12 (λ m. any_below 23 (at_fault s m)) ⊎ ((m : ℕ) → m < 12 → any_below 23 (at_fault s m) ≡ false)
          → Found ⊎ ((m : ℕ) → m < 12 → (p : ℕ) → p < 23 → at_fault s m p ≡ false)
      by-month (inl f) = inl (by_place f (first_below_lem 23 (at_fault s f.at)))
      by-month (inr none) = inr (λ m l. none-at 23 (at_fault s m) (none m l))

  -- what is told of the earliest number, months and places counted from 1
  found_at : (f : Found) (p : Position) → p.month ≡ f.m + 1 → p.place ≡ f.place + 1 → EarliestAt s p
  found_at f p month place =
      let m : p.month - 1 ≡ f.m = omega (arith, month) in
      let q : p.place - 1 ≡ f.place = omega (arith, place) in
      record {
        month_from1 = omega (arith, month);
        month_to12 = omega (arith, month, f.month-to);
        place_from1 = omega (arith, place);
        place_to23 = omega (arith, place, f.place-to);
        here = rw (m, q) (earliest-is f.m f.place f.here);
      }

  -- it decides: 13 where it is above its limit, else 19
  module _ (f : Found) where
    pub decides : (t : Bool) → above_limit s f.m f.place ≡ t → (refused13 s ≡ t) × (refused19 s ≡ not t)
    unfolding refused13 refused19
    decides true above = (
      any_of 12 (λ m. any_below 23 (λ p. earliest s m p && above_limit s m p)) f.m f.month-to
          (any_of 23 (λ p. earliest s f.m p && above_limit s f.m p) f.place f.place-to (and_both (earliest-is f.m f.place f.here) above)),
      none_of 12 (λ m. any_below 23 (λ p. earliest s m p && not (above_limit s m p))) (λ m l. none_of 23 (λ p. earliest s m p && not (above_limit s m p)) (λ p k. other m p k (earliest s m p) refl)),
    )
      where
        other : (m p : ℕ) → p < 23 → (t : Bool) → earliest s m p ≡ t → (t && not (above_limit s m p)) ≡ false
        other m p k false e = refl
        other m p k true e =
            let same = same_number m p f.m f.place (is-earliest m p e) f.here k f.place-to in
            rw (same.0, same.1, above) refl
    decides false within = (
      none_of 12 (λ m. any_below 23 (λ p. earliest s m p && above_limit s m p)) (λ m l. none_of 23 (λ p. earliest s m p && above_limit s m p) (λ p k. other m p k (earliest s m p) refl)),
      any_of 12 (λ m. any_below 23 (λ p. earliest s m p && not (above_limit s m p))) f.m f.month-to
          (any_of 23 (λ p. earliest s f.m p && not (above_limit s f.m p)) f.place f.place-to (and_both (earliest-is f.m f.place f.here) (rw within refl))),
    )
      where
        other : (m p : ℕ) → p < 23 → (t : Bool) → earliest s m p ≡ t → (t && above_limit s m p) ≡ false
        other m p k false e = refl
        other m p k true e =
            let same = same_number m p f.m f.place (is-earliest m p e) f.here k f.place-to in
            rw (same.0, same.1, within) refl

    -- what is answered of it
    module _ (e : Refusal) (answer : Err e ≡ answer_to (above_limit s f.m f.place) (stray_band s f.m f.place) (position_at f.m f.place)) where
      tell : (n : ℕ) → number_of e ≡ n → position_of e ≡ position_at f.m f.place → tells n ≡ true → n ≡ number_of_fault (refused13 s) (refused19 s) → Faulted s e
      tell n number at told-by is =
          record {
            number_is = number ∙ is;
            tells = record {
              position = λ t. found_at f (position_of e) (ap (λ (q : Position). q.month) at) (ap (λ (q : Position). q.place) at);
              zeros = λ t. let other : tells n ≡ false = rw number at t in absurd (true≢false (sym told-by ∙ other));
            };
          }

      pub told : Faulted s e
      unfolding at_fault
      told = by-test (above_limit s f.m f.place) refl (stray_band s f.m f.place) refl
        where
          by-test : (x : Bool) → above_limit s f.m f.place ≡ x → (y : Bool) → stray_band s f.m f.place ≡ y → Faulted s e
          by-test true a y b = let by = decides true a in tell 13 (ap refusal_in answer ∙ rw a refl) (ap position_in answer ∙ rw a refl) refl (rw by.0 refl)
          by-test false a true b = let by = decides false a in tell 19 (ap refusal_in answer ∙ rw (a, b) refl) (ap position_in answer ∙ rw (a, b) refl) refl (rw (by.0, by.1) refl)
          by-test false a false b = absurd (true≢false (sym f.here.at-fault ∙ or-neither a b))

  -- no number at fault, and neither 13 nor 19
  module _ (none : (m : ℕ) → m < 12 → (p : ℕ) → p < 23 → at_fault s m p ≡ false) where
    pub undecided : Past13 s
    unfolding refused13 refused19 earliest
    undecided = (
      none_of 12 (λ m. any_below 23 (λ p. earliest s m p && above_limit s m p)) (λ m l. none_of 23 (λ p. earliest s m p && above_limit s m p) (λ p k. rw (none m l p k) refl)),
      none_of 12 (λ m. any_below 23 (λ p. earliest s m p && not (above_limit s m p))) (λ m l. none_of 23 (λ p. earliest s m p && not (above_limit s m p)) (λ p k. rw (none m l p k) refl)),
    )

  -- conversely no number of a sheet past both is at fault
  pub past-none : Past13 s → (m : ℕ) → m < 12 → (p : ℕ) → p < 23 → at_fault s m p ≡ false
  past-none past = ⊎_elim (λ f. absurd (refuted f (above_limit s f.m f.place) refl)) (λ none. none) found-or-none
    where
      refuted : (f : Found) (t : Bool) → above_limit s f.m f.place ≡ t → ⊥
      refuted f true e = true≢false (sym (decides f true e).0 ∙ past.0)
      refuted f false e = true≢false (sym (decides f false e).1 ∙ past.1)

-- what one number brings
pub no-fault : (s : List ℕ) (m p : ℕ) (at : Position) → Ok tt ≡ answer_to (above_limit s m p) (stray_band s m p) at → at_fault s m p ≡ false
unfolding at_fault
no-fault s m p at e = by-test (above_limit s m p) refl (stray_band s m p) refl
  where
    by-test : (x : Bool) → above_limit s m p ≡ x → (y : Bool) → stray_band s m p ≡ y → (x || y) ≡ false
    by-test true a y b = let n : ◌≡◌ {A = ℕ} 0 13 = ap refusal_in e ∙ rw a refl in absurd (omega (arith, n))
    by-test false a true b = let n : ◌≡◌ {A = ℕ} 0 19 = ap refusal_in e ∙ rw (a, b) refl in absurd (omega (arith, n))
    by-test false a false b = refl

pub some-fault : (s : List ℕ) (m p : ℕ) (at : Position) (e : Refusal) → Err e ≡ answer_to (above_limit s m p) (stray_band s m p) at → at_fault s m p ≡ true
unfolding at_fault
some-fault s m p at e answer = by-test (above_limit s m p) refl (stray_band s m p) refl
  where
    by-test : (x : Bool) → above_limit s m p ≡ x → (y : Bool) → stray_band s m p ≡ y → (x || y) ≡ true
    by-test true a y b = refl
    by-test false a true b = refl
    by-test false a false b = let none : ◌≡◌ {A = Result (Unit {0}) Refusal} (Err e) (Ok tt) = answer ∙ rw (a, b) refl in absurd (true≢false (sym (ap is_ok none)))

-- there is a position to tell of every sheet
pub record Telling (s : List ℕ) (n : ℕ) : Type 0 where
  pub position : Position
  pub told : Tells s n position

pub telling : (s : List ℕ) (n : ℕ) → (Past13 s → tells n ≡ false) → Telling s n
telling s n other = ⊎_elim (λ f. by-test f (tells n) refl) (λ none. record { position = nowhere; told = untold s n (other (undecided s none)) }) (found-or-none s)
  where
    by-test : Found s → (t : Bool) → tells n ≡ t → Telling s n
    by-test f true e =
        let at : Position = record { month = f.m + 1; place = f.place + 1 } in
        record { position = at; told = record { position = λ t. found_at s f at refl refl; zeros = λ t. absurd (true≢false (sym e ∙ t)) } }
    by-test f false e = record { position = nowhere; told = untold s n e }

pub one-earliest : OneEarliest
one-earliest s p q here there =
    let same = same_number s (p.month - 1) (p.place - 1) (q.month - 1) (q.place - 1) (is-earliest s _ _ here.here) (is-earliest s _ _ there.here)
    (omega (arith, here.place_to23, here.place_from1)) (omega (arith, there.place_to23, there.place_from1)) in
    let month : p.month ≡ q.month = omega (arith, same.0, here.month_from1, there.month_from1) in
    let place : p.place ≡ q.place = omega (arith, same.1, here.place_from1, there.place_from1) in
    ap₂ (λ (x y : ℕ). record { month = x; place = y }) month place
