-- Seven fields one after the other are the line.
use Rattle.std.proofs.Common.{ℕ, zero, suc, ◌≤◌, ◌<◌, ◌≡◌, ◌+◌, true, false, eqb, List, length, add-one, sym, ap, ◌∙◌, arith}
use Rattle.std.specs.Prelude.{min}
use mathlib.Core.Bool.{and-false}
use native.Mathlib.Nat.{not-suc-le-zero}
use borrow.Author.Count.{below_more}
use lib.ListN.{set, length-set}
use Rattle.std.proofs.lemmas.List.{get_or-set_same, get_or-set_other}
use native.Mathlib.Decide.{dec_lt}
use borrow.Author.Tests.{ne_eqb, eq-eqb}
use Rattle.units.specs.declared.Kwh.{Kwh}
use Rattle.units.specs.Units.{kwh}
use Rattle.decimals.specs.Decimals.{value, begins_field, behind, FieldRead}
use Rattle.sheet_text.specs.Lines.{semicolon, months, readings, from_number, begins_line, kwh_at}
use Rattle.sheet_text.specs.InnerSteps.{too_much, kwh_of, stop_at, LineRead}

-- what counts of a number tells whether it is a month
month-told : (n month : ℕ) → month ≤ months → eqb (min n too_much) month ≡ eqb n month
month-told n month h = by_size (dec_lt n too_much)
  where
    by_size : Dec (n < too_much) → eqb (min n too_much) month ≡ eqb n month
    by_size (yes less) = let same : min n too_much ≡ n = omega arith in rw same
    by_size (no more) =
        ne_eqb (min n too_much) month (λ e. omega (arith, more)) ∙ sym (ne_eqb n month (λ e. omega (arith, more)))

-- THE FIELDS: the number in front, and then the six, each of the text that the one before it leaves
module _ (month : ℕ) (t : List ℕ) where
  abbrev pub Stands : ℕ → Type 0
  Stands p = begins_field (stop_at p) (from_number (suc p) t) ≡ true

  pub record Front : Type 0 where
    pub stands : begins_field semicolon t ≡ true
    pub here : eqb (value t) month ≡ true

  pub record Fields (p : ℕ) (six : List Kwh) (rest : List ℕ) : Type 0 where
    pub long : length six ≡ readings
    pub front : Front
    pub stand : (q : ℕ) → q < p → Stands q
    pub numbers : (q : ℕ) → q < p → kwh_of six q ≡ min (kwh_at t q) too_much
    pub place : rest ≡ from_number (suc p) t

  pub first_field :
      {n : ℕ} {after : List ℕ} {six : List Kwh} → month ≤ months → FieldRead t semicolon too_much n after → n ≡ month →
      length six ≡ readings → Fields 0 six after
  unfolding from_number
  first_field {n} h f m l =
      record {
        long = l;
        front = record { stands = f.stands; here = sym (month-told (value t) month h) ∙ ap (λ (k : ℕ). eqb k month) (sym f.value) ∙ eq-eqb n month m };
        stand = λ q z. absurd (not-suc-le-zero z);
        numbers = λ q z. absurd (not-suc-le-zero z);
        place = f.rest;
      }

  pub next_field :
      {p n : ℕ} {six : List Kwh} {rest after : List ℕ} → Fields p six rest → p < readings → FieldRead rest (stop_at p) too_much n after →
      Fields (p + 1) (set six p (kwh n)) after
  unfolding from_number
  next_field {p} {n} {six} w l f =
      record {
        long = length-set six p (kwh n) ∙ w.long;
        front = w.front;
        stand = below_more Stands p w.stand (ap (begins_field (stop_at p)) (sym w.place) ∙ f.stands);
        numbers = below_more (λ (q : ℕ). kwh_of (set six p (kwh n)) q ≡ min (kwh_at t q) too_much) p
            (λ q h. ap (λ (x : Kwh). x.0) (get_or-set_other six p q (kwh n) (kwh 0) (λ z. omega (arith, h, z))) ∙ w.numbers q h)
            (ap (λ (x : Kwh). x.0) (get_or-set_same six p (kwh n) (kwh 0) (omega (arith, l, w.long)))
            ∙ f.value ∙ ap (λ (u : List ℕ). min (value u) too_much) w.place);
        place = rw add-one (f.rest ∙ ap behind w.place);
      }

  -- one that does not stand there, or another month
  pub no_front : begins_field semicolon t ≡ false → begins_line month t ≡ false
  unfolding begins_line
  no_front e = rw e

  pub other_month : {n : ℕ} → month ≤ months → n ≡ min (value t) too_much → (n ≡ month → ⊥) → begins_line month t ≡ false
  unfolding begins_line
  other_month {n} h v o =
      let other : eqb (value t) month ≡ false = sym (month-told (value t) month h) ∙ ap (λ (k : ℕ). eqb k month) (sym v) ∙ ne_eqb n month o in
      simp (other, and-false)

  none_at : (p : ℕ) → p < readings → begins_field (stop_at p) (from_number (suc p) t) ≡ false → begins_line month t ≡ false
  unfolding begins_line stop_at
  none_at zero l e = simp (e, and-false)
  none_at (suc zero) l e = simp (e, and-false)
  none_at (suc (suc zero)) l e = simp (e, and-false)
  none_at (suc (suc (suc zero))) l e = simp (e, and-false)
  none_at (suc (suc (suc (suc zero)))) l e = simp (e, and-false)
  none_at (suc (suc (suc (suc (suc zero))))) l e = simp (e, and-false)
  none_at (suc (suc (suc (suc (suc (suc p)))))) l e = let z : ⊥ = omega (arith, l) in absurd z

  pub no_field : {p : ℕ} {six : List Kwh} {rest : List ℕ} → Fields p six rest → p < readings → begins_field (stop_at p) rest ≡ false → begins_line month t ≡ false
  no_field {p} w l e = none_at p l (ap (begins_field (stop_at p)) (sym w.place) ∙ e)

  -- all of them stand there
  pub line_read : {six : List Kwh} {rest : List ℕ} → Fields readings six rest → LineRead month t six rest
  unfolding begins_line stop_at
  line_read w =
      record {
        stands =
            rw (
              w.front.stands,
              w.front.here,
              w.stand 0 (omega arith),
              w.stand 1 (omega arith),
              w.stand 2 (omega arith),
              w.stand 3 (omega arith),
              w.stand 4 (omega arith),
              w.stand 5 (omega arith),
            );
        numbers = w.numbers;
        rest = w.place;
      }
