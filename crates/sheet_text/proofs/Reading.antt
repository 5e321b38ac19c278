-- What a line says of the text: it is the first that is refused, or the text is looked at further.
use Prim.Native.Nat.{ℕ, ◌+◌, ◌≤◌, ◌<◌, min}
use mathlib.Core.Path.{◌≡◌, refl, sym, ap, subst, ◌∙◌}
use mathlib.Core.Bool.{Bool, true, false, not, ◌&&◌, true≢false}
use mathlib.Core.List.{List, []}
use native.Mathlib.Decide.{dec_lt}
use native.Mathlib.Numerals.{add-one}
use native.Mathlib.Omega.{arith}
use lib.Dec.{ltb, eqb}
use borrow.Author.Tests.{lt-ltb, le-ltb}
use lib.ListN.{length, set}
use Rattle.std.proofs.lemmas.List.{get_or-set_same, get_or-set_other}
use borrow.Author.Count.{below_more}
use Rattle.units.specs.Limits.{max_kwh}
use Rattle.units.specs.Folds.{any_below}
use Rattle.units.proofs.Bools.{or-neither}
use Rattle.units.proofs.Folds.{any-zero, any_step, any_of, none-at, first-is}
use Rattle.units.specs.declared.Kwh.{Kwh}
use Rattle.refusals.specs.declared.Position.{Position}
use Rattle.std.specs.Prelude.{Option, None, Some, Result, Ok, Err, ok_or, is_ok, is_err, MatchOption}
use Rattle.refusals.specs.declared.Refusal.{Refusal}
use Rattle.refusals.specs.declared.Refusal.TheVariants.{WrongLine, AboveLimit}
use Rattle.sheet_text.specs.Lines.{months, readings, begins_line, kwh_at, behind_line, from_line, kwh_in}
use Rattle.sheet_text.specs.Reading.{line_wrong, some_kwh_above, line_refused, accepted, objection_to, some_refused, first_refused, text_answer}
use Rattle.sheet_text.specs.InnerSteps.{too_much, kwh_of, kwh_of_year, place_in, LineRead, FirstAbove, TextRefused}
use Rattle.sheet_text.proofs.Above.{none_above, some_same, above_same}

-- what is said of a value that is there, or of the refusal where none is
abbrev error_or : {X : Type 0} → Refusal → Result X Refusal → Refusal
error_or other (Ok x) = other
error_or other (Err r) = r

abbrev value_or : {X : Type 0} → X → Result X Refusal → X
value_or other (Ok x) = x
value_or other (Err r) = other

module _ {X : Type 0} (P : Type 0) (Q : X → Type 0) (e : Refusal) where
  pub missing : (o : Option X) (r : Refusal) → ◌≡◌ {A = Result X Refusal} (Err r) (ok_or o e) → MatchOption o P Q → P × (r ≡ e)
  missing None r q m = (m, ap (error_or e) q)
  missing (Some x) r q m = absurd (true≢false (ap is_err q))

  pub there : (o : Option X) (y : X) → ◌≡◌ {A = Result X Refusal} (Ok y) (ok_or o e) → MatchOption o P Q → Q y
  there None y q m = absurd (true≢false (ap is_ok q))
  there (Some x) y q m = subst Q (sym (ap (value_or x) q)) m

module _ (t : List ℕ) where
  abbrev pub NoneRefused : ℕ → Type 0
  NoneRefused m = any_below m (line_refused t) ≡ false

  pub none-refused : NoneRefused 0
  none-refused = any-zero (line_refused t)

  pub line_first : t ≡ from_line 0 t
  unfolding from_line
  line_first = refl

  -- the first line that is refused
  first-refused : (m : ℕ) → m ≤ months → NoneRefused m → line_refused t m ≡ true → (some_refused t ≡ true) × (first_refused t ≡ m)
  unfolding some_refused first_refused
  first-refused m h none here = (
    any_of (months + 1) (line_refused t) m (omega arith) here,
    sym (first-is (months + 1) (line_refused t) m (omega arith) here (none-at m (line_refused t) none)),
  )

  pub wrong-refused : (m : ℕ) → m ≤ months → NoneRefused m → line_wrong t m ≡ true → TextRefused t (WrongLine (m + 1))
  unfolding text_answer objection_to line_refused
  wrong-refused m h none wrong =
      let first = first-refused m h none (rw wrong) in
      rw (first.0, first.1, wrong)

  pub above-refused : (m : ℕ) → m < months → NoneRefused m → line_wrong t m ≡ false → {p : ℕ} {position : Position} → FirstAbove (kwh_in t m) p
      → position ≡ place_in m p → TextRefused t (AboveLimit position)
  unfolding text_answer objection_to line_refused
  above-refused m h none right above e =
      let first = first-refused m (omega arith) none (rw (right, lt-ltb m months h, above.some)) in
      rw (first.0, first.1, right, e, above.first)

  -- a line that is taken, and the end
  pub line_taken : (m : ℕ) → m < months → NoneRefused m → line_wrong t m ≡ false → some_kwh_above (kwh_in t m) ≡ false → NoneRefused (m + 1)
  unfolding line_refused
  line_taken m h none right within =
      any_step m (line_refused t) ∙ or-neither none (rw (right, within) (neither (ltb m months)))
    where
      neither : (b : Bool) → (b && false) ≡ false
      neither true = refl
      neither false = refl

  pub end-taken : NoneRefused months → line_wrong t months ≡ false → some_refused t ≡ false
  unfolding some_refused line_refused
  end-taken none right = any_step months (line_refused t) ∙ or-neither none (rw right)

  pub taken : some_refused t ≡ false → text_answer t ≡ accepted
  unfolding text_answer
  taken none = rw none

  -- what is read of a line, at the front of the text that the lines before it leave
  module _ {m : ℕ} {rest : List ℕ} (hm : m < months) (place : rest ≡ from_line m t) where
    pub line-missing : begins_line (m + 1) rest ≡ false → line_wrong t m ≡ true
    unfolding line_wrong
    line-missing e = rw (lt-ltb m months hm) (ap not (ap (begins_line (m + 1)) (sym place) ∙ e))

    module _ {six : List Kwh} {after : List ℕ} (read : LineRead (m + 1) rest six after) where
      pub line-right : line_wrong t m ≡ false
      unfolding line_wrong
      line-right = rw (lt-ltb m months hm) (ap not (ap (begins_line (m + 1)) (sym place) ∙ read.stands))

      line-number : (p : ℕ) → p < readings → kwh_of six p ≡ min (kwh_in t m p) too_much
      unfolding kwh_in
      line-number p l = read.numbers p l ∙ ap (λ (u : List ℕ). min (kwh_at u p) too_much) place

      same-side : (p : ℕ) → p < readings → ltb max_kwh (kwh_of six p) ≡ ltb max_kwh (kwh_in t m p)
      same-side p l = ap (ltb max_kwh) (line-number p l) ∙ counted (kwh_in t m p)
        where
          counted : (n : ℕ) → ltb max_kwh (min n too_much) ≡ ltb max_kwh n
          counted n = by_size (dec_lt max_kwh n)
            where
              by_size : Dec (max_kwh < n) → ltb max_kwh (min n too_much) ≡ ltb max_kwh n
              by_size (yes more) = lt-ltb max_kwh (min n too_much) (omega arith) ∙ sym (lt-ltb max_kwh n more)
              by_size (no less) = le-ltb max_kwh (min n too_much) (omega (arith, less)) ∙ sym (le-ltb max_kwh n (omega (arith, less)))

      pub line-above : {p : ℕ} → FirstAbove (kwh_of six) p → FirstAbove (kwh_in t m) p
      line-above = above_same (kwh_of six) (kwh_in t m) same-side

      pub line-within : some_kwh_above (kwh_of six) ≡ false → some_kwh_above (kwh_in t m) ≡ false
      line-within e = sym (some_same (kwh_of six) (kwh_in t m) same-side) ∙ e

      -- a number within the limit counts in full
      pub number-within : some_kwh_above (kwh_of six) ≡ false → (p : ℕ) → p < readings → kwh_of six p ≡ kwh_in t m p
      number-within e p l = line-number p l ∙ omega (arith, none_above (kwh_in t m) (line-within e) p l)

      pub line-rest : after ≡ from_line (m + 1) t
      unfolding from_line
      line-rest = rw add-one (read.rest ∙ ap behind_line place)

  -- a text that goes on behind its twelfth line
  pub end-judged : {rest : List ℕ} {empty : Bool} → rest ≡ from_line months t → empty ≡ eqb (length rest) 0 → line_wrong t months ≡ not empty
  unfolding line_wrong
  end-judged place e = ap not (ap (λ (u : List ℕ). eqb (length u) 0) (sym place) ∙ sym e)

  -- the numbers of the lines passed
  abbrev pub Numbers : ℕ → List (List Kwh) → Type 0
  Numbers n year = (m : ℕ) → m < n → (p : ℕ) → p < readings → kwh_of_year year m p ≡ kwh_in t m p

  pub numbers_more : (m : ℕ) (year : List (List Kwh)) (six : List Kwh) → m < length year → Numbers m year
      → ((p : ℕ) → p < readings → kwh_of six p ≡ kwh_in t m p) → Numbers (m + 1) (set year m six)
  numbers_more m year six long before here =
      below_more (λ (i : ℕ). (p : ℕ) → p < readings → kwh_of_year (set year m six) i p ≡ kwh_in t i p) m
      (λ i l p h. ap (λ (x : List Kwh). kwh_of x p) (get_or-set_other year m i six [] (λ z. omega (arith, l, z))) ∙ before i l p h)
      (λ p h. ap (λ (x : List Kwh). kwh_of x p) (get_or-set_same year m six [] long) ∙ here p h)
