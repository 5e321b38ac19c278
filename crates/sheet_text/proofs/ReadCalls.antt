-- The answers of the reader, and what each leaves of the sheet.
use Rattle.std.proofs.Common.{ℕ, ◌≡◌, Bool, true, false, cond, List, length, eqb, refl, sym, ap, ◌∙◌, Ok, Err, eq-eqb}
use borrow.Author.Tests.{ne_eqb}
use Rattle.units.specs.declared.Kwh.{Kwh}
use Rattle.refusals.specs.declared.Refusal.{Refusal}
use Rattle.sheet.specs.YearSheet.{sheet_length}
use Rattle.sheet_text.specs.Lines.{months, kwh_in}
use Rattle.sheet_text.specs.Reading.{Answer, line_wrong, accepted, wrong_size, wrong_line, above_in, first_above, objection_to, some_refused, first_refused, text_answer}
use Rattle.sheet_text.specs.Reading.{filled, read_answer, read_after}
use Rattle.sheet_text.specs.InnerSteps.{kwh_of_year, YearRead, TextRefused}
use Rattle.sheet_text.proofs.Filling.{months-same}

-- an answer is no refusal, or it is one
abbrev refuses : Answer → Bool
refuses (Ok u) = false
refuses (Err refusal) = true

objection-told : (t : List ℕ) (m : ℕ) → refuses (objection_to t m) ≡ true
unfolding objection_to
objection-told t m = by-test (line_wrong t m)
  where
    by-test : (w : Bool) → refuses (cond w (wrong_line m) (above_in m (first_above (kwh_in t m)))) ≡ true
    by-test true = refl
    by-test false = refl

-- a text is refused exactly if the answer is a refusal
answer-refuses : (t : List ℕ) → refuses (text_answer t) ≡ some_refused t
unfolding text_answer
answer-refuses t = by-test (some_refused t) (objection-told t (first_refused t))
  where
    by-test : (r : Bool) → refuses (objection_to t (first_refused t)) ≡ true → refuses (cond r (objection_to t (first_refused t)) accepted) ≡ r
    by-test true e = e
    by-test false e = refl

pub text-taken : (t : List ℕ) → text_answer t ≡ accepted → some_refused t ≡ false
text-taken t e = sym (answer-refuses t) ∙ ap refuses e

text-refused : (t : List ℕ) {refusal : Refusal} → TextRefused t refusal → some_refused t ≡ true
text-refused t e = sym (answer-refuses t) ∙ ap refuses e

module _ (s t : List ℕ) where
  pub size-answered : (length s ≡ sheet_length → ⊥) → (wrong_size ≡ read_answer s t) × (s ≡ read_after s t)
  unfolding read_answer read_after
  size-answered h = let no_size : eqb (length s) sheet_length ≡ false = ne_eqb (length s) sheet_length h in (rw no_size, rw no_size)

  module _ (long : length s ≡ sheet_length) where
    size : eqb (length s) sheet_length ≡ true
    size = eq-eqb (length s) sheet_length long

    pub refused-answered : {refusal : Refusal} → TextRefused t refusal → (Err refusal ≡ read_answer s t) × (s ≡ read_after s t)
    unfolding read_answer read_after
    refused-answered e = (rw (size, e), rw (size, text-refused t e))

    pub taken-answered : {year : List (List Kwh)} → YearRead t year → (after : List ℕ) → after ≡ filled (kwh_of_year year) s
        → (accepted ≡ read_answer s t) × (after ≡ read_after s t)
    unfolding read_answer read_after
    taken-answered {year} read after e = (
      rw (size, read.taken),
      rw (size, text-taken t read.taken) (e ∙ months-same (kwh_of_year year) (kwh_in t) s months (λ m p. read.numbers m p)),
    )
