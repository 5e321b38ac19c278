-- What was written is read back: the lines stand in front of the lent bytes, and they are taken.
use Prim.Native.Nat.{ℕ}
use mathlib.Core.Path.{◌≡◌, refl, sym, ap, ◌∙◌}
use mathlib.Core.Bool.{Bool, true, false, cond, true≢false}
use mathlib.Core.List.{List}
use native.Mathlib.Omega.{arith}
use borrow.Author.Tests.{eq-eqb}
use lib.ListN.{length, take}
use lib.Seq.{take_at}
use Rattle.codec.specs.Bytes.{stored}
use Rattle.sheet.specs.YearSheet.{sheet_length, word}
use Rattle.std.specs.Prelude.{Result}
use Rattle.std.specs.Result.{is_err, result_unwrap_or}
use Rattle.refusals.specs.Refusals.{refusal_in}
use Rattle.refusals.specs.declared.Refusal.{Refusal}
use Rattle.sheet_text.specs.Lines.{year_text, kwh_in}
use Rattle.sheet_text.specs.Reading.{first_above, accepted, some_refused, read_answer, read_after}
use Rattle.sheet_text.specs.Writing.{buffers_fit, sheet_above, first_month_above, size_refused, kwh_refused, text_written, write_answer, buffer_after}
use Rattle.sheet_text.proofs.Reading.{taken}
use Rattle.sheet_text.proofs.SheetAbove.{sheet-within}
use Rattle.sheet_language.specs.Language.{ReadsBack}
use Rattle.sheet_language.proofs.Texts.{taken-within, written-taken, written-numbers}
use Rattle.sheet_language.proofs.Fills.{sheet-filled, filled-numbers}

record Accepted (s b : List ℕ) (n : ℕ) : Type 0 where
  pub fits : buffers_fit s b ≡ true
  pub small : sheet_above s ≡ false
  pub long : n ≡ length (year_text (word s))

module _ (s b : List ℕ) (n : ℕ) (e : write_answer s b ≡ text_written n) where
  answered : Accepted s b n
  unfolding write_answer
  answered = by-test (buffers_fit s b) refl (sheet_above s) refl e
    where
      by-test : (f : Bool) → buffers_fit s b ≡ f → (a : Bool) → sheet_above s ≡ a
          → cond f (cond a (kwh_refused (first_month_above s) (first_above (word s (first_month_above s)))) (text_written (length (year_text (word s))))) size_refused ≡ text_written n
          → Accepted s b n
      by-test true p true q r = absurd (true≢false (ap is_err r))
      by-test true p false q r = record { fits = p; small = q; long = sym (ap (λ (w : Result ℕ Refusal). result_unwrap_or w 0) r) }
      by-test false p a q r = absurd (true≢false (ap is_err r))

  lines-stand : take n (buffer_after s b) ≡ year_text (word s)
  unfolding buffer_after stored
  lines-stand =
      let ok = answered in
      let fits : buffers_fit s b ≡ true = ok.fits in
      let small : sheet_above s ≡ false = ok.small in
      rw (fits, small) (take_at (year_text (word s)) _ n (sym ok.long))

  back-taken : some_refused (take n (buffer_after s b)) ≡ false
  back-taken = ap some_refused lines-stand ∙ written-taken (word s) (sheet-within s answered.small)

back-answer : (s b u : List ℕ) (n : ℕ) → write_answer s b ≡ text_written n → length u ≡ sheet_length → read_answer u (take n (buffer_after s b)) ≡ accepted
unfolding read_answer
back-answer s b u n e long = rw (eq-eqb (length u) sheet_length long) (taken (take n (buffer_after s b)) (back-taken s b n e))

pub reads-back : ReadsBack
reads-back =
    record {
      answer = back-answer;
      numbers =
          λ s b u n e long m p hm hp.
          let small = (answered s b n e).small in
          let text = lines-stand s b n e in
          ap (λ (t : List ℕ). word (read_after u t) m p) text
          ∙ ap (λ (l : List ℕ). word l m p) (sheet-filled u (year_text (word s)) long (written-taken (word s) (sheet-within s small)))
          ∙ filled-numbers (kwh_in (year_text (word s))) u long (taken-within (year_text (word s)) (written-taken (word s) (sheet-within s small))) m p hm hp
          ∙ written-numbers (word s) m p hm hp;
    }

-- an answer without a refusal is that of a text written, of that length
pub written-answer : (s b : List ℕ) (n : ℕ) → refusal_in (write_answer s b) ≡ 0 → result_unwrap_or (write_answer s b) 0 ≡ n → write_answer s b ≡ text_written n
unfolding write_answer
written-answer s b n z e = by-test (buffers_fit s b) (sheet_above s) z e
  where
    answer : (f a : Bool) → Result ℕ Refusal
    answer f a = cond f (cond a (kwh_refused (first_month_above s) (first_above (word s (first_month_above s)))) (text_written (length (year_text (word s))))) size_refused

    by-test : (f a : Bool) → refusal_in (answer f a) ≡ 0 → result_unwrap_or (answer f a) 0 ≡ n → answer f a ≡ text_written n
    by-test true true y l = let no : ⊥ = omega (arith, y) in absurd no
    by-test true false y l = ap text_written l
    by-test false a y l = let no : ⊥ = omega (arith, y) in absurd no
