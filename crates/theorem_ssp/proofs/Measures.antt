-- What each exported function says, and what holds of reader and writer together.
use Prim.Native.Nat.{ℕ}
use mathlib.Core.Path.{◌≡◌, sym, ap, ◌∙◌}
use mathlib.Core.List.{List}
use lib.ListN.{take}
use Rattle.sheet.specs.YearSheet.{word}
use Rattle.refusals.specs.Refusals.{refusal_in}
use Rattle.sheet_text.specs.Reading.{Answer, read_answer, read_after}
use Rattle.sheet_text.specs.Writing.{text_written, write_answer, buffer_after}
use Rattle.sheet_language.proofs.ReadsBack.{reads-back, written-answer}
use Rattle.ssp.specs.declared.Read as flat-read
use Rattle.ssp.specs.declared.Written as flat-written
use Rattle.ssp.proofs.Contract.{read-says, write-says}
use Rattle.theorem_ssp.specs.Measures.{MeasuresBack}

pub measures-back : MeasuresBack
measures-back =
    record {
      accepted =
          λ κs a r s p zero κs' a' r' s' p' same long.
          let said = write-says κs a r s p in
          let said' = read-says κs' a' r' s' p' in
          let n = r.length in
          let wrote : write_answer a.0.now a.1.0.now ≡ text_written n
          = written-answer a.0.now a.1.0.now n (sym (ap (λ (w : flat-written.Written). w.refusal) said.0) ∙ zero)
          (sym (ap (λ (w : flat-written.Written). w.length) said.0)) in
          let text : a'.1.0.now ≡ take n (buffer_after a.0.now a.1.0.now) = same ∙ ap (take n) said.1 in
          ap (λ (x : flat-read.Read). x.refusal) said'.0
          ∙ ap (λ (t : List ℕ). refusal_in (read_answer a'.0.now t)) text
          ∙ ap (λ (x : Answer). refusal_in x) (reads-back.answer a.0.now a.1.0.now a'.0.now n wrote long);
      restored =
          λ κs a r s p zero κs' a' r' s' p' same long m q hm hq.
          let said = write-says κs a r s p in
          let said' = read-says κs' a' r' s' p' in
          let n = r.length in
          let wrote : write_answer a.0.now a.1.0.now ≡ text_written n
          = written-answer a.0.now a.1.0.now n (sym (ap (λ (w : flat-written.Written). w.refusal) said.0) ∙ zero)
          (sym (ap (λ (w : flat-written.Written). w.length) said.0)) in
          let text : a'.1.0.now ≡ take n (buffer_after a.0.now a.1.0.now) = same ∙ ap (take n) said.1 in
          ap (λ (l : List ℕ). word l m q) said'.1
          ∙ ap (λ (t : List ℕ). word (read_after a'.0.now t) m q) text
          ∙ reads-back.numbers a.0.now a.1.0.now a'.0.now n wrote long m q hm hq;
    }
