-- One part more.
use Rattle.std.proofs.Common.{ℕ, List, ◌≡◌, ◌++◌, sym, ap, ◌∙◌, rules, append_assoc, append-nil}
use Rattle.std.proofs.Output.{has_written_append, has_written_of_eq}
use Rattle.std.proofs.lemmas.List.{nil_from_length}
use Rattle.std.specs.Slice.Iter.{chunks_rest}
use Rattle.text.specs.Text.{hex_of}
use Rattle.text.proofs.Spellings.{hex_of_append, hex_of_none, front_digits}
use Rattle.text.proofs.spell.Goals as goal

pub loop-part-preserved : goal.loop-part-preserved
loop-part-preserved g c =
    let part = c.in-Some.part.now in
    let steps = c.in-Some.ensures.steps in
    let text : c.text_of.result.now ≡ hex_of part
    = front_digits part _ c.text_of.result.now c.hex_to-count.result c.hex_to-count.ensures.count (rw c.hex_to-count.ensures.digits at c.text_of.ensures) in (
      search rules,
      tt,
      steps.0 ∙ c.loop-part.invariant.2,
      λ plain.
          let so_far = c.loop-part.invariant.3 plain in (
            so_far.0 ++ c.text_of.result.now,
            has_written_append _ _ _ _ _ _ so_far.1 (search rules),
            append_assoc so_far.0 _ _
                ∙ ap (λ (t : List ℕ). so_far.0 ++ t)
                (ap (λ (t : List ℕ). t ++ hex_of (chunks_rest c.next.new.self)) text
                ∙ sym (hex_of_append part (chunks_rest c.next.new.self))
                ∙ ap hex_of (sym steps.1.0))
                ∙ so_far.2,
          ),
    )

pub returns : goal.returns
returns g c = λ plain _.
    let so_far = c.loop-part.invariant.3 plain in
    let none = nil_from_length _ c.in-None.ensures.steps.1.0 in
    has_written_of_eq _ _ _ _ _ (rw (none, hex_of_none, append-nil) at so_far.2) so_far.1
