-- Where there is no memory, nothing of the lines is lost.
use Rattle.std.proofs.Common.{◌≡◌, ◌≢◌, ℕ, List, [], ◌++◌, Option, Some, Result, Ok, Err, length, take, refl, sym, ap, subst, ◌∙◌, append-nil, take_at}
use Rattle.std.proofs.lemmas.List.Elements.{All-nil, All-take}
use Rattle.std.proofs.KnownBytes.{Consumes-nil}
use Rattle.std.specs.Prelude.{slice_range}
use Rattle.std.specs.Io.KnownBytes.{Consumes}
use Rattle.std.specs.IoError.{error_kind}
use Rattle.std.specs.declared.io.Error.{Error}
use Rattle.std.specs.declared.io.ErrorKind.TheVariants.{Interrupted, OutOfMemory}
use Rattle.input.specs.declared.Held.{Held}
use Rattle.input.specs.declared.Found.{Found}
use Rattle.input.specs.declared.Found.TheVariants as found
use Rattle.input.specs.declared.Line.{Line}
use Rattle.input.specs.Input.{Unfed}
use Rattle.input.specs.LentLines.{lent_bytes, LineStands, LentFinds}
use Rattle.input.specs.Lines.{Finds}

-- there is no memory for the copy of a line that was found, and it stays held
pub finds_again : (room : ℕ) (held now : List ℕ) (left mid between after : Option (List ℕ)) (bytes : List ℕ) (places : Held) (from to : ℕ)
    (f : Result (Option Found) Error) (e : Error) (r : Result (Option Line) Error) (rest : List ℕ) → now ≡ held → mid ≡ left
    → f ≡ Ok (Some (found.Whole from to)) → LentFinds now mid f bytes places between → after ≡ between → r ≡ Err e → rest ≡ slice_range bytes from places.filled
    → error_kind e ≡ OutOfMemory → error_kind e ≢ Interrupted → Finds room held left r rest after
finds_again room held now left mid between after bytes places from to f e r rest same kept whole finds stays is again full retried =
    let g = subst (λ (x : Result (Option Found) Error). LentFinds now mid x bytes places between) whole finds in
    let line : LineStands (now ++ g.given) bytes from to places = g.parts in
    rw (is, stays)
    (record {
      given = g.given;
      taken = subst (λ (o : Option (List ℕ)). Consumes o between g.given) kept g.taken;
      parts = ([], All-nil (λ b. b ≢ 10), ap (λ (l : List ℕ). l ++ g.given) (sym same) ∙ line.stands ∙ sym again);
      ended = tt;
      failed = record { retried = retried; late = λ other. absurd (other full) };
    })

-- a read failed, and what was held stays held
pub finds_failed : (room : ℕ) (held now : List ℕ) (left mid between after : Option (List ℕ)) (bytes : List ℕ) (places : Held)
    (f : Result (Option Found) Error) (e : Error) (r : Result (Option Line) Error) (rest : List ℕ) → now ≡ held → mid ≡ left
    → f ≡ Err e → LentFinds now mid f bytes places between → after ≡ between → r ≡ Err e → rest ≡ lent_bytes bytes places
    → Finds room held left r rest after
finds_failed room held now left mid between after bytes places f e r rest same kept fails finds stays is again =
    let g = subst (λ (x : Result (Option Found) Error). LentFinds now mid x bytes places between) fails finds in
    let lost = g.parts.1.0 in
    let front = ap (take (length lost)) g.parts.1.1 ∙ take_at lost (lent_bytes bytes places) (length lost) refl in
    let all = ap (λ (l : List ℕ). l ++ g.given) (sym same) in
    rw (is, stays, again)
    (record {
      given = g.given;
      taken = subst (λ (o : Option (List ℕ)). Consumes o between g.given) kept g.taken;
      parts = (lost, subst Unfed front (All-take (λ b. b ≢ 10) (length lost) (now ++ g.given) g.parts.0), all ∙ g.parts.1.1);
      ended = tt;
      failed = record { retried = g.failed.retried; late = λ other. subst Unfed same g.failed.late };
    })

-- nothing was read yet, and there is no room
pub finds_no_room : (room : ℕ) (held rest : List ℕ) (left after : Option (List ℕ)) (e : Error) (r : Result (Option Line) Error) → r ≡ Err e → rest ≡ held
    → after ≡ left → error_kind e ≡ OutOfMemory → error_kind e ≢ Interrupted → Finds room held left r rest after
finds_no_room room held rest left after e r is same kept full retried =
    rw (is, same, kept)
    (record {
      given = [];
      taken = Consumes-nil left;
      parts = ([], All-nil (λ b. b ≢ 10), append-nil held);
      ended = tt;
      failed = record { retried = retried; late = λ other. absurd (other full) };
    })
