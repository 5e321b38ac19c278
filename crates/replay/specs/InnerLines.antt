-- What a line does to the book.
use Rattle.std.specs.Prelude.{◌≡◌, Bool, false, List, ℕ, take, slice_range, Option, None, Some, Result, Ok, Err, IfOk, IfErr, IsErr, ⊤}
use Rattle.std.specs.declared.io.Error.{Error}
use Rattle.input.specs.declared.Found.{Found}
use Rattle.input.specs.declared.Found.TheVariants as found
use Rattle.output.specs.declared.Failure.{Failure}
use Rattle.replay.specs.declared.Book.{Book}
use Rattle.replay_script.specs.Requests.{request_of}

-- the bytes of the book
abbrev pub held_book : Book → List ℕ
held_book book = take book.count book.bytes

-- "A line that is no call prints `error` and changes nothing": what stands in the place of a line makes a call only where it is
-- whole; at the end of the input, and where it cannot be read, nothing does
abbrev pub Unasked : Result (Option Found) Error → List ℕ → Type 0
Unasked (Ok (Some (found.Whole from to))) bytes = request_of (slice_range bytes from to) ≡ None
Unasked (Ok (Some found.Long)) bytes = ⊤
Unasked (Ok (Some found.Half)) bytes = ⊤
Unasked (Ok None) bytes = ⊤
Unasked (Err error) bytes = ⊤

-- "Where a read fails, .. the program ends": then, behind half a line and at the end no further line is looked for
pub record LineAnswered (f : Result (Option Found) Error) (bytes before after : List ℕ) (r : Result Bool Failure) : Type 0 where
  pub wrong : Unasked f bytes → after ≡ before
  pub last : f ≡ Ok (Some found.Half) → IfOk r (λ more. more ≡ false)
  pub ended : f ≡ Ok None → IfOk r (λ more. more ≡ false)
  pub failed : IfErr f (λ error. IsErr r)
