-- Lines: the bytes up to a line feed; the next line begins after it.
use Rattle.std.specs.Prelude.{ℕ, ◌≤◌, ◌<◌, ◌≡◌, ◌≢◌, ⊤, List, [], ◌∷◌, ◌++◌, length, Option, None, Some, Result, Ok, Err, IfErr}
use Rattle.std.specs.Io.KnownBytes.{Consumes, IsAtEnd}
use Rattle.std.specs.IoError.{error_kind}
use Rattle.std.specs.declared.io.Error.{Error}
use Rattle.std.specs.declared.io.ErrorKind.TheVariants.{Interrupted, OutOfMemory}
use Rattle.input.specs.Input.{Unfed}
use Rattle.input.specs.LentLines.{lent_bytes}
use Rattle.input.specs.declared.Line.{Line}
use Rattle.input.specs.declared.Line.TheVariants.{Whole, Long, Half}
use Rattle.input.specs.declared.Lines.{Lines}

-- the bytes that were read and are not handed out yet
abbrev pub held_bytes : {R : Type 0} → Lines R → List ℕ
held_bytes lines = lent_bytes lines.bytes.items lines.held

-- more bytes are not held at once
abbrev pub lines_room : {R : Type 0} → Lines R → ℕ
lines_room lines = lines.room

-- what the reader has left, where it is known
abbrev pub lines_left : {R : Type 0} → (R → Option (List ℕ)) → Lines R → Option (List ℕ)
lines_left remaining lines = remaining lines.from

-- How bytes fall into what is found in front and what stays held. A whole line fits, and its line feed stands behind it. A line
-- that is too long is passed over with its line feed. A line that did not end is all that there is. Before a failure no line feed
-- is passed over.
abbrev pub Parts : ℕ → List ℕ → Result (Option Line) Error → List ℕ → Type 0
Parts room bytes (Ok (Some (Whole line))) rest = Unfed line.items × (length line.items < room) × (bytes ≡ line.items ++ 10 ∷ rest)
Parts room bytes (Ok (Some Long)) rest = (line : List ℕ) × Unfed line × (room ≤ length line) × (bytes ≡ line ++ 10 ∷ rest)
Parts room bytes (Ok (Some Half)) rest = Unfed bytes × (0 < length bytes) × (rest ≡ [])
Parts room bytes (Ok None) rest = (bytes ≡ []) × (rest ≡ [])
Parts room bytes (Err e) rest = (lost : List ℕ) × Unfed lost × (bytes ≡ lost ++ rest)

-- what ends at the end of the input, of which no known byte is left
abbrev pub EndsAt : Result (Option Line) Error → Option (List ℕ) → Type 0
EndsAt (Ok (Some (Whole line))) left = ⊤
EndsAt (Ok (Some Long)) left = ⊤
EndsAt (Ok (Some Half)) left = IsAtEnd left
EndsAt (Ok None) left = IsAtEnd left
EndsAt (Err e) left = ⊤

-- an interrupted read is no failure, and a line that is held whole comes before one, unless memory runs out
pub record FailsAt (held : List ℕ) (e : Error) : Type 0 where
  pub retried : error_kind e ≢ Interrupted
  pub late : error_kind e ≢ OutOfMemory → Unfed held

-- what is found next in the bytes that were held and, behind them, those that the reader gave
pub record Finds (room : ℕ) (held : List ℕ) (left : Option (List ℕ)) (r : Result (Option Line) Error) (held' : List ℕ)
    (left' : Option (List ℕ)) : Type 0 where
  pub given : List ℕ
  pub taken : Consumes left left' given
  pub parts : Parts room (held ++ given) r held'
  pub ended : EndsAt r left'
  pub failed : IfErr r (FailsAt held)

abbrev pub FindsNext : {R : Type 0} → (R → Option (List ℕ)) → Lines R → Result (Option Line) Error → Lines R → Type 0
FindsNext remaining before found after =
    Finds (lines_room before) (held_bytes before) (lines_left remaining before) found (held_bytes after) (lines_left remaining after)
    × (lines_room after ≡ lines_room before)
