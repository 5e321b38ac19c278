-- Lines in lent bytes: where what is held of them stands, and where a line does.
use Rattle.std.specs.Prelude.{ℕ, ◌+◌, ◌≤◌, ◌<◌, ◌≡◌, ◌≢◌, ⊤, List, [], ◌∷◌, ◌++◌, length, get_or, slice_range}
use Rattle.std.specs.Prelude.{Option, None, Some, Result, Ok, Err, IfErr}
use Rattle.std.specs.Io.KnownBytes.{Consumes, IsAtEnd}
use Rattle.std.specs.IoError.{error_kind}
use Rattle.std.specs.declared.io.Error.{Error}
use Rattle.std.specs.declared.io.ErrorKind.TheVariants.{Interrupted}
use Rattle.input.specs.Input.{Unfed}
use Rattle.input.specs.declared.Held.{Held}
use Rattle.input.specs.declared.Found.{Found}
use Rattle.input.specs.declared.Found.TheVariants as found

-- before the first line
abbrev pub nothing_held : Held
nothing_held = record { next = 0; filled = 0 }

-- what is held stands in the lent bytes
pub record HeldWithin (bytes : List ℕ) (held : Held) : Type 0 where
  pub next : held.next ≤ held.filled
  pub filled : held.filled ≤ length bytes

-- the bytes that were read and are not handed out yet
abbrev pub lent_bytes : List ℕ → Held → List ℕ
lent_bytes bytes held = slice_range bytes held.next held.filled

-- a line stands between two places in front of what is held behind it: the bytes up to the first line feed
pub record LineStands (all bytes : List ℕ) (from to : ℕ) (held : Held) : Type 0 where
  pub order : from ≤ to
  pub next : held.next ≡ to + 1
  pub feed : get_or bytes to 0 ≡ 10
  pub unfed : Unfed (slice_range bytes from to)
  pub stands : all ≡ slice_range bytes from held.filled
  pub parts : all ≡ slice_range bytes from to ++ 10 ∷ lent_bytes bytes held

-- a whole line lies within the lent bytes
abbrev pub FoundWithin : List ℕ → Found → Type 0
FoundWithin bytes (found.Whole from to) = (from ≤ to) × (to ≤ length bytes)
FoundWithin bytes found.Long = ⊤
FoundWithin bytes found.Half = ⊤

-- what is held comes right behind a line feed, which stands in the lent bytes still
abbrev pub FeedBefore : List ℕ → Held → Type 0
FeedBefore bytes held = (to : ℕ) × (held.next ≡ to + 1) × (get_or bytes to 0 ≡ 10)

-- How bytes fall into what is found in front and what stays held. A whole line stands in the lent bytes. A line that is too long
-- for them is passed over with its line feed. A line that did not end is all that there is. Before a failure there is no line
-- feed, and what is held is the last of it.
abbrev pub LentParts : List ℕ → Result (Option Found) Error → List ℕ → Held → Type 0
LentParts all (Ok (Some (found.Whole from to))) bytes held = LineStands all bytes from to held
LentParts all (Ok (Some found.Long)) bytes held =
    (line : List ℕ) × Unfed line × (length bytes ≤ length line) × (all ≡ line ++ 10 ∷ lent_bytes bytes held) × FeedBefore bytes held
LentParts all (Ok (Some found.Half)) bytes held = Unfed all × (0 < length bytes → 0 < length all) × (held ≡ nothing_held)
LentParts all (Ok None) bytes held = (all ≡ []) × (held ≡ nothing_held)
LentParts all (Err e) bytes held = Unfed all × ((lost : List ℕ) × (all ≡ lost ++ lent_bytes bytes held))

-- what ends at the end of the input, of which no known byte is left; where no byte is lent that is not known
abbrev pub LentEndsAt : ℕ → Result (Option Found) Error → Option (List ℕ) → Type 0
LentEndsAt room (Ok (Some (found.Whole from to))) left = ⊤
LentEndsAt room (Ok (Some found.Long)) left = ⊤
LentEndsAt room (Ok (Some found.Half)) left = 0 < room → IsAtEnd left
LentEndsAt room (Ok None) left = IsAtEnd left
LentEndsAt room (Err e) left = ⊤

-- an interrupted read is no failure, and a line that is held whole comes before one
pub record LentFailsAt (held : List ℕ) (e : Error) : Type 0 where
  pub retried : error_kind e ≢ Interrupted
  pub late : Unfed held

-- what is found next in the bytes that were held and, behind them, those that the reader gave
pub record LentFinds (held : List ℕ) (left : Option (List ℕ)) (r : Result (Option Found) Error) (bytes' : List ℕ) (held' : Held)
    (left' : Option (List ℕ)) : Type 0 where
  pub given : List ℕ
  pub taken : Consumes left left' given
  pub within : HeldWithin bytes' held'
  pub parts : LentParts (held ++ given) r bytes' held'
  pub ended : LentEndsAt (length bytes') r left'
  pub failed : IfErr r (LentFailsAt held)
