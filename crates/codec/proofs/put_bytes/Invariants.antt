-- What is left to store, stored into the string as it stands, always gives the same: the whole number stored into the string as it
-- came.
use Prim.Native.Nat.{ℕ, ◌+◌, ◌-◌, ◌≤◌}
use mathlib.Core.Path.{◌≡◌}
use mathlib.Core.List.{List}
use lib.ListN.{length}
use lib.Seq.{sets}
use Rattle.codec.specs.Bytes.{bytes_of}
use Rattle.codec.proofs.put_bytes.Given as goal

abbrev pub left : ℕ → ℕ → ℕ → ℕ → List ℕ → List ℕ
left at width rest k s = sets s (at + k) (bytes_of (width - k) rest)

pub record Storing (at width n : ℕ) (before s : List ℕ) (rest k : ℕ) : Type 0 where
  pub within : k ≤ width
  pub long : length s ≡ length before
  pub whole : left at width rest k s ≡ sets before at (bytes_of width n)

abbrev pub invariant-loop-k : goal.invariant-loop-k
invariant-loop-k l = Storing l.at l.width l.n l.initial.s l.s l.rest l.k
