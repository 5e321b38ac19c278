-- No line ends in what was read; it stands behind what was held, and is what the reader had next.
use Rattle.std.proofs.Common.{◌≡◌, ◌-◌, ◌≤◌, length, take}
use Rattle.std.specs.Io.{StartsWith, appended_bytes}
use Rattle.std.specs.Io.KnownBytes.{Consumes}
use Rattle.input.specs.Input.{Unfed}
use Rattle.input.proofs.read_line.Given as goal

abbrev pub invariant-loop-held : goal.invariant-loop-held
invariant-loop-held g l = record {
  next : l.held.next ≡ 0;
  within : l.held.filled ≤ length l.bytes;
  same : length l.bytes ≡ length l.initial.bytes;
  none : Unfed (take l.held.filled l.bytes);
  appends : StartsWith (take l.held.filled l.bytes) (take l.initial.held.filled l.initial.bytes);
  taken : Consumes (g.R.Read.remaining l.initial.from) (g.R.Read.remaining l.from) (appended_bytes (take l.initial.held.filled l.initial.bytes) (take l.held.filled l.bytes));
}

abbrev pub decreases-loop-held : goal.decreases-loop-held
decreases-loop-held g l = length l.initial.bytes - l.held.filled
