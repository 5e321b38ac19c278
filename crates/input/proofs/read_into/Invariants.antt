-- What was read stands behind what was held, and is what the reader had next.
use Rattle.std.proofs.Common.{◌≡◌, ◌+◌, vec_len, vec_items}
use Rattle.std.specs.Io.{StartsWith, appended_bytes}
use Rattle.std.specs.Io.KnownBytes.{Consumes}
use Rattle.input.proofs.read_into.Given as goal

abbrev pub invariant-loop-left : goal.invariant-loop-left
invariant-loop-left g l = record {
  count : vec_len l.bytes + l.left ≡ vec_len l.initial.bytes + l.most;
  appends : StartsWith (vec_items l.bytes) (vec_items l.initial.bytes);
  taken : Consumes (g.R.Read.remaining l.initial.from) (g.R.Read.remaining l.from) (appended_bytes (vec_items l.initial.bytes) (vec_items l.bytes));
}

abbrev pub decreases-loop-left : goal.decreases-loop-left
decreases-loop-left g l = l.left
