-- No line feed is among what was held and what the reader gave since.
use Rattle.std.proofs.Common.{◌≡◌, ◌≤◌, length, take}
use Rattle.input.proofs.PassedOver.{PassedOver}
use Rattle.input.proofs.pass_over.Given as goal

abbrev pub invariant-loop : goal.invariant-loop
invariant-loop g l = record {
  room : length l.bytes ≤ length (take l.initial.held.filled l.initial.bytes);
  next : l.held.next ≡ 0;
  within : l.held.filled ≤ length l.bytes;
  passed : PassedOver (take l.initial.held.filled l.initial.bytes) (g.R.Read.remaining l.initial.from) (g.R.Read.remaining l.from) (take l.held.filled l.bytes);
}
