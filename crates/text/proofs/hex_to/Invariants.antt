-- The digits of the bytes passed stand at the front, and the rest stays.
use Rattle.std.proofs.Common.{◌≡◌, ◌≤◌, ◌*◌, ◌++◌, length, take, drop}
use Rattle.std.specs.Str.{IsAscii}
use Rattle.text.specs.Text.{hex_of}
use Rattle.text.proofs.hex_to.Given as goal

abbrev pub invariant-loop-k : goal.invariant-loop-k
invariant-loop-k l =
    (l.k ≤ length l.bytes)
    × (length l.out ≡ length l.initial.out)
    × (l.out ≡ hex_of (take l.k l.bytes) ++ drop (2 * l.k) l.initial.out)
    × IsAscii (hex_of (take l.k l.bytes))
