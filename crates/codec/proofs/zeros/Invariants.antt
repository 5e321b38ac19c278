-- The bytes so far are zero, by words of eight and then one by one, counted from where the stretch begins within the string.
use Rattle.std.proofs.Common.{◌≡◌, ◌+◌, ◌-◌, ◌*◌, ◌/◌}
use Rattle.codec.specs.Bytes.{zeros}
use Rattle.codec.proofs.zeros.Given as goal

abbrev pub invariant-loop-word : goal.invariant-loop-word
invariant-loop-word l = l.all ≡ zeros l.first (l.word-index * 8) l.s

abbrev pub invariant-loop-b : goal.invariant-loop-b
invariant-loop-b l = l.all ≡ zeros l.first ((l.end - l.first) / 8 * 8 + l.b-index) l.s
