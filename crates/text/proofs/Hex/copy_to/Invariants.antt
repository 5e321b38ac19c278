-- The bytes passed spell the digits before those to come, and the rest stays.
use Rattle.std.proofs.Common.{◌≡◌, ◌≤◌, ◌*◌, ◌++◌, length, take, drop}
use Rattle.text.specs.Text.{hex_of}
use Rattle.text.proofs.Hex.copy_to.Given as goal

abbrev pub invariant-loop-k : goal.invariant-loop-k
invariant-loop-k l =
    (l.k ≤ l.count)
    × (length l.out ≡ length l.initial.out)
    × (hex_of (take l.k l.out) ++ drop (2 * l.k) l.fn.self.digits.now ≡ l.fn.self.digits.now)
    × (drop l.k l.out ≡ drop l.k l.initial.out)
