-- What was put is the text's beginning.
use Prim.Native.Nat.{◌-◌, ◌≤◌}
use mathlib.Core.Path.{◌≡◌}
use lib.ListN.{length, take}
use Rattle.output.specs.InnerRows.{text_of, joined}
use Rattle.output.proofs.Row.put_text.Given as goal

abbrev pub invariant-loop-k : goal.invariant-loop-k
invariant-loop-k l = (l.k ≤ length l.text) × (text_of l.self ≡ joined (text_of l.initial.self) (take l.k l.text))

abbrev pub decreases-loop-k : goal.decreases-loop-k
decreases-loop-k l = length l.text - l.k
