-- So many blanks were put as turns were taken.
use Prim.Native.Nat.{◌-◌, ◌≤◌}
use mathlib.Core.Path.{◌≡◌}
use Rattle.output.specs.InnerRows.{text_of, joined, blanks}
use Rattle.output.proofs.Row.put_blanks.Given as goal

abbrev pub invariant-loop-k : goal.invariant-loop-k
invariant-loop-k l = (l.k ≤ l.count) × (text_of l.self ≡ joined (text_of l.initial.self) (blanks l.k))

abbrev pub decreases-loop-k : goal.decreases-loop-k
decreases-loop-k l = l.count - l.k
