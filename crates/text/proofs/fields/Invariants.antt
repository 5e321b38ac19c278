use Rattle.std.proofs.Common.{◌≡◌, length, take}
use Rattle.std.specs.Prelude.{Some}
use Rattle.text.specs.Text.{fields}
use Rattle.text.proofs.fields.Given as goal

abbrev pub invariant-loop-value : goal.invariant-loop-value
invariant-loop-value g l = (length l.value-items ≡ g.row.N) × (fields l.value-index l.text ≡ Some (take l.value-index l.value-items, l.rest))
