-- The blank comes first.
use Rattle.output.proofs.Row.put_field.Goals as goal

pub returns : goal.returns
returns c = rw c.put.ensures at c.put_number.ensures
