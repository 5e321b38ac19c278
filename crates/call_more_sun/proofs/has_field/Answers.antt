-- By the reading.
use Rattle.call_more_sun.specs.Asked.{has_field}
use Rattle.call_more_sun.proofs.has_field.Goals as goal

pub returns : goal.returns
unfolding has_field
returns c = rw c.injected_reading-bands.ensures
