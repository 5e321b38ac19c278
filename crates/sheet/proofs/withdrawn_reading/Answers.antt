-- `withdrawn_reading` is held to `withdrawn_reading`: a number of one byte is the byte.
use mathlib.Core.Path.{sym, ◌∙◌}
use Rattle.codec.proofs.Numbers.{number-one}
use Rattle.sheet.specs.YearSheet.{withdrawn_reading}
use Rattle.sheet.proofs.withdrawn_reading.Goals as goal

pub returns : goal.returns
unfolding withdrawn_reading
returns c = c.byte_at.ensures ∙ sym (number-one 6 c.args.s.now)
