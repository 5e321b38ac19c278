-- `injected_reading` is held to `injected_reading`: a number of one byte is the byte.
use mathlib.Core.Path.{sym, ◌∙◌}
use Rattle.codec.proofs.Numbers.{number-one}
use Rattle.sheet.specs.YearSheet.{injected_reading}
use Rattle.sheet.proofs.injected_reading.Goals as goal

pub returns : goal.returns
unfolding injected_reading
returns c = c.byte_at.ensures ∙ sym (number-one 7 c.args.s.now)
