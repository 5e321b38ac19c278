-- A digit below ten is its place after `0`.
use Rattle.output.proofs.Digits.{last_digit}
use Rattle.output.proofs.Row.put_digit.Goals as goal

pub returns : goal.returns
returns c = rw (last_digit c.args.n) c.put.ensures
