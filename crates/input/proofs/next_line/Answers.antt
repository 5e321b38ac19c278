-- What is held is let go after a failure.
use Rattle.input.proofs.LentFound.{let_go}
use Rattle.input.proofs.next_line.Goals as goal

pub returns-in-Err-clause-finds : goal.returns-in-Err-clause-finds
returns-in-Err-clause-finds g c = let_go _ _ _ _ _ _ _ _ c.in-Err.is c.find_line.ensures c.start.ensures
