-- What one read brought stands behind what was held.
use Rattle.std.proofs.Common.{sym, subst}
use Rattle.std.specs.Io.KnownBytes.{Consumes}
use Rattle.input.proofs.LentFound.{behind_is}
use Rattle.input.proofs.read_behind.Goals as goal

pub returns-clause-taken : goal.returns-clause-taken
returns-clause-taken g c =
    subst (Consumes (g.R.Read.remaining c.args.from.now) (g.R.Read.remaining c.read_again.new.from))
    (sym (behind_is c.args.filled.now c.in_ok-count.count c.args.bytes.now c.read_again.new.buffer c.requires)) c.in_ok-count.ensures.taken.0
