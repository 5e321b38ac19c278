-- By the fields of the record that stands behind.
use Rattle.std.proofs.Common.{rules}
use Rattle.check_rules.specs.InnerFollows.{follows_entry}
use Rattle.check_rules.proofs.follows.Goals as goal

pub returns : goal.returns
unfolding follows_entry
returns c = search rules
