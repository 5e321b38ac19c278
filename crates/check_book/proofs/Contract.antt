-- What the contract of `fresh` says, of every call.
use mathlib.Core.Path.{◌≡◌}
use Rattle.refusals.specs.Refusals.{refusal_in}
use Rattle.check_book.specs.Verdicts.{fresh_answer, fresh_after}
use Rattle.check_book.proofs.fresh.Reads as reads

pub fresh-says : (κs : _) (a : _) (r : _) (s : _) → reads.Post κs a r s
    → (refusal_in r ≡ fresh_answer a.0.now) × (s.0.now ≡ fresh_after a.0.now)
fresh-says κs a r s said = said
