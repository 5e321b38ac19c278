-- What the contract of `charge` says, of every call.
use Rattle.refusals.specs.Refusals.{refusal_in, record_in}
use Rattle.book_rules.specs.Find.{find_user}
use Rattle.call_rules.specs.Calls.{charge}
use Rattle.call_answers.specs.Answers.{Answered}
use Rattle.call_charge.proofs.charge.Reads as reads

pub charge-says : (κs : _) (a : _) (r : _) (s : _) → reads.Post κs a r s
    → Answered a.0.now (charge a.1.0.0) (find_user a.0.now a.1.0.0) (refusal_in r) (record_in (λ user. user.0) r) s.0.now
charge-says κs a r s said = said
