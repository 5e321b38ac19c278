-- What the contract of `elect` says, of every call.
use Rattle.refusals.specs.Refusals.{refusal_in, record_in}
use Rattle.call_rules.specs.Calls.{elect}
use Rattle.call_answers.specs.Answers.{Answered}
use Rattle.call_elect.proofs.elect.Reads as reads

pub elect-says : (κs : _) (a : _) (r : _) (s : _) → reads.Post κs a r s
    → Answered a.0.now (elect a.1.0.0 a.1.1.0 a.1.1.1.0 a.1.1.1.1.0 a.1.1.1.1.1.0) 0 (refusal_in r) (record_in (λ elected. 0) r) s.0.now
elect-says κs a r s said = said
