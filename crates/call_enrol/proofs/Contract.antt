-- What the contract of `enrol` says, of every call.
use Rattle.refusals.specs.Refusals.{refusal_in, record_in}
use Rattle.book_rules.specs.Book.{used}
use Rattle.call_rules.specs.Calls.{enrol}
use Rattle.call_answers.specs.Answers.{Answered}
use Rattle.call_enrol.proofs.enrol.Reads as reads

pub enrol-says : (κs : _) (a : _) (r : _) (s : _) → reads.Post κs a r s
    → Answered a.0.now (enrol a.1.0.0 a.1.1.0 a.1.1.1.0) (used a.0.now) (refusal_in r) (record_in (λ new. new.0) r) s.0.now
enrol-says κs a r s said = said
