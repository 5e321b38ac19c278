-- What the contract of `advance` says, of every call.
use mathlib.Core.Path.{◌≡◌}
use Rattle.std.specs.Prelude.{IfOk}
use Rattle.refusals.specs.Refusals.{refusal_in, record_in}
use Rattle.units.specs.Units.{ticks}
use Rattle.call_rules.specs.Changes.{run_amount}
use Rattle.call_rules.specs.Refusals.{user_at}
use Rattle.call_rules.specs.Calls.{advance}
use Rattle.call_answers.specs.Answers.{Answered}
use Rattle.call_advance.proofs.advance.Reads as reads

pub advance-says : (κs : _) (a : _) (r : _) (s : _) → reads.Post κs a r s
    → Answered a.0.now (advance a.1.0.0 a.1.1.0 a.1.1.1.0 a.1.1.1.1.0.0 a.1.1.1.1.1.0.0 a.1.1.1.1.1.1.0.0) 0 (refusal_in r) (record_in (λ paid. 0) r) s.0.now
    × IfOk r (λ paid. paid ≡ ticks (run_amount (user_at a.0.now a.1.0.0) a.1.1.0 a.1.1.1.0 a.1.1.1.1.0.0 a.1.1.1.1.1.0.0 a.1.1.1.1.1.1.0.0))
advance-says κs a r s said = said
