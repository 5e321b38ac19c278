-- What the contract of `statement` says, of every call.
use mathlib.Core.Path.{◌≡◌}
use Rattle.std.specs.Prelude.{IfOk}
use Rattle.refusals.specs.Refusals.{refusal_in, record_in}
use Rattle.book_rules.specs.Find.{find_user}
use Rattle.chains.specs.Statements.{statement_at}
use Rattle.statements.specs.InnerWalk.{sums_of}
use Rattle.call_rules.specs.Calls.{statement}
use Rattle.call_answers.specs.Answers.{Answered}
use Rattle.call_statement.proofs.statement.Reads as reads

pub statement-says : (κs : _) (a : _) (r : _) (s : _) → reads.Post κs a r s
    → Answered a.0.now (statement a.1.0.0) 0 (refusal_in r) (record_in (λ sums. 0) r) a.0.now
    × IfOk r (λ sums. sums ≡ sums_of (statement_at a.0.now (find_user a.0.now a.1.0.0)))
statement-says κs a r s said = said
