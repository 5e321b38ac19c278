-- What the contract of `close` says, of every call.
use mathlib.Core.Path.{◌≡◌}
use Rattle.std.specs.Prelude.{IfOk}
use Rattle.refusals.specs.Refusals.{refusal_in, position_in, record_in}
use Rattle.sheet.specs.YearSheet.{sheet_user, Tells}
use Rattle.sheet_values.specs.YearsValues.{year_values}
use Rattle.account_steps.specs.Account.{settled}
use Rattle.call_rules.specs.Refusals.{user_at}
use Rattle.call_rules.specs.Calls.{close}
use Rattle.call_answers.specs.Answers.{Answered}
use Rattle.call_close.proofs.close.Reads as reads

pub close-says : (κs : _) (a : _) (r : _) (s : _) → reads.Post κs a r s
    → Answered a.0.now (close a.1.0.now) 0 (refusal_in r) (record_in (λ sums. 0) r) s.0.now
    × (Tells a.1.0.now (refusal_in r) (position_in r)
    × IfOk r (λ sums. sums ≡ settled (user_at a.0.now (sheet_user a.1.0.now)) (year_values a.1.0.now (user_at a.0.now (sheet_user a.1.0.now)).details)))
close-says κs a r s said = said
