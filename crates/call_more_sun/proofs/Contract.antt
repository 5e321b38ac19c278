-- What the contract of `more_sun` says, of every call.
use Prim.Native.Nat.{◌-◌}
use mathlib.Core.Path.{◌≡◌}
use Rattle.std.specs.Prelude.{IfOk}
use Rattle.refusals.specs.Refusals.{refusal_in, position_in, record_in}
use Rattle.sheet.specs.YearSheet.{sheet_user, Tells}
use Rattle.sheet_more_sun.specs.MoreSun.{more_sun}
use Rattle.call_rules.specs.Refusals.{user_at}
use Rattle.call_answers.specs.Answers.{AnsweredBy}
use Rattle.call_more_sun.specs.Asked.{more_sun_order}
use Rattle.call_more_sun.proofs.more_sun.Reads as reads

pub more-sun-says : (κs : _) (a : _) (r : _) (s : _) → reads.Post κs a r s
    → AnsweredBy a.0.now (more_sun_order a.0.now a.1.0.now a.1.1.0 a.1.1.1.0) 0 (refusal_in r) (record_in (λ addition. 0) r)
    × (Tells a.1.0.now (refusal_in r) (position_in r)
    × IfOk r (λ addition. addition ≡ more_sun a.1.0.now (user_at a.0.now (sheet_user a.1.0.now)).details (a.1.1.0 - 1) (a.1.1.1.0 - 1)))
more-sun-says κs a r s said = said
