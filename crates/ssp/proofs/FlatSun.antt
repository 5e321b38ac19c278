-- A flat answer to how much more sun says what the answer beneath it says.
use Prim.Native.Nat.{ℕ, ◌-◌}
use mathlib.Core.Path.{◌≡◌, refl, ap, sym, subst}
use mathlib.Core.List.{List}
use borrow.Author.Tests.{ne_eqb}
use Rattle.std.specs.Prelude.{Option, None, Result, Ok, Err, IfOk}
use Rattle.std.specs.Result.{result_unwrap_or}
use Rattle.refusals.specs.declared.Position.{Position}
use Rattle.sheet.specs.YearSheet.{Tells}
use Rattle.call_answers.specs.Answers.{AnsweredBy}
use Rattle.units.specs.declared.Kwh.{Kwh}
use Rattle.refusals.specs.declared.Refusal.{Refusal}
use Rattle.refusals.specs.Refusals.{number_of, refusal_in}
use Rattle.sheet.specs.YearSheet.{sheet_user}
use Rattle.sheet_more_sun.specs.MoreSun.{more_sun}
use Rattle.call_rules.specs.Refusals.{user_at}
use Rattle.call_refusals.proofs.Refused.{refuses}
use Rattle.call_more_sun.specs.Asked.{more_sun_order, addition_answered}
use Rattle.ssp.specs.declared.Sun.{Sun}
use Rattle.ssp.specs.Flat.{position_of}
use Rattle.ssp.specs.FlatSun.{flat_sun}

pub addition-or : (b sheet : List ℕ) (month band : ℕ) (answer : Result (Option Kwh) Refusal)
    → IfOk answer (λ x. x ≡ more_sun sheet (user_at b (sheet_user sheet)).details (month - 1) (band - 1))
    → result_unwrap_or answer None ≡ addition_answered b sheet month band (refusal_in answer)
unfolding addition_answered
addition-or b sheet month band (Ok x) e = e
addition-or b sheet month band (Err refusal) e = rw (ne_eqb (number_of refusal) 0 (refuses refusal)) refl

pub sun-flat : (b sheet : List ℕ) (month band refusal named : ℕ) (p : Position) (x : Option Kwh) (r : Sun) → r ≡ flat_sun refusal named p x
    → AnsweredBy b (more_sun_order b sheet month band) 0 refusal named × (Tells sheet refusal p × (x ≡ addition_answered b sheet month band refusal))
    → AnsweredBy b (more_sun_order b sheet month band) 0 r.refusal r.«record»
    × (Tells sheet r.refusal (position_of r.month r.place)
    × (r ≡ flat_sun r.refusal r.«record» (position_of r.month r.place) (addition_answered b sheet month band r.refusal)))
unfolding flat_sun
sun-flat b sheet month band refusal named p x r e said =
    subst
    (λ y. AnsweredBy b (more_sun_order b sheet month band) 0 y.refusal y.«record»
    × (Tells sheet y.refusal (position_of y.month y.place)
    × (y ≡ flat_sun y.refusal y.«record» (position_of y.month y.place) (addition_answered b sheet month band y.refusal))))
    (sym e)
    (said.0, (said.1.0, ap (flat_sun refusal named p) said.1.1))
