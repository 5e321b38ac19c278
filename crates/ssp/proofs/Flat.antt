-- A flat answer says what the answer beneath it says.
use Prim.Native.Nat.{ℕ}
use mathlib.Core.Path.{◌≡◌, refl, ap, sym, subst}
use mathlib.Core.List.{List}
use borrow.Author.Tests.{ne_eqb}
use Rattle.std.specs.Prelude.{Result, Ok, Err, IfOk}
use Rattle.std.specs.Result.{result_unwrap_or}
use Rattle.units.specs.declared.Ticks.{Ticks}
use Rattle.units.specs.Units.{ticks}
use Rattle.refusals.specs.declared.Position.{Position}
use Rattle.refusals.specs.declared.Refusal.{Refusal}
use Rattle.refusals.specs.Refusals.{number_of, refusal_in}
use Rattle.sheet.specs.YearSheet.{sheet_user, Tells}
use Rattle.sheet_values.specs.YearsValues.{year_values}
use Rattle.account_steps.specs.Account.{settled}
use Rattle.book_rules.specs.Find.{find_user}
use Rattle.chains.specs.Statements.{statement_at}
use Rattle.statements.specs.InnerWalk.{sums_of}
use Rattle.call_rules.specs.Changes.{run_amount}
use Rattle.call_rules.specs.Refusals.{user_at}
use Rattle.call_rules.specs.Calls.{close, statement}
use Rattle.call_answers.specs.Answers.{Answered}
use Rattle.account_steps.specs.declared.ClosingSums.{ClosingSums}
use Rattle.call_refusals.proofs.Refused.{refuses}
use Rattle.call_advance.specs.Advances.{ticks_answered}
use Rattle.call_close.specs.Closings.{no_sums, sums_answered}
use Rattle.statements.specs.declared.Sums as statements
use Rattle.call_statement.specs.Stated.{no_statement, sums_stated}
use Rattle.ssp.specs.declared.Closed.{Closed}
use Rattle.ssp.specs.declared.Sums.{Sums}
use Rattle.ssp.specs.Flat.{position_of, flat_closed, flat_sums}

-- what stands beside the number is what the call answers with it
module _ (b : List ℕ) where
  pub ticks_or : (number year run price estimate1 estimate2 : ℕ) (answer : Result Ticks Refusal)
      → IfOk answer (λ t. t ≡ ticks (run_amount (user_at b number) year run price estimate1 estimate2))
      → result_unwrap_or answer (ticks 0) ≡ ticks_answered b number year run price estimate1 estimate2 (refusal_in answer)
  unfolding ticks_answered
  ticks_or number year run price estimate1 estimate2 (Ok paid) e = e
  ticks_or number year run price estimate1 estimate2 (Err refusal) e = rw (ne_eqb (number_of refusal) 0 (refuses refusal)) refl

  pub sums-or : (sheet : List ℕ) (answer : Result ClosingSums Refusal)
      → IfOk answer (λ s. s ≡ settled (user_at b (sheet_user sheet)) (year_values sheet (user_at b (sheet_user sheet)).details))
      → result_unwrap_or answer no_sums ≡ sums_answered b sheet (refusal_in answer)
  unfolding sums_answered
  sums-or sheet (Ok sums) e = e
  sums-or sheet (Err refusal) e = rw (ne_eqb (number_of refusal) 0 (refuses refusal)) refl

  pub stated-or : (number : ℕ) (answer : Result statements.Sums Refusal) → IfOk answer (λ s. s ≡ sums_of (statement_at b (find_user b number)))
      → result_unwrap_or answer no_statement ≡ sums_stated b number (refusal_in answer)
  unfolding sums_stated
  stated-or number (Ok sums) e = e
  stated-or number (Err refusal) e = rw (ne_eqb (number_of refusal) 0 (refuses refusal)) refl

module _ (b : List ℕ) (refusal named : ℕ) where
  pub closed-flat : (sheet after : List ℕ) (p : Position) (s : ClosingSums) (r : Closed) → r ≡ flat_closed refusal named p s
      → Answered b (close sheet) 0 refusal named after × (Tells sheet refusal p × (s ≡ sums_answered b sheet refusal))
      → Answered b (close sheet) 0 r.refusal r.«record» after
      × (Tells sheet r.refusal (position_of r.month r.place) × (r ≡ flat_closed r.refusal r.«record» (position_of r.month r.place) (sums_answered b sheet r.refusal)))
  unfolding flat_closed
  closed-flat sheet after p s r e said =
      subst
      (λ x. Answered b (close sheet) 0 x.refusal x.«record» after
      × (Tells sheet x.refusal (position_of x.month x.place) × (x ≡ flat_closed x.refusal x.«record» (position_of x.month x.place) (sums_answered b sheet x.refusal))))
      (sym e)
      (said.0, (said.1.0, ap (flat_closed refusal named p) said.1.1))

  pub sums-flat : (number : ℕ) (s : statements.Sums) (r : Sums) → r ≡ flat_sums refusal named s
      → Answered b (statement number) 0 refusal named b × (s ≡ sums_stated b number refusal)
      → Answered b (statement number) 0 r.refusal r.«record» b × (r ≡ flat_sums r.refusal r.«record» (sums_stated b number r.refusal))
  unfolding flat_sums
  sums-flat number s r e said =
      subst
      (λ x. Answered b (statement number) 0 x.refusal x.«record» b × (x ≡ flat_sums x.refusal x.«record» (sums_stated b number x.refusal)))
      (sym e)
      (said.0, ap (flat_sums refusal named) said.1)
