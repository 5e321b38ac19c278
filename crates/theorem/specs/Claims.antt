-- THE THIRD DEMAND, over the functions themselves: "For every list of enrolments, elections, advance runs, closings and
-- statements from a fresh book, whatever they bring, refused calls included and users mixed freely: after it, the statement of
-- each user it enrolled answers exactly what the ledger of document 01 gives from the accepted calls." The lists hold the charges of
-- ticket 1 too: "A user's charges made equal those withheld plus the rest, after every list of demand 3." And that every list can
-- be made, so that nothing is claimed of no list.
use Rattle.std.specs.Prelude.{ℕ, ◌≡◌, List, IfOk}
use Rattle.std.proofs.Math.Option.{none, some}
use Rattle.refusals.specs.Refusals.{refusal_in, record_in}
use Rattle.ledger.specs.Ledger.{Ledger}
use Rattle.ledger.specs.Accounting.{Accounts}
use Rattle.statements.specs.InnerWalk.{statement_in}
use Rattle.call_rules.specs.Calls.{Call, AllTyped}
use Rattle.call_statement.proofs.statement.Reads as statement-of
use Rattle.check_book.proofs.fresh.Reads as fresh-of
use Rattle.ledger_agrees.specs.Lists.{Made, Runs, Performed}
use Rattle.ledger_agrees.specs.Fed.{ledger_of, value_fed, Enrols, NoneDamaged}
use Rattle.ledger_agrees.specs.Charged.{ChargesKept}
use Rattle.theorem.specs.Runs.{number_by, Calls}

-- after a list of calls, which left the book b: a number that it enrolled has a ledger, and whatever a call of `statement` for it
-- answers is no refusal and is right by that ledger, as are what the entries on its chain had withheld and the unpaid rest
pub record Claim (ms : List Made) (b : List ℕ) (number : ℕ) : Type 1 where
  pub ledger : Ledger
  pub fed : ledger_of number ms none ≡ some ledger
  pub statement : (κs : _) (a : _) (r : _) (s : _) → statement-of.Post κs a r s → a.0.now ≡ b → number_by a ≡ number
      → (refusal_in r ≡ 0) × (record_in (λ sums. 0) r ≡ 0)
      × IfOk r (λ sums. Accounts ledger (value_fed number ledger.details ms) (statement_in sums))
  pub charges : ChargesKept b number ledger

abbrev pub ThirdDemand : Type 1
ThirdDemand =
    (κs : _) (a : _) (r : _) (s : _) → fresh-of.Post κs a r s → refusal_in r ≡ 0
    → (ms : List Made) (b : List ℕ) → Runs Calls s.0.now ms b
    → NoneDamaged ms × ((number : ℕ) → Enrols number ms → Claim ms b number)

-- "Every list of calls can be made": from any accepted fresh, with arguments as their types hold them
abbrev pub EveryList : Type 1
EveryList =
    (κs : _) (a : _) (r : _) (s : _) → fresh-of.Post κs a r s → refusal_in r ≡ 0
    → (cs : List Call) → AllTyped cs → Performed Calls s.0.now cs
