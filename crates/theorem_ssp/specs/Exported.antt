-- THE THIRD DEMAND, over the functions that other programs link, as `ssp` has them: what is exported has the same contracts
-- (`Rattle.ssp_c.proofs.Linked`). One call is a call of such a function, of which no more is known than its contract
-- (`Post κs a r s`, as in `Rattle.theorem.specs.Runs`); a list of calls, and what is claimed of it, are as there.
use Rattle.std.specs.Prelude.{ℕ, ◌≡◌, List}
use Rattle.std.proofs.Math.Option.{none, some}
use Rattle.std.specs.Borrow.{Bor}
use Rattle.ledger.specs.Ledger.{Ledger, Statement}
use Rattle.ledger.specs.Accounting.{Accounts}
use Rattle.call_rules.specs.Calls.{Call, enrol, elect, advance, close, statement, charge, AllTyped}
use Rattle.ledger_agrees.specs.Lists.{Made, made, Runs, Performed}
use Rattle.ledger_agrees.specs.Charged.{ChargesKept}
use Rattle.ledger_agrees.specs.Fed.{ledger_of, value_fed, Enrols, NoneDamaged}
use Rattle.ssp.specs.declared.Sums.{Sums}
use Rattle.ssp.specs.Flat.{details_of}
use Rattle.ssp.proofs.ssp_fresh.Reads as fresh-of
use Rattle.ssp.proofs.ssp_enrol.Reads as enrol-of
use Rattle.ssp.proofs.ssp_elect.Reads as elect-of
use Rattle.ssp.proofs.ssp_charge.Reads as charge-of
use Rattle.ssp.proofs.ssp_advance.Reads as advance-of
use Rattle.ssp.proofs.ssp_close.Reads as close-of
use Rattle.ssp.proofs.ssp_statement.Reads as statement-of

-- what was called, by the arguments in the order of the function's parameters
abbrev pub enrol_by : {B U : Type 0} → B × (ℕ × (ℕ × (ℕ × (ℕ × (ℕ × (ℕ × (ℕ × (ℕ × U)))))))) → Call
enrol_by (book, (number, (class, (plant, (option, (power, (year, (month, (island, end))))))))) =
    enrol number (details_of class plant power year month island) option

abbrev pub elect_by : {B U : Type 0} → B × (ℕ × (ℕ × (ℕ × (ℕ × (ℕ × U))))) → Call
elect_by (book, (number, (option, (year, (month, (day, end)))))) = elect number option year month day

abbrev pub advance_by : {B U : Type 0} → B × (ℕ × (ℕ × (ℕ × (ℕ × (ℕ × (ℕ × U)))))) → Call
advance_by (book, (number, (year, (run, (rate, (estimate1, (estimate2, end))))))) = advance number year run rate estimate1 estimate2

abbrev pub close_by : {B U : Type 0} → B × (Bor (List ℕ) × U) → Call
close_by (book, (sheet, end)) = close sheet.now

abbrev pub charge_by : {B U : Type 0} → B × (ℕ × U) → Call
charge_by (book, (number, end)) = charge number

-- the number that a statement is asked for, and that call
abbrev pub number_by : {B U : Type 0} → B × (ℕ × U) → ℕ
number_by (book, (number, end)) = number

abbrev pub statement_by : {B U : Type 0} → B × (ℕ × U) → Call
statement_by a = statement (number_by a)

-- one call of an exported function: the book before it, what was called and answered, the book after it
pub data Calls : List ℕ → Made → List ℕ → Type 1 where
  enrols : (κs : _) (a : _) (r : _) (s : _) → enrol-of.Post κs a r s → Calls a.0.now (made (enrol_by a) r.refusal) s.0.now
  elects : (κs : _) (a : _) (r : _) (s : _) → elect-of.Post κs a r s → Calls a.0.now (made (elect_by a) r.refusal) s.0.now
  advances : (κs : _) (a : _) (r : _) (s : _) → advance-of.Post κs a r s
      → Calls a.0.now (made (advance_by a) r.refusal) s.0.now
  closes : (κs : _) (a : _) (r : _) (s : _) → close-of.Post κs a r s → Calls a.0.now (made (close_by a) r.refusal) s.0.now
  charges : (κs : _) (a : _) (r : _) (s : _) → charge-of.Post κs a r s → Calls a.0.now (made (charge_by a) r.refusal) s.0.now
  states : (κs : _) (a : _) (r : _) (s : _) → statement-of.Post κs a r s
      → Calls a.0.now (made (statement_by a) r.refusal) a.0.now

-- the statement that an exported answer's fields are
unfoldable pub statement_answered : Sums → Statement
statement_answered s =
    record {
      open_year = s.open_year;
      credit = s.credit;
      value = s.value;
      cost = s.cost;
      flat_rate = s.flat_rate;
      contribution = s.contribution;
      liquidation = s.liquidation;
      lapsed = s.lapsed;
      balance = s.balance;
      advances = s.advances;
      closed_advances = s.closed_advances;
    }

-- what is claimed of a user of the list, of whatever the exported statement answers for it, and of its charges
pub record Claim (ms : List Made) (b : List ℕ) (number : ℕ) : Type 1 where
  pub ledger : Ledger
  pub fed : ledger_of number ms none ≡ some ledger
  pub statement : (κs : _) (a : _) (r : _) (s : _) → statement-of.Post κs a r s → a.0.now ≡ b → number_by a ≡ number
      → (r.refusal ≡ 0) × (r.«record» ≡ 0) × Accounts ledger (value_fed number ledger.details ms) (statement_answered r)
  pub charges : ChargesKept b number ledger

abbrev pub ThirdDemand : Type 1
ThirdDemand =
    (κs : _) (a : _) (r : _) (s : _) → fresh-of.Post κs a r s → r ≡ 0 → (ms : List Made) (b : List ℕ) → Runs Calls s.0.now ms b
    → NoneDamaged ms × ((number : ℕ) → Enrols number ms → Claim ms b number)

-- every list of calls can be made
abbrev pub EveryList : Type 1
EveryList =
    (κs : _) (a : _) (r : _) (s : _) → fresh-of.Post κs a r s → r ≡ 0 → (cs : List Call) → AllTyped cs → Performed Calls s.0.now cs
