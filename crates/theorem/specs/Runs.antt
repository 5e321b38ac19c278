-- One call of the functions themselves. Of a call no more is known than the contract of its function: `Post κs a r s` says it of
-- the arguments a, the answer r and what the arguments are at the end, s; κs are the lifetimes that the caller lends its slices
-- for, and nothing depends on them. The book is the first argument.
use Rattle.std.specs.Prelude.{ℕ, List}
use Rattle.std.specs.Borrow.{Bor}
use Rattle.refusals.specs.Refusals.{refusal_in}
use Rattle.units.specs.declared.UserNumber.{UserNumber}
use Rattle.units.specs.declared.Rate.{Rate}
use Rattle.units.specs.declared.WideKwh.{WideKwh}
use Rattle.sheet_values.specs.declared.Details.{Details}
use Rattle.call_rules.specs.Calls.{Call, enrol, elect, advance, close, statement, charge}
use Rattle.ledger_agrees.specs.Lists.{Made, made}
use Rattle.call_enrol.proofs.enrol.Reads as enrol-of
use Rattle.call_elect.proofs.elect.Reads as elect-of
use Rattle.call_charge.proofs.charge.Reads as charge-of
use Rattle.call_advance.proofs.advance.Reads as advance-of
use Rattle.call_close.proofs.close.Reads as close-of
use Rattle.call_statement.proofs.statement.Reads as statement-of

-- what was called, by the arguments in the order of the function's parameters
abbrev pub enrol_by : {B U : Type 0} → B × (UserNumber × (Details × (ℕ × U))) → Call
enrol_by (book, (number, (details, (option, end)))) = enrol number.0 details option

abbrev pub elect_by : {B U : Type 0} → B × (UserNumber × (ℕ × (ℕ × (ℕ × (ℕ × U))))) → Call
elect_by (book, (number, (option, (year, (month, (day, end)))))) = elect number.0 option year month day

abbrev pub advance_by : {B U : Type 0} → B × (UserNumber × (ℕ × (ℕ × (Rate × (WideKwh × (WideKwh × U)))))) → Call
advance_by (book, (number, (year, (run, (rate, (estimate1, (estimate2, end))))))) =
    advance number.0 year run rate.0 estimate1.0 estimate2.0

abbrev pub close_by : {B U : Type 0} → B × (Bor (List ℕ) × U) → Call
close_by (book, (sheet, end)) = close sheet.now

abbrev pub charge_by : {B U : Type 0} → B × (UserNumber × U) → Call
charge_by (book, (number, end)) = charge number.0

-- the number that a statement is asked for, and that call
abbrev pub number_by : {B U : Type 0} → B × (UserNumber × U) → ℕ
number_by (book, (number, end)) = number.0

abbrev pub statement_by : {B U : Type 0} → B × (UserNumber × U) → Call
statement_by a = statement (number_by a)

-- one call: the book before it, what was called and answered, the book after it. An answer is a `Result`, of which the number of its
-- refusal is kept, 0 of an accepted call.
pub data Calls : List ℕ → Made → List ℕ → Type 1 where
  enrols : (κs : _) (a : _) (r : _) (s : _) → enrol-of.Post κs a r s → Calls a.0.now (made (enrol_by a) (refusal_in r)) s.0.now
  elects : (κs : _) (a : _) (r : _) (s : _) → elect-of.Post κs a r s → Calls a.0.now (made (elect_by a) (refusal_in r)) s.0.now
  advances : (κs : _) (a : _) (r : _) (s : _) → advance-of.Post κs a r s
      → Calls a.0.now (made (advance_by a) (refusal_in r)) s.0.now
  closes : (κs : _) (a : _) (r : _) (s : _) → close-of.Post κs a r s
      → Calls a.0.now (made (close_by a) (refusal_in r)) s.0.now
  charges : (κs : _) (a : _) (r : _) (s : _) → charge-of.Post κs a r s → Calls a.0.now (made (charge_by a) (refusal_in r)) s.0.now
  -- a statement is lent the book to read only, so that the book after it is the one before it
  states : (κs : _) (a : _) (r : _) (s : _) → statement-of.Post κs a r s
      → Calls a.0.now (made (statement_by a) (refusal_in r)) a.0.now
