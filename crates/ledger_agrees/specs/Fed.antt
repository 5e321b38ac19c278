-- What a list of calls makes of a user's ledger: "A user's ledger is fed the arguments of the list's calls for its number that
-- answered 0, in order, and nothing from the book." (document 01, "Ledger")
use Rattle.std.specs.Prelude.{ℕ, ◌+◌, ◌≡◌, Bool, cond, ◌&&◌, List, [], ◌∷◌, eqb}
use Rattle.std.proofs.Math.Option.{Option, none, some}
use Rattle.sheet_values.specs.declared.Details.{Details}
use Rattle.ledger.specs.Ledger.{Ledger, enrolled, elected, charged, advanced, closed, sheet_value}
use Rattle.call_rules.specs.Calls.{Call, enrol, elect, advance, close, statement, charge, named_by}
use Rattle.ledger_agrees.specs.Lists.{Made, made}

-- a ledger after an accepted call for its number; there is none before the enrolment
unfoldable pub posted : Call → Option Ledger → Option Ledger
posted (enrol n d o) l = some (enrolled d o)
posted (elect n o y m d) none = none
posted (elect n o y m d) (some l) = some (elected o l)
posted (advance n y r p e₁ e₂) none = none
posted (advance n y r p e₁ e₂) (some l) = some (advanced y r p e₁ e₂ l)
posted (close s) none = none
posted (close s) (some l) = some (closed s l)
posted (statement n) l = l
posted (charge n) none = none
posted (charge n) (some l) = some (charged l)

-- "Refused calls, statements and calls for other numbers change nothing."
unfoldable pub is_for : ℕ → Made → Bool
is_for number m = eqb m.refusal 0 && eqb (named_by m.call) number

unfoldable pub ledger_of : ℕ → List Made → Option Ledger → Option Ledger
ledger_of number [] l = l
ledger_of number (m ∷ ms) l = ledger_of number ms (cond (is_for number m) (posted m.call l) l)

-- "the value of all injected energy in the sheets accepted for the closed years", each by its sheet and the enrolled details
unfoldable pub value_by : Details → Call → ℕ
value_by d (enrol n e o) = 0
value_by d (elect n o y m e) = 0
value_by d (advance n y r p e₁ e₂) = 0
value_by d (close s) = sheet_value d s
value_by d (statement n) = 0
value_by d (charge n) = 0

unfoldable pub value_fed : ℕ → Details → List Made → ℕ
value_fed number d [] = 0
value_fed number d (m ∷ ms) = cond (is_for number m) (value_by d m.call) 0 + value_fed number d ms

-- an enrolment of the number that answered 0 is in the list
pub data Enrols (number : ℕ) : List Made → Type 0 where
  here : (d : Details) (option : ℕ) (ms : List Made) → Enrols number (made (enrol number d option) 0 ∷ ms)
  later : (m : Made) (ms : List Made) → Enrols number ms → Enrols number (m ∷ ms)

-- no call of the list answers 1 or 2
unfoldable pub NoneDamaged : List Made → Type 0
NoneDamaged [] = Unit {0}
NoneDamaged (m ∷ ms) = (m.refusal ≡ 1 → ⊥) × (m.refusal ≡ 2 → ⊥) × NoneDamaged ms
