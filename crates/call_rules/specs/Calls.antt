-- The five calls of document 01 and the charge of ticket 1: their refusal, their answer and the book after them. "A refusal
-- leaves every byte and answers zeros beside its number, but for the record in 2."
use Rattle.std.specs.Prelude.{ℕ, ◌^◌, ◌<◌, cond, not, List, [], ◌∷◌, eqb, get_or}
use Rattle.sheet.specs.YearSheet.{sheet_user, sheet_year, refused11, refused13, refused14, refused19}
use Rattle.sheet_values.specs.declared.Details.{Details}
use Rattle.book_rules.specs.Book.{length_fits, sound, smallest_faulty, details_fit}
use Rattle.units.specs.Units.{ticks}
use Rattle.sheet_values.specs.YearsValues.{year_values}
use Rattle.account_steps.specs.declared.Account.{Account}
use Rattle.account_steps.specs.Account.{account_elected, account_advanced, account_closed, settled}
use Rattle.account_steps.specs.Charges.{withheld_from, closing_withheld, account_withheld, account_charged}
use Rattle.book_records.specs.Entries.{advance_entry, closing_entry}
use Rattle.call_rules.specs.Changes.{Change, nothing, opens, sets, enters, applied, new_account, booked_in, run_amount}
use Rattle.book_rules.specs.Find.{find_user}
use Rattle.call_rules.specs.Rules.{Rule, ◌unless◌, refused_by}
use Rattle.call_rules.specs.Refusals.{Look, look_at, number_free, present, day_and_option, election_open, run_open, order_fits, year_open}
use Rattle.call_rules.specs.Refusals.{charge_open, user_at}

-- the calls and what they bring
pub data Call : Type 0 where
  enrol : (number : ℕ) (details : Details) (option : ℕ) → Call
  elect : (number option year month day : ℕ) → Call
  advance : (number year run rate estimate1 estimate2 : ℕ) → Call
  close : (sheet : List ℕ) → Call
  statement : (number : ℕ) → Call
  charge : (number : ℕ) → Call

-- the number that a call names
unfoldable pub named_by : Call → ℕ
named_by (enrol n d o) = n
named_by (elect n o y m d) = n
named_by (advance n y r p e₁ e₂) = n
named_by (close s) = sheet_user s
named_by (statement n) = n
named_by (charge n) = n

-- "Order: fresh 1; enrol 1 2 4 5 3; elect 1 2 6 7 8; advance 1 2 6 9 10 3; close 1 2 11 6 12 13 14 3; statement 1 2 6." Each
-- call looks at the length and the soundness of the book first, then by its own rules at the user that it names. "It refuses
-- with 19 in the new case, at 13's place." (ticket 7) "It refuses with 16 .., right after 6." (ticket 1)
abbrev pub sheet_rules : Look → List ℕ → List Rule
sheet_rules v s =
    (6 unless present v) ∷ (12 unless year_open v.account (sheet_year s)) ∷ (13 unless not (refused13 s))
    ∷ (19 unless not (refused19 s)) ∷ (14 unless not (refused14 v.account.details.class s)) ∷ (3 unless v.room) ∷ []

unfoldable pub rules_of : Look → Call → List Rule
rules_of v (enrol n d o) = (4 unless number_free v n) ∷ (5 unless details_fit d o) ∷ (3 unless v.room) ∷ []
rules_of v (elect n o y m d) = (6 unless present v) ∷ (7 unless day_and_option o y m d) ∷ (8 unless election_open v.account y m d) ∷ []
rules_of v (advance n y r p e₁ e₂) =
    (6 unless present v) ∷ (9 unless run_open v.account y r) ∷ (10 unless order_fits p e₁ e₂) ∷ (3 unless v.room) ∷ []
rules_of v (close s) = (11 unless not (refused11 s)) ∷ sheet_rules v s
rules_of v (statement n) = (6 unless present v) ∷ []
rules_of v (charge n) = (6 unless present v) ∷ (16 unless charge_open v.account) ∷ []

abbrev pub order_of : List ℕ → Call → List Rule
order_of b c = (1 unless length_fits b) ∷ (2 unless sound b) ∷ rules_of (look_at b (named_by c)) c

unfoldable pub refusal_of : List ℕ → Call → ℕ
refusal_of b c = refused_by (order_of b c)

-- what an accepted call changes, by the account of the user that it names: "An election sets the option"; "Each run adds one
-- entry, joins the advances field and sets its bit."; a closing is entered with its sums; what each payment has withheld is taken
-- from the rest and kept by the entry (ticket 1)
unfoldable pub change_of : Account → Call → Change
change_of a (enrol n d o) = opens (new_account n d o)
change_of a (elect n o y m d) = sets (account_elected o a)
change_of a (advance n y r p e₁ e₂) =
    let paid = run_amount a y r p e₁ e₂ in
    let withheld = withheld_from a.charge.rest.0 paid in
    enters (account_withheld withheld (account_advanced y r paid a)) (advance_entry y (booked_in a y) r (ticks paid) (ticks withheld))
change_of a (close s) =
    let v = year_values s a.details in
    let withheld = closing_withheld a v in
    enters (account_withheld withheld (account_closed v a)) (closing_entry a.open_year a.option (settled a v) (ticks withheld))
change_of a (statement n) = nothing
change_of a (charge n) = sets (account_charged a)

-- the book after an accepted call
unfoldable pub booked : List ℕ → Call → List ℕ
booked b c = applied (find_user b (named_by c)) (change_of (user_at b (named_by c)) c) b

-- the book after a call
unfoldable pub book_after : List ℕ → Call → List ℕ
book_after b c = cond (eqb (refusal_of b c) 0) (booked b c) b

-- the record that an answer names: after a refusal 2 "the faulty record with the smallest index" (ticket 4); else what the call
-- answers, or 0 beside another refusal
unfoldable pub record_named : List ℕ → (refusal answered : ℕ) → ℕ
record_named b refusal answered = cond (eqb refusal 2) (smallest_faulty b) (cond (eqb refusal 0) answered 0)

-- ARGUMENTS AS THE INTERFACE'S TYPES HOLD THEM

unfoldable pub Typed : Call → Type 0
Typed (enrol n d o) =
    (n < 2 ^ 32) × (o < 2 ^ 8) × (d.class < 2 ^ 8) × (d.plant < 2 ^ 8) × (d.power < 2 ^ 32) × (d.year < 2 ^ 16) × (d.month < 2 ^ 8)
    × (d.island < 2 ^ 8)
Typed (elect n o y m d) = (n < 2 ^ 32) × (o < 2 ^ 8) × (y < 2 ^ 32) × (m < 2 ^ 32) × (d < 2 ^ 32)
Typed (advance n y r p e₁ e₂) = (n < 2 ^ 32) × (y < 2 ^ 32) × (r < 2 ^ 8) × (p < 2 ^ 64) × (e₁ < 2 ^ 64) × (e₂ < 2 ^ 64)
Typed (close s) = (k : ℕ) → get_or s k 0 < 256
Typed (statement n) = n < 2 ^ 32
Typed (charge n) = n < 2 ^ 32

unfoldable pub AllTyped : List Call → Type 0
AllTyped [] = Unit {0}
AllTyped (c ∷ cs) = Typed c × AllTyped cs
