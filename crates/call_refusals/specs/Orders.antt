-- The rules of each call that come once the book is sound and the user is there, as the orders of call_rules end; and what it is
-- that an answer follows them.
use Rattle.std.specs.Prelude.{ℕ, ◌≡◌, Bool, not, ◌&&◌, Result, MatchResult, List, [], ◌∷◌, eqb}
use Rattle.refusals.specs.Refusals.{number_of}
use Rattle.refusals.specs.declared.Refusal.{Refusal}
use Rattle.sheet.specs.YearSheet.{sheet_year, refused13, refused14, refused19}
use Rattle.sheet_values.specs.declared.Details.{Details}
use Rattle.account_steps.specs.declared.Account.{Account}
use Rattle.book_rules.specs.Book.{details_fit}
use Rattle.call_rules.specs.Rules.{Rule, ◌unless◌, refused_by}
use Rattle.call_rules.specs.Refusals.{day_and_option, election_open, run_open, order_fits, year_open, charge_open}

abbrev pub enrol_rules : (number : ℕ) (taken : Bool) (details : Details) (option : ℕ) (room : Bool) → List Rule
enrol_rules number taken details option room =
    (4 unless (not (eqb number 0) && not taken)) ∷ (5 unless details_fit details option) ∷ (3 unless room) ∷ []

abbrev pub elect_rules : Account → (option year month day : ℕ) → List Rule
elect_rules a option year month day = (7 unless day_and_option option year month day) ∷ (8 unless election_open a year month day) ∷ []

abbrev pub charge_rules : Account → List Rule
charge_rules a = (16 unless charge_open a) ∷ []

abbrev pub advance_rules : Account → (year run rate estimate1 estimate2 : ℕ) → (room : Bool) → List Rule
advance_rules a year run rate estimate1 estimate2 room =
    (9 unless run_open a year run) ∷ (10 unless order_fits rate estimate1 estimate2) ∷ (3 unless room) ∷ []

abbrev pub close_rules : Account → (sheet : List ℕ) → (room : Bool) → List Rule
close_rules a s room =
    (12 unless year_open a (sheet_year s)) ∷ (13 unless not (refused13 s)) ∷ (19 unless not (refused19 s))
    ∷ (14 unless not (refused14 a.details.class s)) ∷ (3 unless room) ∷ []

-- accepted where every rule is met; else refused by the first that is not
abbrev pub Follows : {A : Type 0} → List Rule → Result A Refusal → Type 0
Follows rules r = MatchResult r (λ accepted. refused_by rules ≡ 0) (λ refusal. refused_by rules ≡ number_of refusal)
