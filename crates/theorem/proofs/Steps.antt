-- One call of a run: what it says and leaves is what its definition has, and it can be made, whatever it brings; so for every list.
use Prim.Native.Nat.{ℕ}
use mathlib.Core.Path.{◌≡◌, refl, sym, ap, ap₂, ◌∙◌, subst, subst₂}
use mathlib.Core.List.{List, ◌∷◌, []}
use Rattle.call_rules.specs.Calls.{Call, refusal_of, book_after, enrol, elect, advance, close, statement, charge, named_by, rules_of, change_of, booked, record_named, AllTyped}
use Rattle.call_answers.specs.Answers.{Answered}
use Rattle.call_enrol.proofs.Contract.{enrol-says}
use Rattle.call_elect.proofs.Contract.{elect-says}
use Rattle.call_charge.proofs.Contract.{charge-says}
use Rattle.call_advance.proofs.Contract.{advance-says}
use Rattle.call_close.proofs.Contract.{close-says}
use Rattle.call_statement.proofs.Contract.{statement-says}
use Rattle.ledger_agrees.specs.Lists.{Made, made, calls_of, Runs, done, and_then, made_of, book_after_all}
use Rattle.theorem.specs.Runs.{Calls, enrols, elects, advances, closes, charges, states}
use mathlib.Core.Bool.{Bool, true, false, cond, not}
use lib.Dec.{eqb}
use denote.Ref.{Bor}
use denote.MutBor.{MutBor}
use Rattle.units.specs.Units.{record_index, user_number, ticks}
use Rattle.units.specs.declared.RecordIndex.{RecordIndex}
use Rattle.units.specs.declared.Ticks.{Ticks}
use Rattle.units.specs.declared.Rate.{Rate}
use Rattle.units.specs.declared.WideKwh.{WideKwh}
use Rattle.refusals.specs.declared.Position.{Position}
use Rattle.refusals.specs.Refusals.{nowhere, refusal_in, record_in}
use Rattle.sheet.specs.YearSheet.{sheet_user, sheet_year, refused11, refused14, tells, Tells, Past13}
use Rattle.sheet.proofs.Faults.{telling}
use Rattle.sheet_values.specs.YearsValues.{year_values}
use Rattle.account_steps.specs.declared.ClosingSums.{ClosingSums}
use Rattle.account_steps.specs.Account.{settled}
use Rattle.chains.specs.Statements.{statement_at}
use Rattle.statements.specs.declared.Sums.{Sums}
use Rattle.statements.specs.InnerWalk.{sums_of}
use Rattle.book_rules.specs.Find.{find_user}
use Rattle.book_rules.specs.Book.{length_fits, used, sound}
use Rattle.call_rules.specs.Refusals.{look_at, present, year_open, user_at}
use Rattle.call_rules.specs.Rules.{refused_by}
use Rattle.call_rules.specs.Changes.{applied, run_amount}
use Rattle.theorem.proofs.Replies.{Given, with-numbers, said-so}

-- WHAT A CALL SAYS

-- what a call answers and leaves is what its definition has
pub record Said (b : List ℕ) (m : Made) (b' : List ℕ) : Type 0 where
  pub refusal_is : m.refusal ≡ refusal_of b m.call
  pub book-is : b' ≡ book_after b m.call

answered : {b : List ℕ} {c : Call} {answer refusal named : ℕ} {b' : List ℕ} → Answered b c answer refusal named b' → Said b (made c refusal) b'
answered x = record { refusal_is = x.refusal_is; book-is = x.book-is }

pub said : (b : List ℕ) (m : Made) (b' : List ℕ) → Calls b m b' → Said b m b'
said b m b' (enrols κs a r s p) = answered (enrol-says κs a r s p)
said b m b' (elects κs a r s p) = answered (elect-says κs a r s p)
said b m b' (advances κs a r s p) = answered (advance-says κs a r s p).0
said b m b' (closes κs a r s p) = answered (close-says κs a r s p).0
said b m b' (charges κs a r s p) = answered (charge-says κs a r s p)
said b m b' (states κs a r s p) = answered (statement-says κs a r s p).0

pub run_typed : {b b'' : List ℕ} {ms : List Made} → Runs Calls b ms b'' → AllTyped (calls_of ms)
unfolding calls_of AllTyped
run_typed (done b) = tt
run_typed (and_then b b' b'' m ms c t rest) = (t, run_typed rest)

pub run-leaves : {b b'' : List ℕ} {ms : List Made} → Runs Calls b ms b'' → b'' ≡ book_after_all b (calls_of ms)
unfolding calls_of book_after_all
run-leaves (done b) = refl
run-leaves (and_then b b' b'' m ms c t rest) = run-leaves rest ∙ ap (λ x. book_after_all x (calls_of ms)) (said b m b' c).book-is

pub run-answers : {b b'' : List ℕ} {ms : List Made} → Runs Calls b ms b'' → ms ≡ made_of b (calls_of ms)
unfolding calls_of made_of
run-answers (done b) = refl
run-answers (and_then b b' b'' m ms c t rest) =
    let x = said b m b' c in
    let later = run-answers rest ∙ ap (λ (y : List ℕ). made_of y (calls_of ms)) x.book-is in
    ap₂ (λ (n : ℕ) (ms' : List Made). made m.call n ∷ ms') x.refusal_is later

-- THAT A CALL CAN BE MADE

-- a buffer that holds these bytes, lent to be written
abbrev pub lent : List ℕ → MutBor (List ℕ)
lent b = record { ref_ptr = (0, 0); ghost_name = 0; now = b }

-- .. and lent to be read only
abbrev shown : List ℕ → Bor (List ℕ)
shown b = record { ref_ptr = (0, 0); now = b }

-- an answer that tells no position
record Other (n : ℕ) : Type 0 where
  told-not : tells n ≡ false

other : (n : ℕ) → tells n ≡ false → Other n
other n e = record { told-not = e }

or_else : (t : Bool) {x y : ℕ} → Other x → Other y → Other (cond t x y)
or_else true h k = h
or_else false h k = k

module _ (b : List ℕ) where
  right : (c : Call) (answered : ℕ) → Answered b c answered (refusal_of b c) (record_named b (refusal_of b c) answered) (book_after b c)
  right c answered = record { refusal_is = refl; record_is = refl; book-is = refl }

  stated-left : (n : ℕ) → book_after b (statement n) ≡ b
  unfolding book_after booked applied change_of
  stated-left n = by_value (eqb (refusal_of b (statement n)) 0)
    where
      by_value : (t : Bool) → cond t b b ≡ b
      by_value true = refl
      by_value false = refl

  -- a sheet past 13 is refused with neither 13 nor 19
  others : (s : List ℕ) → Past13 s → tells (refusal_of b (close s)) ≡ false
  unfolding refusal_of refused_by rules_of named_by
  others s past =
      let v = look_at b (sheet_user s) in
      let by-room = or_else v.room (other 0 refl) (other 3 refl) in
      let by-14 = or_else (not (refused14 v.account.details.class s)) by-room (other 14 refl) in
      let by-year = or_else (year_open v.account (sheet_year s)) by-14 (other 12 refl) in
      let by-user = or_else (present v) by-year (other 6 refl) in
      let by-header = or_else (not (refused11 s)) by-user (other 11 refl) in
      let by-book = or_else (length_fits b) (or_else (sound b) by-header (other 2 refl)) (other 1 refl) in
      let answer : Other (refusal_of b (close s)) = rw (past.0, past.1) by-book in
      answer.told-not

  -- an answer to the call with its numbers, and its value where it is accepted
  module _ {A : Type 0} (f : A → ℕ) (v : A) (c : Call) where
    abbrev replied : (p : Position) → (tells (refusal_of b c) ≡ false → p ≡ nowhere) → Given f v (refusal_of b c) (record_named b (refusal_of b c) (f v)) p
    replied p zeros = with-numbers f v p (right c (f v)) zeros

    performs : (after : List ℕ) (p : Position) (g : Given f v (refusal_of b c) (record_named b (refusal_of b c) (f v)) p)
        → Calls b (made c (refusal_in g.answer)) after → Calls b (made c (refusal_of b c)) after
    performs after p g = subst (λ n. Calls b (made c n) after) g.refusal-is

  performed : (c : Call) → Calls b (made c (refusal_of b c)) (book_after b c)
  performed (enrol n d o) =
      let c = enrol n d o in
      let f : RecordIndex → ℕ = λ i. i.0 in
      let v = record_index (used b) in
      let g = replied f v c nowhere (λ e. refl) in
      performs f v c (book_after b c) nowhere g
      (enrols ([], tt) (lent b, (user_number n, (d, (o, tt)))) g.answer (lent (book_after b c), (user_number n, (d, (o, tt)))) (said-so f v nowhere (right c (used b)) g))
  performed (elect n o y m d) =
      let c = elect n o y m d in
      let f : Unit {0} → ℕ = λ u. 0 in
      let g = replied f tt c nowhere (λ e. refl) in
      performs f tt c (book_after b c) nowhere g
      (elects ([], tt) (lent b, (user_number n, (o, (y, (m, (d, tt)))))) g.answer (lent (book_after b c), (user_number n, (o, (y, (m, (d, tt))))))
      (said-so f tt nowhere (right c 0) g))
  performed (advance n y r p e₁ e₂) =
      let c = advance n y r p e₁ e₂ in
      let price : Rate = record { 0 = p } in
      let estimate1 : WideKwh = record { 0 = e₁ } in
      let estimate2 : WideKwh = record { 0 = e₂ } in
      let f : Ticks → ℕ = λ t. 0 in
      let v = ticks (run_amount (user_at b n) y r p e₁ e₂) in
      let g = replied f v c nowhere (λ e. refl) in
      performs f v c (book_after b c) nowhere g
      (advances ([], tt) (lent b, (user_number n, (y, (r, (price, (estimate1, (estimate2, tt))))))) g.answer
      (lent (book_after b c), (user_number n, (y, (r, (price, (estimate1, (estimate2, tt))))))) (said-so f v nowhere (right c 0) g, g.value))
  performed (close s) =
      let c = close s in
      let at = telling s (refusal_of b c) (others s) in
      let f : ClosingSums → ℕ = λ x. 0 in
      let v = settled (user_at b (sheet_user s)) (year_values s (user_at b (sheet_user s)).details) in
      let g = replied f v c at.position at.told.zeros in
      performs f v c (book_after b c) at.position g
      (closes ([], ([], tt)) (lent b, (shown s, tt)) g.answer (lent (book_after b c), (shown s, tt))
      (said-so f v at.position (right c 0) g, (subst₂ (Tells s) (sym g.refusal-is) (sym g.position-is) at.told, g.value)))
  performed (charge n) =
      let c = charge n in
      let f : RecordIndex → ℕ = λ i. i.0 in
      let v = record_index (find_user b n) in
      let g = replied f v c nowhere (λ e. refl) in
      performs f v c (book_after b c) nowhere g
      (charges ([], tt) (lent b, (user_number n, tt)) g.answer (lent (book_after b c), (user_number n, tt)) (said-so f v nowhere (right c (find_user b n)) g))
  performed (statement n) =
      let c = statement n in
      let same = stated-left n in
      let f : Sums → ℕ = λ x. 0 in
      let v = sums_of (statement_at b (find_user b n)) in
      let g = replied f v c nowhere (λ e. refl) in
      rw same
      (performs f v c b nowhere g
      (states ([], tt) (shown b, (user_number n, tt)) g.answer (shown b, (user_number n, tt))
      (subst (Answered b c 0 (refusal_in g.answer) (record_in f g.answer)) same (said-so f v nowhere (right c 0) g), g.value)))

pub possible : (b : List ℕ) (cs : List Call) → AllTyped cs → Runs Calls b (made_of b cs) (book_after_all b cs)
unfolding made_of book_after_all AllTyped
possible b [] typed = done b
possible b (c ∷ cs) typed =
    and_then b (book_after b c) (book_after_all (book_after b c) cs) (made c (refusal_of b c)) (made_of (book_after b c) cs) (performed b c) typed.0
    (possible (book_after b c) cs typed.1)

pub made-calls : (b : List ℕ) (cs : List Call) → calls_of (made_of b cs) ≡ cs
unfolding made_of calls_of
made-calls b [] = refl
made-calls b (c ∷ cs) = ap (λ (xs : List Call). c ∷ xs) (made-calls (book_after b c) cs)
