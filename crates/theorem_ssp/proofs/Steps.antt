-- One exported call of a run: it is a call of the function beneath it, and each of those is one of an exported function.
use Prim.Native.Nat.{ℕ}
use mathlib.Core.Path.{◌≡◌, refl, sym, subst, subst₂}
use mathlib.Core.List.{List}
use Rattle.units.specs.declared.RecordIndex.{RecordIndex}
use Rattle.units.specs.declared.UserNumber.{UserNumber}
use Rattle.units.specs.declared.Rate.{Rate}
use Rattle.units.specs.declared.Ticks.{Ticks}
use Rattle.units.specs.declared.WideKwh.{WideKwh}
use Rattle.units.specs.Units.{record_index, user_number, rate, wide_kwh, ticks}
use Rattle.refusals.specs.Refusals.{nowhere, refusal_in, record_in, position_in}
use Rattle.sheet.specs.YearSheet.{sheet_user, Tells}
use Rattle.sheet_values.specs.declared.Details.{Details}
use Rattle.sheet_values.specs.YearsValues.{year_values}
use Rattle.account_steps.specs.declared.ClosingSums.{ClosingSums}
use Rattle.account_steps.specs.Account.{settled}
use Rattle.book_rules.specs.Book.{used}
use Rattle.book_rules.specs.Find.{find_user}
use Rattle.chains.specs.Statements.{statement_at}
use Rattle.statements.specs.declared.Sums.{Sums}
use Rattle.statements.specs.InnerWalk.{sums_of}
use Rattle.call_rules.specs.Calls.{Call}
use Rattle.call_rules.specs.Changes.{run_amount}
use Rattle.call_rules.specs.Refusals.{user_at}
use Rattle.call_advance.specs.Advances.{ticks_answered}
use Rattle.call_close.specs.Closings.{sums_answered}
use Rattle.call_statement.specs.Stated.{sums_stated}
use Rattle.theorem.specs.Runs as beneath
use Rattle.theorem.proofs.Replies.{with-numbers, said-so}
use Rattle.ledger_agrees.specs.Lists.{Made, made, Runs, done, and_then}
use Rattle.ssp.specs.Flat.{details_of, position_of, flat_booked, flat_advanced, flat_closed, flat_sums}
use Rattle.theorem_ssp.specs.Exported.{Calls, enrols, elects, advances, closes, charges, states}

-- FROM THE EXPORTED FUNCTIONS TO THOSE BENEATH

-- a call of the function beneath, by the number of what it answers
beneath-by : (b : List ℕ) (c : Call) {n m : ℕ} (b' : List ℕ) → n ≡ m → beneath.Calls b (made c n) b' → beneath.Calls b (made c m) b'
beneath-by b c b' = subst (λ n. beneath.Calls b (made c n) b')

lift-call : (b : List ℕ) (m : Made) (b' : List ℕ) → Calls b m b' → beneath.Calls b m b'
lift-call b m b' (enrols κs a r s p) =
    let brought : UserNumber × (Details × (ℕ × Unit {0})) = (
      user_number a.1.0,
      (details_of a.1.1.0 a.1.1.1.0 a.1.1.1.1.1.0 a.1.1.1.1.1.1.0 a.1.1.1.1.1.1.1.0 a.1.1.1.1.1.1.1.1.0, (a.1.1.1.1.0, tt)),
    ) in
    let f : RecordIndex → ℕ = λ i. i.0 in
    let v = record_index (used a.0.now) in
    let g = with-numbers f v nowhere p (λ e. refl) in
    beneath-by a.0.now _ s.0.now g.refusal-is (beneath.enrols κs (a.0, brought) g.answer (s.0, brought) (said-so f v nowhere p g))
lift-call b m b' (elects κs a r s p) =
    let brought : UserNumber × (ℕ × (ℕ × (ℕ × (ℕ × Unit {0})))) = (user_number a.1.0, (a.1.1.0, (a.1.1.1.0, (a.1.1.1.1.0, (a.1.1.1.1.1.0, tt))))) in
    let f : Unit {0} → ℕ = λ u. 0 in
    let g = with-numbers f tt nowhere p (λ e. refl) in
    beneath-by a.0.now _ s.0.now g.refusal-is (beneath.elects κs (a.0, brought) g.answer (s.0, brought) (said-so f tt nowhere p g))
lift-call b m b' (advances κs a r s p) =
    let brought : UserNumber × (ℕ × (ℕ × (Rate × (WideKwh × (WideKwh × Unit {0}))))) = (
      user_number a.1.0,
      (a.1.1.0, (a.1.1.1.0, (rate a.1.1.1.1.0, (wide_kwh a.1.1.1.1.1.0, (wide_kwh a.1.1.1.1.1.1.0, tt))))),
    ) in
    let f : Ticks → ℕ = λ t. 0 in
    let v = ticks (run_amount (user_at a.0.now a.1.0) a.1.1.0 a.1.1.1.0 a.1.1.1.1.0 a.1.1.1.1.1.0 a.1.1.1.1.1.1.0) in
    let g = with-numbers f v nowhere p.0 (λ e. refl) in
    beneath-by a.0.now _ s.0.now g.refusal-is
    (beneath.advances κs (a.0, brought) g.answer (s.0, brought) (said-so f v nowhere p.0 g, g.value))
lift-call b m b' (closes κs a r s p) =
    let f : ClosingSums → ℕ = λ x. 0 in
    let account = user_at a.0.now (sheet_user a.1.0.now) in
    let v = settled account (year_values a.1.0.now account.details) in
    let at = position_of r.month r.place in
    let told = p.1.0 in
    let g = with-numbers f v at p.0 told.zeros in
    beneath-by a.0.now _ s.0.now g.refusal-is
    (beneath.closes κs a g.answer s (said-so f v at p.0 g, (subst₂ (Tells a.1.0.now) (sym g.refusal-is) (sym g.position-is) told, g.value)))
lift-call b m b' (charges κs a r s p) =
    let brought : UserNumber × Unit {0} = (user_number a.1.0, tt) in
    let f : RecordIndex → ℕ = λ i. i.0 in
    let v = record_index (find_user a.0.now a.1.0) in
    let g = with-numbers f v nowhere p (λ e. refl) in
    beneath-by a.0.now _ s.0.now g.refusal-is (beneath.charges κs (a.0, brought) g.answer (s.0, brought) (said-so f v nowhere p g))
lift-call b m b' (states κs a r s p) =
    let brought : UserNumber × Unit {0} = (user_number a.1.0, tt) in
    let f : Sums → ℕ = λ x. 0 in
    let v = sums_of (statement_at a.0.now (find_user a.0.now a.1.0)) in
    let g = with-numbers f v nowhere p.0 (λ e. refl) in
    beneath-by a.0.now _ a.0.now g.refusal-is (beneath.states κs (a.0, brought) g.answer (s.0, brought) (said-so f v nowhere p.0 g, g.value))

pub lift : {b b'' : List ℕ} {ms : List Made} → Runs Calls b ms b'' → Runs beneath.Calls b ms b''
lift (done b) = done b
lift (and_then b b' b'' m ms c t rest) = and_then b b' b'' m ms (lift-call b m b' c) t (lift rest)

-- AND BACK

flat-call : (b : List ℕ) (m : Made) (b' : List ℕ) → beneath.Calls b m b' → Calls b m b'
unfolding flat_closed flat_sums
flat-call b m b' (beneath.enrols κs a r s p) =
    let d = a.1.1.0 in
    let brought : ℕ × (ℕ × (ℕ × (ℕ × (ℕ × (ℕ × (ℕ × (ℕ × Unit {0}))))))) =
    (a.1.0.0, (d.class, (d.plant, (a.1.1.1.0, (d.power, (d.year, (d.month, (d.island, tt)))))))) in
    enrols κs (a.0, brought) (flat_booked (refusal_in r) (record_in (λ i. i.0) r)) (s.0, brought) p
flat-call b m b' (beneath.elects κs a r s p) =
    let brought : ℕ × (ℕ × (ℕ × (ℕ × (ℕ × Unit {0})))) = (a.1.0.0, a.1.1) in
    elects κs (a.0, brought) (flat_booked (refusal_in r) (record_in (λ u. 0) r)) (s.0, brought) p
flat-call b m b' (beneath.advances κs a r s p) =
    let brought : ℕ × (ℕ × (ℕ × (ℕ × (ℕ × (ℕ × Unit {0}))))) =
    (a.1.0.0, (a.1.1.0, (a.1.1.1.0, (a.1.1.1.1.0.0, (a.1.1.1.1.1.0.0, (a.1.1.1.1.1.1.0.0, tt)))))) in
    let paid = ticks_answered a.0.now a.1.0.0 a.1.1.0 a.1.1.1.0 a.1.1.1.1.0.0 a.1.1.1.1.1.0.0 a.1.1.1.1.1.1.0.0 (refusal_in r) in
    advances κs (a.0, brought) (flat_advanced (refusal_in r) (record_in (λ t. 0) r) paid) (s.0, brought) (p.0, refl)
flat-call b m b' (beneath.closes κs a r s p) =
    let sums = sums_answered a.0.now a.1.0.now (refusal_in r) in
    closes κs a (flat_closed (refusal_in r) (record_in (λ x. 0) r) (position_in r) sums) s (p.0, (p.1.0, refl))
flat-call b m b' (beneath.charges κs a r s p) =
    let brought : ℕ × Unit {0} = (a.1.0.0, tt) in
    charges κs (a.0, brought) (flat_booked (refusal_in r) (record_in (λ i. i.0) r)) (s.0, brought) p
flat-call b m b' (beneath.states κs a r s p) =
    let brought : ℕ × Unit {0} = (a.1.0.0, tt) in
    let sums = sums_stated a.0.now a.1.0.0 (refusal_in r) in
    states κs (a.0, brought) (flat_sums (refusal_in r) (record_in (λ x. 0) r) sums) (s.0, brought) (p.0, refl)

pub flat : {b b'' : List ℕ} {ms : List Made} → Runs beneath.Calls b ms b'' → Runs Calls b ms b''
flat (done b) = done b
flat (and_then b b' b'' m ms c t rest) = and_then b b' b'' m ms (flat-call b m b' c) t (flat rest)
