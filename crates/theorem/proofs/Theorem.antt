-- THE THIRD DEMAND, over the functions themselves.
use Prim.Native.Nat.{ℕ}
use mathlib.Core.Path.{◌≡◌, refl, ap, sym, subst, subst₂, ◌∙◌}
use mathlib.Core.Bool.{Bool, true, false, cond}
use mathlib.Core.List.{List, [], ◌∷◌}
use mathlib.Core.Option.{Option, none, some}
use native.Mathlib.Omega.{arith}
use borrow.Author.Tests.{eq-eqb}
use lib.ListN.{length}
use Rattle.book_rules.specs.Book.{length_fits, fresh_book}
use Rattle.check_book.specs.Verdicts.{fresh_answer, fresh_after}
use Rattle.check_book.proofs.Contract.{fresh-says}
use Rattle.std.specs.Prelude.{Result, Ok, Err, IfOk}
use Rattle.refusals.specs.declared.Refusal.{Refusal}
use Rattle.refusals.specs.Refusals.{refusal_in, record_in}
use Rattle.ledger.specs.Ledger.{Ledger, Statement, enrolled}
use Rattle.chains.specs.Statements.{statement_at}
use Rattle.book_rules.specs.Find.{find_user}
use Rattle.call_rules.specs.Calls.{Call, enrol, elect, advance, close, statement, charge, named_by, refusal_of, record_named}
use Rattle.statements.specs.InnerWalk.{sums_of, statement_in}
use Rattle.ledger.specs.Accounting.{Accounts}
use Rattle.statements.specs.declared.Sums.{Sums}
use Rattle.call_statement.proofs.Contract.{statement-says}
use Rattle.call_statement.proofs.statement.Reads as statement-of
use Rattle.ledger_agrees.specs.Lists.{Made, calls_of, Runs, made_of, book_after_all}
use Rattle.ledger_agrees.specs.Fed.{posted, is_for, ledger_of, value_fed, Enrols, here, later, NoneDamaged}
use Rattle.ledger_agrees.specs.Charged.{ChargesKept}
use Rattle.ledger_agrees.proofs.Theorem as demand
use Rattle.theorem.specs.Runs.{Calls}
use Rattle.theorem.specs.Claims.{Claim, ThirdDemand, EveryList}
use Rattle.theorem.proofs.Steps.{run_typed, run-leaves, run-answers, possible, made-calls}

-- a number that the list enrolled has a ledger at its end
posted-some : (c : Call) (l : Ledger) → (k : Ledger) × (posted c (some l) ≡ some k)
unfolding posted
posted-some (enrol n d o) l = (_, refl)
posted-some (elect n o y m d) l = (_, refl)
posted-some (advance n y r p e₁ e₂) l = (_, refl)
posted-some (close s) l = (_, refl)
posted-some (statement n) l = (_, refl)
posted-some (charge n) l = (_, refl)

stays : (number : ℕ) (ms : List Made) (l : Ledger) → (k : Ledger) × (ledger_of number ms (some l) ≡ some k)
unfolding ledger_of
stays number [] l = (l, refl)
stays number (m ∷ ms) l = by-test (is_for number m) (λ k. stays number ms k)
  where
    by-test : (t : Bool) → ((k : Ledger) → (k' : Ledger) × (ledger_of number ms (some k) ≡ some k'))
        → (k : Ledger) × (ledger_of number ms (cond t (posted m.call (some l)) (some l)) ≡ some k)
    by-test true rest = let p = posted-some m.call l in let q = rest p.0 in (q.0, rw p.1 q.1)
    by-test false rest = rest l

has-ledger : {number : ℕ} {ms : List Made} → Enrols number ms → (l : Option Ledger) → (k : Ledger) × (ledger_of number ms l ≡ some k)
unfolding ledger_of is_for posted named_by
has-ledger {number} (here d option ms) l = let q = stays number ms (enrolled d option) in (q.0, rw (eq-eqb number number refl) q.1)
has-ledger {number} (later m ms e) l = has-ledger e (cond (is_for number m) (posted m.call l) l)

-- the sums that a statement answers are the statement of the user's chain
module _ (b : List ℕ) (number : ℕ) (known : refusal_of b (statement number) ≡ 0) where
  sums-back : statement_in (sums_of (statement_at b (find_user b number))) ≡ statement_at b (find_user b number)
  unfolding statement_in sums_of
  sums-back =
      refl

  -- .. and what holds of it holds of the answer
  answered-so : (P : Statement → Type 0) → P (statement_at b (find_user b number)) → (r : Result Sums Refusal)
      → IfOk r (λ sums. sums ≡ sums_of (statement_at b (find_user b number))) → IfOk r (λ sums. P (statement_in sums))
  answered-so P holds (Ok sums) e = subst (λ x. P (statement_in x)) (sym e) (subst P (sym sums-back) holds)
  answered-so P holds (Err refusal) e = tt

  statement-answers : (P : Statement → Type 0) → P (statement_at b (find_user b number))
      → (κs : _) (a : _) (r : _) (s : _) → statement-of.Post κs a r s → a.0.now ≡ b → a.1.0.0 ≡ number
      → (refusal_in r ≡ 0) × (record_in (λ sums. 0) r ≡ 0) × IfOk r (λ sums. P (statement_in sums))
  unfolding record_named
  statement-answers P holds κs a r s p is-book is_number =
      let says = statement-says κs a r s p in
      let zero : refusal_in r ≡ 0 = says.0.refusal_is ∙ rw (is-book, is_number, known) in
      let sums : IfOk r (λ x. x ≡ sums_of (statement_at b (find_user b number)))
      = subst₂ (λ c n. IfOk r (λ x. x ≡ sums_of (statement_at c (find_user c n)))) is-book is_number says.1 in
      (zero, says.0.record_is ∙ rw zero refl, answered-so P holds r sums)

-- the claim, from the demand over the definitions
module _ (b : List ℕ) (fits : length_fits b ≡ true) (ms : List Made) (b' : List ℕ) (run : Runs Calls (fresh_book (length b)) ms b') where
  left : b' ≡ book_after_all (fresh_book (length b)) (calls_of ms)
  left = run-leaves run

  none-damaged : NoneDamaged ms
  none-damaged = subst NoneDamaged (sym (run-answers run)) (demand.never-damaged b fits (calls_of ms) (run_typed run))

  claimed : (number : ℕ) → Enrols number ms → Claim ms b' number
  claimed number e =
      let l = has-ledger e none in
      let fed = ap (λ (xs : List Made). ledger_of number xs none) (sym (run-answers run)) ∙ l.1 in
      let d = demand.third-demand b fits (calls_of ms) (run_typed run) number l.0 fed in
      let known : refusal_of b' (statement number) ≡ 0 = rw left d.answered in
      let right : Accounts l.0 (value_fed number l.0.details ms) (statement_at b' (find_user b' number)) =
      subst₂ (λ (x : List ℕ) (xs : List Made). Accounts l.0 (value_fed number l.0.details xs) (statement_at x (find_user x number))) (sym left) (sym (run-answers run)) d.right in
      record {
        ledger = l.0;
        fed = l.1;
        statement = statement-answers b' number known (Accounts l.0 (value_fed number l.0.details ms)) right;
        charges = subst (λ (x : List ℕ). ChargesKept x number l.0) (sym left) d.charges;
      }

-- an accepted fresh had a length that fits, and left the fresh book
fresh-fits : (b : List ℕ) → fresh_answer b ≡ 0 → length_fits b ≡ true
unfolding fresh_answer
fresh-fits b h = by_value (length_fits b) h
  where
    by_value : (t : Bool) → ◌≡◌ {A = ℕ} (cond t 0 1) 0 → t ≡ true
    by_value true p = refl
    by_value false p = let z : ⊥ = omega (arith, p) in absurd z

fresh-left : (b : List ℕ) → length_fits b ≡ true → fresh_after b ≡ fresh_book (length b)
unfolding fresh_after
fresh-left b fits = rw fits

pub third-demand : ThirdDemand
third-demand κs a r s said accepted ms b run =
    let says = fresh-says κs a r s said in
    let start = a.0.now in
    let fits = fresh-fits start (sym says.0 ∙ accepted) in
    let from = subst (λ x. Runs Calls x ms b) (says.1 ∙ fresh-left start fits) run in
    (none-damaged start fits ms b from, claimed start fits ms b from)

pub every-list : EveryList
every-list κs a r s said accepted cs typed =
    let says = fresh-says κs a r s said in
    let start = a.0.now in
    let fits = fresh-fits start (sym says.0 ∙ accepted) in
    let fresh = fresh_book (length start) in
    record {
      made_as = made_of fresh cs;
      after = book_after_all fresh cs;
      run =
          subst (λ x. Runs Calls x (made_of fresh cs) (book_after_all fresh cs)) (sym (says.1 ∙ fresh-left start fits))
          (possible fresh cs typed);
      calls = made-calls fresh cs;
    }
