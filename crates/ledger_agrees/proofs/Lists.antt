-- Along a list of calls what the book holds of each user follows its steps, and the ledger follows its own; so the demand holds
-- at the list's end.
use Prim.Native.Nat.{ℕ, ◌+◌}
use mathlib.Core.Path.{◌≡◌, refl, ap, ap₂, sym, ◌∙◌, subst, subst₂}
use mathlib.Core.Bool.{Bool, true, false, cond}
use mathlib.Core.List.{List, [], ◌∷◌}
use mathlib.Core.Option.{Option, none, some}
use native.Mathlib.Nat.{add-zero, zero-add}
use native.Mathlib.Omega.{arith}
use borrow.Author.Tests.{eqb-true, eqb-false}
use lib.Dec.{eqb}
use Rattle.sheet_values.specs.declared.Details.{Details}
use Rattle.book_rules.specs.Book.{is_user}
use Rattle.book_rules.specs.Find.{find_user}
use Rattle.ledger.specs.Ledger.{Ledger, sum_all, statement_of}
use Rattle.ledger.specs.Accounting.{Accounts}
use Rattle.ledger.proofs.Kept.{Kept, accounts}
use Rattle.chains.specs.Statements.{statement_at}
use Rattle.call_rules.specs.Rules.{refused_by}
use Rattle.call_rules.specs.Refusals.{look_at}
use Rattle.call_rules.specs.Calls.{Call, statement, named_by, rules_of, refusal_of, booked, book_after, Typed, AllTyped}
use Rattle.call_keeps.proofs.Good.{Good, good-sound}
use Rattle.call_keeps.proofs.Numbers.{found}
use Rattle.ledger_views.specs.Views.{View, withheld_of, view_at, view_of, step_of}
use Rattle.ledger_agrees.specs.Charged.{withheld_on, rest_at, ChargesKept}
use Rattle.ledger_views.proofs.Kept.{view-is, view-none, view-nobody}
use Rattle.ledger_views.proofs.Steps.{Stepped, accepted-step}
use Rattle.ledger_agrees.specs.Lists.{made, made_of, book_after_all}
use Rattle.ledger_agrees.specs.Fed.{posted, is_for, ledger_of, value_by, value_fed}
use Rattle.ledger_agrees.proofs.Statements.{stated, statement-stated}
use Rattle.ledger_agrees.proofs.Ledgers.{Posts, Agrees, State, unknown, known, same-statement, gain_of, in_step, Notes, noted, call-posts}

-- the ledger after a call on the book b
abbrev fed_by : ℕ → List ℕ → Call → Option Ledger → Option Ledger
fed_by n b c m = cond (is_for n (made c (refusal_of b c))) (posted c m) m

-- the outcome of one call for the number n, whose ledger was m: `gain` is the value that the call adds
pub record Moved (b : List ℕ) (n : ℕ) (m : Option Ledger) (x : ℕ) (c : Call) : Type 0 where
  pub gain : ℕ
  pub good : Good (book_after b c)
  pub state : State (view_of (book_after b c) n) (fed_by n b c m) (x + gain)
  pub noted-before : (d : Details) → Notes (fed_by n b c m) d → Notes m d × (gain ≡ cond (is_for n (made c (refusal_of b c))) (value_by d c) 0)

module _ (b : List ℕ) (g : Good b) (n : ℕ) (m : Option Ledger) (x : ℕ) (st : State (view_of b n) m x) (c : Call) where
  -- a call that is not fed to the ledger leaves what the book holds of the user
  still : Good (book_after b c) → view_of (book_after b c) n ≡ view_of b n → is_for n (made c (refusal_of b c)) ≡ false → Moved b n m x c
  still good same other =
      record {
        gain = 0;
        good = good;
        state = subst₂ (λ (v : Option View) (k : ℕ). State v (cond (is_for n (made c (refusal_of b c))) (posted c m) m) k) (sym same) (sym (add-zero x)) (rw other st);
        noted-before = λ d h. rw other ((rw other at h), refl);
      }

  fed-to : Good (book_after b c) → view_of (book_after b c) n ≡ step_of c (view_of b n) → is_for n (made c (refusal_of b c)) ≡ true
      → State (step_of c (view_of b n)) (posted c m) (x + gain_of c m) → ((d : Details) → Notes (posted c m) d → Notes m d × (gain_of c m ≡ value_by d c)) → Moved b n m x c
  fed-to good step own after notes =
      record {
        gain = gain_of c m;
        good = good;
        state = subst (λ (v : Option View). State v (cond (is_for n (made c (refusal_of b c))) (posted c m) m) (x + gain_of c m)) (sym step) (rw own after);
        noted-before = λ d h. rw own (notes d (rw own at h));
      }

-- any call
pub moves : (b : List ℕ) → Good b → (n : ℕ) (m : Option Ledger) (x : ℕ) → State (view_of b n) m x → (c : Call) → Typed c → Moved b n m x c
unfolding book_after is_for
moves b g n m x st c t = by_answer (eqb (refusal_of b c) 0) refl
  where
    by_number : eqb (refusal_of b c) 0 ≡ true → Stepped b (booked b c) c n → (own : Bool) → eqb (named_by c) n ≡ own → Moved b n m x c
    by_number r s true e =
        let zero = eqb-true (refusal_of b c) 0 r in
        let names = eqb-true (named_by c) n e in
        let posts = subst (λ (k : ℕ). Posts c (view_of b k)) names (call-posts b g c zero) in
        fed-to b g n m x st c (rw r s.good) (rw r (s.view ∙ rw e)) (rw (r, e)) (in_step c (view_of b n) m x posts st) (noted c (view_of b n) m x posts st)
    by_number r s false e = still b g n m x st c (rw r s.good) (rw r (s.view ∙ rw e)) (rw (r, e))

    by_answer : (a : Bool) → eqb (refusal_of b c) 0 ≡ a → Moved b n m x c
    by_answer true r = by_number r (accepted-step b g n c t (eqb-true (refusal_of b c) 0 r)) (eqb (named_by c) n) refl
    by_answer false r = still b g n m x st c (rw r g) (rw r) (rw r)

-- after a list of calls the ledger, if there is one, agrees with what the book holds
pub record After (b : List ℕ) (n : ℕ) (m : Option Ledger) (x : ℕ) (cs : List Call) (l : Ledger) : Type 0 where
  pub good : Good (book_after_all b cs)
  pub state : State (view_of (book_after_all b cs) n) (some l) (x + value_fed n l.details (made_of b cs))
  pub notes : Notes m l.details

-- the demand over the definitions of the calls: the statement is accepted, and its figures are right
pub record Demanded (b : List ℕ) (cs : List Call) (number : ℕ) (l : Ledger) : Type 0 where
  pub answered : refusal_of (book_after_all b cs) (statement number) ≡ 0
  pub right : Accounts l (value_fed number l.details (made_of b cs)) (statement_at (book_after_all b cs) (find_user (book_after_all b cs) number))
  pub charges : ChargesKept (book_after_all b cs) number l

module _ (n : ℕ) where
  pub run : (cs : List Call) (b : List ℕ) → Good b → AllTyped cs → (m : Option Ledger) (x : ℕ) → State (view_of b n) m x → (l : Ledger) → ledger_of n (made_of b cs) m ≡ some l
      → After b n m x cs l
  unfolding book_after_all made_of ledger_of value_fed AllTyped
  run [] b g t m x st l e =
      record {
        good = g;
        state = subst₂ (State (view_of b n)) e (sym (add-zero x)) st;
        notes = subst (λ (k : Option Ledger). Notes k l.details) (sym e) refl;
      }
  run (c ∷ cs) b g t m x st l e =
      let one = moves b g n m x st c t.0 in
      let rest = run cs (book_after b c) one.good t.1 (fed_by n b c m) (x + one.gain) one.state l e in
      let before = one.noted-before l.details rest.notes in
      record {
        good = rest.good;
        state = subst (State (view_of (book_after_all (book_after b c) cs) n) (some l)) (omega (arith, before.1)) rest.state;
        notes = before.0;
      }

  -- what the book holds of a user with a ledger
  held : (b : List ℕ) → Good b → (l : Ledger) (x : ℕ) {v : Option View} {m : Option Ledger} → State v m x → view_of b n ≡ v → m ≡ some l
      → (Kept x l) × (eqb (find_user b n) 0 ≡ false) × (statement_at b (find_user b n) ≡ statement_of l) × ChargesKept b n l
  held b g l x unknown is e = let z : ◌≡◌ {A = ℕ} 0 1 = cc in let w : ⊥ = omega arith in absurd w
  held b g l x (known {v = v} {l = k} agrees kept) is e = by_place (eqb (find_user b n) 0) refl
    where
      same : k ≡ l
      same = cc

      by_place : (t : Bool) → eqb (find_user b n) 0 ≡ t → (Kept x l) × (eqb (find_user b n) 0 ≡ false) × (statement_at b (find_user b n) ≡ statement_of l) × ChargesKept b n l
      by_place true z =
          let none-there : view_of b n ≡ none = view-nobody b n z in
          let q : ◌≡◌ {A = ℕ} 0 1 = cc in
          let w : ⊥ = omega arith in absurd w
      by_place false z =
          let u = found b n (eqb-false (find_user b n) 0 z) in
          let at : some (view_at b (find_user b n)) ≡ some v = sym (view-is b g.faultless n (find_user b n) u.user u.number_is) ∙ is in
          let is_view : view_at b (find_user b n) ≡ v = cc in
          let right = subst (Kept x) same kept in
          let agreed = subst (Agrees v) same agrees in
          let each : withheld_on b n ≡ l.withheld = ap (λ (w : View). withheld_of w.entries) is_view ∙ agreed.withheld in
          let rest : rest_at b n ≡ l.rest = ap (λ (w : View). w.account.charge.rest.0) is_view ∙ agreed.rest in
          let kept-sum : l.charges ≡ sum_all (withheld_on b n) + rest_at b n = right.charged ∙ sym (ap₂ (λ (ws : List ℕ) (r : ℕ). sum_all ws + r) each rest) in
          (right, z, statement-stated b g.faultless (find_user b n) u.user ∙ ap stated is_view ∙ same-statement v l agreed right, record { charges = kept-sum; each = each; rest = rest })

  -- from a book without a user
  pub demanded : (cs : List Call) (b : List ℕ) → Good b → ((i : ℕ) → is_user b i ≡ true → ⊥) → AllTyped cs → (l : Ledger) → ledger_of n (made_of b cs) none ≡ some l
      → Demanded b cs n l
  unfolding refusal_of refused_by rules_of look_at named_by
  demanded cs b g empty t l e =
      let start : State (view_of b n) none 0 = subst (λ (v : Option View). State v none 0) (sym (view-none b n (λ i u q. empty i u))) unknown in
      let after = run cs b g t none 0 start l e in
      let b' = book_after_all b cs in
      let h = held b' after.good l (0 + value_fed n l.details (made_of b cs)) after.state refl refl in
      let value : Kept (value_fed n l.details (made_of b cs)) l = subst (λ (k : ℕ). Kept k l) (zero-add (value_fed n l.details (made_of b cs))) h.0 in
      record {
        answered = rw (after.good.length, good-sound b' after.good, h.1);
        right = subst (Accounts l (value_fed n l.details (made_of b cs))) (sym h.2) (accounts value);
        charges = h.3;
      }
