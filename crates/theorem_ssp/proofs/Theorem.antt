-- THE THIRD DEMAND, over the exported functions: by the same demand over the functions beneath.
use Prim.Native.Nat.{ℕ}
use mathlib.Core.Path.{◌≡◌, refl, ap, sym, subst, ◌∙◌}
use mathlib.Core.List.{List}
use Rattle.std.specs.Prelude.{Ok, IfOk}
use Rattle.refusals.specs.Refusals.{nowhere}
use Rattle.units.specs.Units.{user_number}
use Rattle.units.specs.declared.UserNumber.{UserNumber}
use Rattle.ledger.specs.Accounting.{Accounts}
use Rattle.statements.specs.declared.Sums.{Sums}
use Rattle.statements.specs.InnerWalk as statements
use Rattle.book_rules.specs.Find.{find_user}
use Rattle.chains.specs.Statements.{statement_at}
use Rattle.call_statement.specs.Stated.{sums_stated}
use Rattle.ledger_agrees.specs.Lists.{Made}
use Rattle.ledger_agrees.specs.Fed.{value_fed}
use Rattle.theorem.specs.Claims as beneath
use Rattle.theorem.proofs.Replies.{with-numbers, said-so}
use Rattle.theorem.proofs.Theorem as functions
use Rattle.ssp.specs.declared.Sums as ssp
use Rattle.ssp.specs.Flat.{flat_sums}
use Rattle.ssp.proofs.Contract.{statement-says}
use Rattle.theorem_ssp.specs.Exported.{statement_answered, Claim, ThirdDemand, EveryList}
use Rattle.theorem_ssp.proofs.Steps.{lift, flat}

-- an accepted flat answer is the statement of the sums beneath it
same-statement : (b : List ℕ) (number : ℕ) (r : ssp.Sums) → r ≡ flat_sums r.refusal r.«record» (sums_stated b number r.refusal) → r.refusal ≡ 0
    → statement_answered r ≡ statements.statement_in (statements.sums_of (statement_at b (find_user b number)))
unfolding statement_answered flat_sums sums_stated statements.statement_in
same-statement b number r e zero =
    ap statement_answered (e ∙ ap (λ n. flat_sums r.refusal r.«record» (sums_stated b number n)) zero)

module _ (ms : List Made) (b : List ℕ) (number : ℕ) (c : beneath.Claim ms b number) where
  claimed : Claim ms b number
  claimed =
      record {
        ledger = c.ledger;
        fed = c.fed;
        statement = λ κs a r s p is-book is_number.
            let said = statement-says κs a r s p in
            let right = Accounts c.ledger (value_fed number c.ledger.details ms) in
            let f : Sums → ℕ = λ sums. 0 in
            let v = statements.sums_of (statement_at a.0.now (find_user a.0.now a.1.0)) in
            let g = with-numbers f v nowhere said.0 (λ e. refl) in
            let brought : UserNumber × Unit {0} = (user_number a.1.0, tt) in
            let under = c.statement κs (a.0, brought) g.answer (s.0, brought) (said-so f v nowhere said.0 g, g.value) is-book is_number in
            let zero = sym g.refusal-is ∙ under.0 in
            let answered = subst (λ x. IfOk x (λ sums. right (statements.statement_in sums))) (g.accepted zero) under.2 in
            (zero, sym g.record-is ∙ under.1, subst right (sym (same-statement a.0.now a.1.0 r said.1 zero)) answered);
        charges = c.charges;
      }

pub third-demand : ThirdDemand
third-demand κs a r s said accepted ms b run =
    let under = functions.third-demand κs a (Ok tt) s (sym accepted ∙ said.0, said.1) refl ms b (lift run) in
    (under.0, λ number e. claimed ms b number (under.1 number e))

pub every-list : EveryList
every-list κs a r s said accepted cs typed =
    let under = functions.every-list κs a (Ok tt) s (sym accepted ∙ said.0, said.1) refl cs typed in
    record { made_as = under.made_as; after = under.after; run = flat under.run; calls = under.calls }
