-- Each accepted call takes what the book holds of the user that it names one step on, and leaves every other user.
use Prim.Native.Nat.{ℕ, ◌+◌}
use mathlib.Core.Path.{◌≡◌, refl, ap, sym, ◌∙◌, subst}
use mathlib.Core.Bool.{Bool, true, false, cond, not}
use mathlib.Core.List.{List}
use borrow.Author.Tests.{eqb-true, eqb-false}
use lib.Dec.{eqb}
use lib.ListN.{length}
use Rattle.sheet.specs.YearSheet.{sheet_user}
use Rattle.account_steps.specs.declared.Account.{Account}
use Rattle.book_rules.specs.Book.{used}
use Rattle.book_rules.specs.Find.{find_user}
use Rattle.call_rules.specs.Rules.{test_of}
use Rattle.call_rules.specs.Refusals.{look_at, user_at}
use Rattle.call_rules.specs.Changes.{Change, new_account}
use Rattle.call_rules.specs.Calls.{Call, enrol, elect, advance, close, statement, charge, named_by, rules_of, refusal_of, change_of, booked, Typed}
use Rattle.call_rules.proofs.Orders.{fact}
use Rattle.call_keeps.proofs.Good.{Good}
use Rattle.call_keeps.proofs.Changes.{adds}
use Rattle.call_keeps.proofs.CallsFit.{named-user}
use Rattle.call_keeps.proofs.EveryCall.{call-made, call-keeps}
use Rattle.ledger_views.specs.Views.{view_of, view_after, account_of, step_of}
use Rattle.ledger_views.proofs.Kept.{view-is, For, for-another, own_view, other-view}

-- the account of a number that is there
held-account : (b : List ℕ) → Good b → (n : ℕ) → not (eqb (find_user b n) 0) ≡ true → account_of (view_of b n) ≡ user_at b n
unfolding account_of
held-account b g n there =
    let u = named-user b n there in
    ap account_of (view-is b g.faultless n (find_user b n) u.user u.number_is)

-- the change of an accepted call is for the number that it names, and goes by that user's account
pub record Named (b : List ℕ) (c : Call) : Type 0 where
  pub for : For b (find_user b (named_by c)) (change_of (user_at b (named_by c)) c) (named_by c)
  pub account : change_of (account_of (view_of b (named_by c))) c ≡ change_of (user_at b (named_by c)) c

pub named : (b : List ℕ) → Good b → (c : Call) → refusal_of b c ≡ 0 → Named b c
unfolding change_of new_account test_of rules_of look_at named_by
named b g (enrol n d o) h = record { for = refl; account = refl }
named b g (elect n o y m d) h =
    let there = fact b (elect n o y m d) h 6 in
    record { for = (named-user b n there).number_is; account = ap (λ (a : Account). change_of a (elect n o y m d)) (held-account b g n there) }
named b g (advance n y r p e₁ e₂) h =
    let there = fact b (advance n y r p e₁ e₂) h 6 in
    record { for = (named-user b n there).number_is; account = ap (λ (a : Account). change_of a (advance n y r p e₁ e₂)) (held-account b g n there) }
named b g (close s) h =
    let there = fact b (close s) h 6 in
    record { for = (named-user b (sheet_user s) there).number_is; account = ap (λ (a : Account). change_of a (close s)) (held-account b g (sheet_user s) there) }
named b g (statement n) h = record { for = tt; account = refl }
named b g (charge n) h =
    let there = fact b (charge n) h 6 in
    record { for = (named-user b n there).number_is; account = ap (λ (a : Account). change_of a (charge n)) (held-account b g n there) }

-- the records that an accepted call adds do not hang on the account
unfoldable pub added_by : Call → ℕ
added_by (enrol n d o) = 1
added_by (elect n o y m d) = 0
added_by (advance n y r p e₁ e₂) = 1
added_by (close s) = 1
added_by (statement n) = 0
added_by (charge n) = 0

added-by : (a : Account) (c : Call) → adds (change_of a c) ≡ added_by c
unfolding adds change_of added_by
added-by a (enrol n d o) = refl
added-by a (elect n o y m d) = refl
added-by a (advance n y r p e₁ e₂) = refl
added-by a (close s) = refl
added-by a (statement n) = refl
added-by a (charge n) = refl

pub record Stepped (b b' : List ℕ) (c : Call) (n : ℕ) : Type 0 where
  pub good : Good b'
  pub length-same : length b' ≡ length b
  pub counted : used b' ≡ used b + added_by c
  pub view : view_of b' n ≡ cond (eqb (named_by c) n) (step_of c (view_of b n)) (view_of b n)

pub accepted-step : (b : List ℕ) → Good b → (n : ℕ) (c : Call) → Typed c → refusal_of b c ≡ 0 → Stepped b (booked b c) c n
unfolding step_of
accepted-step b g n c t h =
    let k = call-keeps b g c t h in
    record {
      good = k.good;
      length-same = k.frame.length-same;
      counted = k.counted ∙ ap (λ (x : ℕ). used b + x) (added-by (user_at b (named_by c)) c);
      view = by_number (eqb (named_by c) n) refl;
    }
  where
    i : ℕ
    i = find_user b (named_by c)

    change : Change
    change = change_of (user_at b (named_by c)) c

    by_number : (t : Bool) → eqb (named_by c) n ≡ t → view_of (booked b c) n ≡ cond t (step_of c (view_of b n)) (view_of b n)
    by_number true e =
        let own = own_view b (booked b c) g i change (call-made b g c t h) (named_by c) (named b g c h).for in
        subst (λ (m : ℕ). view_of (booked b c) m ≡ step_of c (view_of b m)) (eqb-true (named_by c) n e)
        (own ∙ ap (λ (x : Change). view_after x (view_of b (named_by c))) (sym (named b g c h).account))
    by_number false e =
        other-view b (booked b c) g i change (call-made b g c t h) n (for-another b i change (named_by c) n (named b g c h).for (eqb-false (named_by c) n e))
