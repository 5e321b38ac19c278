-- A charge on a sound book: what its rules come to where the user is there, and the book after it.
use Prim.Native.Nat.{ℕ, ◌+◌, ◌^◌, ◌<◌}
use mathlib.Core.Path.{◌≡◌, refl, ◌∙◌}
use mathlib.Core.List.{List, ◌∷◌}
use native.Mathlib.Omega.{arith}
use Rattle.units.specs.Limits.{max_charge}
use Rattle.account_steps.specs.declared.Account.{Account}
use Rattle.account_steps.specs.Charges.{account_charged}
use Rattle.book_rules.specs.Book.{account_at}
use Rattle.book_rules.specs.Find.{find_user}
use Rattle.book_view.specs.declared.User.{User}
use Rattle.call_rules.specs.Changes.{with_account, applied}
use Rattle.call_rules.specs.Rules.{◌unless◌, refused_by}
use Rattle.call_rules.specs.Refusals.{look_at, present, user_at}
use Rattle.call_rules.specs.Calls.{Call, charge, named_by, rules_of, change_of, booked}
use Rattle.call_keeps.proofs.Widths.{account-within}
use Rattle.call_refusals.specs.Orders.{charge_rules}
use Rattle.call_answers.specs.Answers.{Answered}
use Rattle.call_answers.proofs.Answers.{past-6, accepted}
use Rattle.call_answers.proofs.Named.{Named, named-some, index-is, account-is, account-fits}

module _ (b : List ℕ) (n : ℕ) where
  abbrev c : Call
  c = charge n

  pub charge-order : refused_by (rules_of (look_at b (named_by c)) c) ≡ refused_by ((6 unless present (look_at b (named_by c))) ∷ charge_rules (user_at b n))
  unfolding rules_of named_by look_at
  charge-order = refl

  module _ {user : User} (k : Named b n user) {account : Account} (read : account ≡ account_at user.book.bytes.now user.index.0) where
    pub charge-past-6 : refused_by (rules_of (look_at b (named_by c)) c) ≡ refused_by (charge_rules account)
    unfolding named_by
    charge-past-6 = past-6 b c _ charge-order (named-some b n user k) ∙ rw (account-is b n user k account read)

    -- a rest within its range has room for a charge
    pub rest-room : account.charge.rest.0 + max_charge < 2 ^ 64
    rest-room = let w = account-within account (account-fits b n user k account read) in omega (arith, w.rest, w.charged, w.to)

    pub charge-booked : refused_by (charge_rules account) ≡ 0 → {next : Account} → next ≡ account_charged account
        → {after : List ℕ} → after ≡ with_account user.index.0 next b → Answered b c (find_user b n) 0 user.index.0 after
    unfolding booked applied change_of named_by
    charge-booked none e g =
        let all = accepted b c k.sound (find_user b n) _ (charge-past-6 ∙ none) (g ∙ rw (e, account-is b n user k account read, index-is b n user k)) in
        rw (index-is b n user k) all
