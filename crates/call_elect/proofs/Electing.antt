-- An election on a sound book: what its rules come to where the user is there, and the book after it.
use Prim.Native.Nat.{ℕ}
use mathlib.Core.Path.{◌≡◌, refl, ◌∙◌}
use mathlib.Core.List.{List, ◌∷◌}
use Rattle.account_steps.specs.declared.Account.{Account}
use Rattle.account_steps.specs.Account.{account_elected}
use Rattle.book_rules.specs.Book.{account_at}
use Rattle.book_view.specs.declared.User.{User}
use Rattle.call_rules.specs.Changes.{with_account, applied}
use Rattle.call_rules.specs.Rules.{◌unless◌, refused_by}
use Rattle.call_rules.specs.Refusals.{look_at, present, user_at}
use Rattle.call_rules.specs.Calls.{Call, elect, named_by, rules_of, change_of, booked}
use Rattle.call_refusals.specs.Orders.{elect_rules}
use Rattle.call_answers.specs.Answers.{Answered}
use Rattle.call_answers.proofs.Answers.{past-6, accepted}
use Rattle.call_answers.proofs.Named.{Named, named-some, index-is, account-is}

module _ (b : List ℕ) (n o y m d : ℕ) where
  abbrev pub c : Call
  c = elect n o y m d

  pub elect-order : refused_by (rules_of (look_at b (named_by c)) c) ≡ refused_by ((6 unless present (look_at b (named_by c))) ∷ elect_rules (user_at b n) o y m d)
  unfolding rules_of named_by look_at
  elect-order = refl

  module _ {user : User} (k : Named b n user) {account : Account} (read : account ≡ account_at user.book.bytes.now user.index.0) where
    pub elect-past-6 : refused_by (rules_of (look_at b (named_by c)) c) ≡ refused_by (elect_rules account o y m d)
    unfolding named_by
    elect-past-6 = past-6 b c _ elect-order (named-some b n user k) ∙ rw (account-is b n user k account read)

    pub elect-booked : refused_by (elect_rules account o y m d) ≡ 0 → {next : Account} → next ≡ account_elected o account
        → {after : List ℕ} → after ≡ with_account user.index.0 next b → Answered b c 0 0 0 after
    unfolding booked applied change_of named_by
    elect-booked none e g = accepted b c k.sound 0 _ (elect-past-6 ∙ none) (g ∙ rw (e, account-is b n user k account read, index-is b n user k))
