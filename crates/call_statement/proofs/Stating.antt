-- A statement on a sound book, of a user that is there.
use Prim.Native.Nat.{ℕ}
use mathlib.Core.Path.{◌≡◌, refl, ◌∙◌}
use mathlib.Core.List.{List, [], ◌∷◌}
use Rattle.book_rules.specs.Find.{find_user}
use Rattle.book_view.specs.declared.User.{User}
use Rattle.chains.specs.Statements.{statement_at}
use Rattle.call_rules.specs.Changes.{applied}
use Rattle.call_rules.specs.Rules.{◌unless◌, refused_by}
use Rattle.call_rules.specs.Refusals.{look_at, present}
use Rattle.call_rules.specs.Calls.{Call, statement, named_by, rules_of, change_of, booked}
use Rattle.statements.specs.declared.Sums.{Sums}
use Rattle.statements.specs.InnerWalk.{sums_of}
use Rattle.call_answers.specs.Answers.{Answered}
use Rattle.call_answers.proofs.Answers.{past-6, accepted}
use Rattle.call_answers.proofs.Named.{Named, named-some, index-is}

module _ (b : List ℕ) (n : ℕ) where
  abbrev c : Call
  c = statement n

  pub statement-order : refused_by (rules_of (look_at b (named_by c)) c) ≡ refused_by ((6 unless present (look_at b (named_by c))) ∷ [])
  unfolding rules_of named_by look_at
  statement-order = refl

  module _ {user : User} (k : Named b n user) where
    pub stated : Answered b c 0 0 0 b
    unfolding booked applied change_of named_by refused_by
    stated = accepted b c k.sound 0 b (past-6 b c [] statement-order (named-some b n user k)) refl

    pub sums-stated : {sums : Sums} → sums ≡ sums_of (statement_at user.book.bytes.now user.index.0) → sums ≡ sums_of (statement_at b (find_user b n))
    sums-stated e = e ∙ rw (k.bytes, index-is b n user k)
