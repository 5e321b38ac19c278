-- An enrolment on a sound book: what its rules come to, and the book after it.
use Prim.Native.Nat.{ℕ, ◌+◌, ◌*◌, ◌^◌, ◌≤◌, ◌<◌}
use mathlib.Core.Path.{◌≡◌, refl, sym, ◌∙◌}
use mathlib.Core.Bool.{Bool, true, not}
use mathlib.Core.List.{List}
use borrow.Author.Tests.{eq-eqb, ne_eqb}
use lib.Dec.{eqb}
use lib.ListN.{length}
use Rattle.std.specs.Prelude.{Option, Some, None, is_some}
use Rattle.units.specs.Limits.{record_length}
use Rattle.sheet_values.specs.declared.Details.{Details}
use Rattle.account_steps.specs.declared.Account.{Account}
use Rattle.book_rules.specs.Book.{used}
use Rattle.book_rules.specs.Find.{find_user}
use Rattle.book_view.specs.declared.User.{User}
use Rattle.check_book.specs.Verdicts.{Accepted, UserFound}
use Rattle.call_rules.specs.Changes.{new_account, enrolled_as, applied}
use Rattle.call_rules.specs.Rules.{refused_by, test_of, without}
use Rattle.call_rules.specs.Refusals.{look_at, has_room}
use Rattle.call_rules.specs.Calls.{Call, enrol, named_by, rules_of, change_of, booked}
use Rattle.call_rules.proofs.Rules.{passes}
use Rattle.call_refusals.specs.Orders.{enrol_rules}
use Rattle.call_answers.specs.Answers.{Answered}
use Rattle.call_answers.proofs.Answers.{accepted}
use Rattle.call_answers.proofs.Named.{named-some}
use Rattle.call_answers.proofs.Rooms.{room-stands, used-small}

-- a number is taken where a user with it is found
taken-is : (b : List ℕ) (n : ℕ) → Accepted b → (found : Option User) → UserFound b n found → not (is_some found) ≡ eqb (find_user b n) 0
taken-is b n a None none = sym (eq-eqb (find_user b n) 0 none)
taken-is b n a (Some user) here = sym (ne_eqb (find_user b n) 0 (named-some b n user (record { sound = a; bytes = here.0; index = here.1 })))

abbrev c : ℕ → Details → ℕ → Call
c n d o = enrol n d o

module _ (b : List ℕ) (n : ℕ) (d : Details) (o : ℕ) (a : Accepted b) (found : Option User) (said : UserFound b n found)
    {taken : Bool} (is : taken ≡ is_some found) {room : Bool} (left : room ≡ has_room b) where
  pub enrol-order : refused_by (rules_of (look_at b (named_by (c n d o))) (c n d o)) ≡ refused_by (enrol_rules n taken d o room)
  unfolding rules_of named_by look_at
  enrol-order = rw (is, taken-is b n a found said, left) refl

  module _ (none : refused_by (enrol_rules n taken d o room) ≡ 0) where
    has-room : has_room b ≡ true
    unfolding test_of without
    has-room = sym left ∙ passes 3 (enrol_rules n taken d o room) refl none

    pub enrol-room : (record_length * used b + record_length ≤ length b) × (used b + 1 < 2 ^ 32)
    enrol-room = (room-stands b a has-room, used-small b a)

    pub enrol-booked : {named : ℕ} → named ≡ used b → {account : Account} → account ≡ new_account n d o
        → {after : List ℕ} → after ≡ enrolled_as account b → Answered b (enrol n d o) (used b) 0 named after
    unfolding booked applied change_of
    enrol-booked e f g = rw e (accepted b (c n d o) a (used b) _ (enrol-order ∙ none) (g ∙ rw f))
