-- The user that a call names, as the look at a sound book shows it; its account, and the account's ranges.
use Prim.Native.Nat.{ℕ}
use mathlib.Core.Path.{◌≡◌, sym, ap, subst, ◌∙◌}
use mathlib.Core.Bool.{true}
use mathlib.Core.List.{List, ◌∷◌}
use native.Mathlib.Omega.{arith}
use Rattle.std.specs.Prelude.{Option, Some, None, Result, Ok, Err, ok_or}
use Rattle.refusals.specs.declared.Refusal.{Refusal}
use Rattle.refusals.specs.Refusals.{number_of, record_of}
use Rattle.refusals.specs.declared.Refusal.TheVariants.{UnknownUser}
use Rattle.units.specs.declared.RecordIndex.{RecordIndex}
use Rattle.units.specs.Units.{record_index}
use Rattle.account_steps.specs.declared.Account.{Account}
use Rattle.book_rules.specs.Book.{is_user, account_at, account_fits}
use Rattle.book_rules.specs.Find.{find_user}
use Rattle.book_rules.proofs.Faultless.{sound-faultless}
use Rattle.book_rules.proofs.RecordKinds.{user-index}
use Rattle.book_view.specs.declared.User.{User}
use Rattle.check_book.specs.Verdicts.{Accepted, UserFound}
use Rattle.call_rules.specs.Rules.{Rule, ◌unless◌, refused_by}
use Rattle.call_rules.specs.Refusals.{look_at, present}
use Rattle.call_rules.specs.Calls.{Call, named_by, rules_of}
use Rattle.call_answers.specs.Answers.{Answered}
use Rattle.call_answers.proofs.Answers.{absent}

-- a user of the book with a number
pub record Named (b : List ℕ) (n : ℕ) (user : User) : Type 0 where
  pub sound : Accepted b
  pub bytes : user.book.bytes.now ≡ b
  pub index : user.index ≡ record_index (find_user b n)

module _ (b : List ℕ) (n : ℕ) (user : User) (k : Named b n user) where
  pub index-is : user.index.0 ≡ find_user b n
  index-is = ap (λ (i : RecordIndex). i.0) k.index

  pub is-user : is_user b (find_user b n) ≡ true
  is-user = rw (sym index-is, sym k.bytes) user.user_record

  pub named-some : find_user b n ≡ 0 → ⊥
  named-some none = let place = user-index b (find_user b n) is-user in omega (arith, none, place.0)

  module _ (account : Account) (read : account ≡ account_at user.book.bytes.now user.index.0) where
    pub account-is : account ≡ account_at b (find_user b n)
    account-is = read ∙ rw (k.bytes, index-is)

    pub account-fits : account_fits account ≡ true
    account-fits = rw account-is ((sound-faultless b k.sound.fits k.sound.is_sound).user (find_user b n) is-user).fits

-- what the look says of a user that it found, and where it found none
pub found-named : (b : List ℕ) (n : ℕ) → Accepted b → (found : Option User) → UserFound b n found → (user : User) → found ≡ Some user → Named b n user
found-named b n a found said user some =
    let here = subst (UserFound b n) some said in record { sound = a; bytes = here.0; index = here.1 }

pub found-none : (b : List ℕ) (n : ℕ) (found : Option User) → UserFound b n found → found ≡ None → find_user b n ≡ 0
found-none b n found said none = subst (UserFound b n) none said

abbrev refusal_or : {A : Type 0} → Refusal → Result A Refusal → Refusal
refusal_or other (Ok value) = other
refusal_or other (Err e) = e

pub told-unknown : (found : Option User) (e : Refusal) → ◌≡◌ {A = Result User Refusal} (Err e) (ok_or found UnknownUser) → found ≡ None → e ≡ UnknownUser
told-unknown found e told none =
    let is : ◌≡◌ {A = Result User Refusal} (Err e) (Err UnknownUser) = subst (λ (f : Option User). ◌≡◌ {A = Result User Refusal} (Err e) (ok_or f UnknownUser)) none told in
    ap (refusal_or e) is

-- a call for a number that no user has
pub unknown : (b : List ℕ) (c : Call) {n : ℕ} → n ≡ named_by c → (rest : List Rule)
    → refused_by (rules_of (look_at b (named_by c)) c) ≡ refused_by ((6 unless present (look_at b (named_by c))) ∷ rest)
    → Accepted b → (found : Option User) → UserFound b n found → found ≡ None → (e : Refusal) → ◌≡◌ {A = Result User Refusal} (Err e) (ok_or found UnknownUser)
    → (answered : ℕ) → Answered b c answered (number_of e) (record_of e) b
unknown b c {n} bears rest order a found said none e told answered =
    let h = absent b c rest order a answered (ap (find_user b) (sym bears) ∙ found-none b n found said none) in
    rw (told-unknown found e told none) h
