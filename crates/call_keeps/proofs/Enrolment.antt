-- A user enrolled: the new record is a good user, at the front of the chain of users, and the book stays good.
use Prim.Native.Nat.{ℕ, ◌+◌, ◌^◌, ◌<◌}
use mathlib.Core.Path.{◌≡◌, refl, sym, ◌∙◌}
use mathlib.Core.Bool.{true}
use mathlib.Core.List.{List}
use native.Mathlib.Omega.{arith}
use borrow.Author.Tests.{lt-ltb, eq-eqb}
use lib.Dec.{eqb, lit<}
use Rattle.units.proofs.Bools.{and_both}
use Rattle.account_steps.specs.declared.Account.{Account}
use Rattle.book_layout.specs.Fields.{capacity, user_kind}
use Rattle.book_rules.specs.Book.{used, first_user, account_fits, is_user, number_of, user_next_fits, number_is_new, first_entry_fits, first_in_order, in_order}
use Rattle.book_rules.proofs.RecordKinds.{kind-index}
use Rattle.book_rules.proofs.Faultless.{UserGood}
use Rattle.call_keeps.proofs.Bools.{or-stays, or-second}
use Rattle.call_keeps.proofs.Widths.{user-fits}
use Rattle.call_keeps.proofs.Records.{UserAt, user-at}
use Rattle.call_keeps.proofs.Good.{Good}
use Rattle.call_keeps.proofs.Written.{HeadAt, new_user, UserEnrolled, first_below_lem}
use Rattle.call_keeps.proofs.Frame.{Frame, frame-of-old}
use Rattle.call_keeps.proofs.KindsKept.{kind-same, kind-stays}
use Rattle.call_keeps.proofs.Numbers.{apart-new}
use Rattle.call_keeps.proofs.PointersKept.{OneMore, old-pointers, new-pointed, enrolled-pointers}
use Rattle.call_keeps.proofs.RecordsKept.{a-user, old-good}
use Rattle.call_keeps.proofs.Grown.{first-user-fits, new-kind, grown-good}

-- the account of a new user: it fits, no year is closed, and no user has its number
pub record NewAccount (b : List ℕ) (a : Account) : Type 0 where
  pub fits : account_fits a ≡ true
  pub number-below : a.number.0 < 2 ^ 32
  pub no-year : a.open_year ≡ a.details.year
  pub number-free : (j : ℕ) → is_user b j ≡ true → number_of b j ≡ a.number.0 → ⊥

-- what is known of the book after an enrolment
pub record Enrolled (b b' : List ℕ) (a : Account) : Type 0 where
  pub frame : Frame b b' (used b)
  pub good : Good b'
  pub head : HeadAt b' (used b + 1) (used b)
  pub user : UserAt b' (used b) (new_user b a)

module _ (b b' : List ℕ) (a : Account) (g : Good b) (new : NewAccount b a) (room : used b < capacity b) (e : UserEnrolled b b' (new_user b a)) where
  user : UserAt b' (used b) (new_user b a)
  user = user-at b' (used b) (new_user b a) e.new (user-fits (first_user b) 0 a (first_below_lem b g) (lit< tt) new.number-below new.fits)

  frame : Frame b b' (used b)
  frame = frame-of-old b b' (used b) e.length-same (omega (arith, e.head.used-is)) (λ j lo hi. e.others j lo (omega arith))

  pointers : OneMore b b'
  pointers = enrolled-pointers b b' (new_user b a) g.faultless e user refl refl

  next_fits : user_next_fits b' (used b) ≡ true
  unfolding user_next_fits
  next_fits =
      rw user.next
      (or-stays (eqb (first_user b) 0) (is_user b (first_user b)) (λ t. t)
      (λ t. and_both (kind-stays b b' (used b) frame user_kind (first_user b) t) (lt-ltb (first_user b) (used b) (kind-index b user_kind (first_user b) t).1.0))
      (first-user-fits b g.faultless.head))

  number-is-new : number_is_new b' (used b) ≡ true
  number-is-new =
      apart-new b' (used b)
      (λ j lower h same.
      let before : is_user b j ≡ true = sym (kind-same b b' (used b) frame user_kind j lower) ∙ h in
      new.number-free j before (sym (frame.number j before) ∙ same ∙ user.number))

  first_fits : first_entry_fits b' (used b) ≡ true
  unfolding first_entry_fits
  first_fits = rw user.first

  order-good : first_in_order b' (used b) ≡ true
  unfolding first_in_order in_order
  order-good = rw (user.first, user.open_year, user.activation) (eq-eqb a.open_year a.details.year new.no-year)

  user-good : UserGood b' (used b)
  user-good =
      record {
        fits = rw user.account new.fits;
        unnamed = user.unnamed;
        next = next_fits;
        number = number-is-new;
        first = first_fits;
        order = order-good;
        pointed = new-pointed b b' g.faultless pointers;
      }

  pub enrolled-kept : Enrolled b b' a
  enrolled-kept =
      let is-user = new-kind b b' g room e.length-same (used b) e.head user_kind user.kind in
      let stands : is_user b (used b) ≡ true → UserGood b' (used b) = λ h. user-good in
      record {
        frame = frame;
        good =
            grown-good b b' g room e.length-same (used b) e.head e.bytes (or-second (eqb (used b) 0) is-user)
            (old-good b b' (used b) g.faultless frame (old-pointers b b' pointers) stands) (a-user is-user user-good);
        head = e.head;
        user = user;
      }
