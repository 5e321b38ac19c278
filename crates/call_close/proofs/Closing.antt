-- A closing on a sound book: what its rules come to, sheet first, then user, and the book after it.
use Prim.Native.Nat.{ℕ}
use mathlib.Core.Path.{◌≡◌, refl, sym, ap, ◌∙◌}
use mathlib.Core.Bool.{Bool, true, false}
use mathlib.Core.List.{List, ◌∷◌}
use native.Mathlib.Omega.{arith}
use borrow.Author.Tests.{eqb-true, leb-true}
use lib.Dec.{eqb, leb}
use Rattle.units.proofs.Bools.{and_left, and_right}
use Rattle.units.specs.Limits.{last_activation}
use Rattle.sheet.specs.YearSheet.{sheet_user, sheet_year, refused11}
use Rattle.sheet_values.specs.declared.YearValues.{YearValues}
use Rattle.sheet_values.specs.YearsValues.{year_values, ValuesFit}
use Rattle.sheet_values.specs.InnerArrays.{ValuesWorked}
use Rattle.account_steps.specs.declared.Account.{Account}
use Rattle.account_steps.specs.declared.ClosingSums.{ClosingSums}
use Rattle.account_steps.specs.Account.{InRange, settled}
use Rattle.book_rules.specs.Book.{account_at, account_fits}
use Rattle.book_view.specs.declared.User.{User}
use Rattle.call_rules.specs.Changes.{applied}
use Rattle.call_rules.specs.Rules.{◌unless◌, refused_by, test_of, without}
use Rattle.call_rules.specs.Refusals.{look_at, present, user_at, has_room, year_open}
use Rattle.call_rules.specs.Calls.{Call, close, named_by, rules_of, change_of, booked}
use Rattle.call_rules.proofs.Rules.{passes}
use Rattle.call_keeps.proofs.Widths.{account-within}
use Rattle.call_refusals.specs.Orders.{close_rules}
use Rattle.call_answers.specs.Answers.{Answered}
use Rattle.call_answers.proofs.Answers.{past-6, accepted}
use Rattle.call_answers.proofs.Named.{Named, named-some, index-is, account-is, account-fits}
use Rattle.call_answers.proofs.Rooms.{entry-fits}
use Rattle.call_close.specs.Closings.{YearFits, year_booked}

-- an open year of an account that fits can be closed
in-range : (a : Account) (v : YearValues) (year : ℕ) → account_fits a ≡ true → ValuesFit v → year_open a year ≡ true → InRange v a
unfolding year_open
in-range a v year fits values is_open =
    let w = account-within a fits in
    let same = eqb-true year a.open_year (and_left (eqb year a.open_year) (leb year last_activation) is_open) in
    let last = leb-true year last_activation (and_right (eqb year a.open_year) (leb year last_activation) is_open) in
    record {
      sums =
          record {
            value = values.value;
            cost = values.cost;
            flat_rate = values.flat_rate;
            credit = omega (arith, w.credit, w.to, w.details.from);
          };
      year = omega (arith, same, last);
    }

module _ (b s : List ℕ) where
  abbrev c : Call
  c = close s

  -- "11 sheet length, header or zero word wrong", whoever the user is
  pub unformed : refused11 s ≡ true → refused_by (rules_of (look_at b (named_by c)) c) ≡ 11
  unfolding refused_by rules_of
  unformed wrong = rw wrong refl

  module _ (right : refused11 s ≡ false) where
    pub close-order : refused_by (rules_of (look_at b (named_by c)) c)
        ≡ refused_by ((6 unless present (look_at b (named_by c))) ∷ close_rules (user_at b (sheet_user s)) s (has_room b))
    unfolding refused_by rules_of named_by look_at
    close-order = rw right refl

    module _ {user : User} (k : Named b (sheet_user s) user) {account : Account} (read : account ≡ account_at user.book.bytes.now user.index.0)
        {room : Bool} (left : room ≡ has_room b) where
      account-there : account ≡ user_at b (sheet_user s)
      account-there = account-is b (sheet_user s) user k account read

      pub close-past-6 : refused_by (rules_of (look_at b (named_by c)) c) ≡ refused_by (close_rules account s room)
      unfolding named_by
      close-past-6 = past-6 b c _ close-order (named-some b (sheet_user s) user k) ∙ rw (account-there, left)

      module _ (none : refused_by (close_rules account s room) ≡ 0) {values : YearValues} (worked : ValuesWorked s account.details values) where
        room-left : has_room b ≡ true
        unfolding test_of without
        room-left = sym left ∙ passes 3 (close_rules account s room) refl none

        is-open : year_open account (sheet_year s) ≡ true
        unfolding test_of without
        is-open = passes 12 (close_rules account s room) refl none

        values-are : values ≡ year_values s (user_at b (sheet_user s)).details
        values-are = worked.are ∙ ap (λ (x : Account). year_values s x.details) account-there

        pub year-fits : YearFits b user.index.0 account values
        year-fits =
            record {
              entry = entry-fits b (sheet_user s) user k account read room-left;
              in-range = in-range account values (sheet_year s) (account-fits b (sheet_user s) user k account read) worked.fit is-open;
            }

        pub close-booked : {after : List ℕ} → after ≡ applied user.index.0 (year_booked account values) b → Answered b c 0 0 0 after
        unfolding booked change_of named_by year_booked
        close-booked e =
            accepted b c k.sound 0 _ (close-past-6 ∙ none) (e ∙ rw (values-are, account-there, index-is b (sheet_user s) user k))

        pub sums-settled : {sums : ClosingSums} → sums ≡ settled account values
            → sums ≡ settled (user_at b (sheet_user s)) (year_values s (user_at b (sheet_user s)).details)
        sums-settled e = e ∙ rw (values-are, account-there)
