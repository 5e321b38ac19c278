-- An advance on a sound book: what its rules come to where the user is there, and the book after it.
use Prim.Native.Nat.{ℕ, ◌+◌, ◌^◌, ◌≤◌, ◌<◌}
use mathlib.Core.Path.{◌≡◌, refl, sym, ◌∙◌}
use mathlib.Core.Bool.{Bool, true}
use mathlib.Core.Logic.{◌⊎◌, inl, inr}
use mathlib.Core.List.{List, ◌∷◌}
use native.Mathlib.Omega.{arith}
use borrow.Author.Tests.{eq-eqb, ne_eqb}
use Rattle.units.specs.declared.Ticks.{Ticks}
use Rattle.units.specs.Units.{ticks}
use Rattle.units.specs.Limits.{max_year_ticks}
use Rattle.account_steps.specs.declared.Account.{Account}
use Rattle.account_steps.specs.Account.{runs_in, advances_in, account_advanced}
use Rattle.account_steps.proofs.TwoYears.{runs-open, advances-open, runs-later, advances-later}
use Rattle.book_rules.specs.Book.{account_at, account_fits, halves_fit}
use Rattle.book_view.specs.declared.User.{User}
use Rattle.call_rules.specs.Changes.{applied, run_amount}
use Rattle.call_rules.specs.Rules.{◌unless◌, refused_by, test_of, without}
use Rattle.call_rules.specs.Refusals.{look_at, present, user_at, has_room, run_open, order_fits}
use Rattle.call_rules.specs.Calls.{Call, advance, named_by, rules_of, change_of, booked}
use Rattle.call_rules.proofs.Rules.{passes}
use Rattle.call_keeps.proofs.Ranges.{account-good}
use Rattle.call_keeps.proofs.Widths.{AccountWithin, account-within}
use Rattle.call_keeps.proofs.Accounts.{advanced-fits}
use Rattle.call_keeps.proofs.Advance.{RunDue, run-due, run-at-most}
use Rattle.call_refusals.specs.Orders.{advance_rules}
use Rattle.call_answers.specs.Answers.{Answered}
use Rattle.call_answers.proofs.Answers.{past-6, accepted}
use Rattle.call_answers.proofs.Named.{Named, named-some, index-is, account-is, account-fits}
use Rattle.call_answers.proofs.Rooms.{entry-fits}
use Rattle.call_advance.specs.Advances.{RunFits, run_booked}

-- the account after a run that is due has its sums in range
sums-within : (a : Account) (y r p e₁ e₂ : ℕ) → account_fits a ≡ true → run_open a y r ≡ true → order_fits p e₁ e₂ ≡ true
    → (runs_in y a + r ≤ 7) × (advances_in y a + run_amount a y r p e₁ e₂ < 2 ^ 64)
unfolding account_advanced
sums-within a y r p e₁ e₂ fits is_open order = by-year d.year-is
  where
    d : RunDue a y r
    d = run-due a y r is_open

    paid : ℕ
    paid = run_amount a y r p e₁ e₂

    after : AccountWithin (account_advanced y r paid a)
    after = account-within (account_advanced y r paid a) (advanced-fits a y r paid fits d.year-is d.is d.unmade d.due-then (run-at-most a y r p e₁ e₂ fits order))

    by-year : (y ≡ a.open_year) ⊎ (y ≡ a.open_year + 1) → (runs_in y a + r ≤ 7) × (advances_in y a + paid < 2 ^ 64)
    by-year (inl same) =
        let now-open = eq-eqb y a.open_year same in
        let runs : a.runs + r < 8 = rw now-open at after.runs in
        let sum : a.advances.0 + paid ≤ max_year_ticks = rw now-open at after.advances in
        (omega (arith, runs-open y a same), omega (arith, advances-open y a same))
    by-year (inr later) =
        let other : y ≡ a.open_year → ⊥ = λ e. omega arith in
        let not-open = ne_eqb y a.open_year other in
        let runs : a.later_runs + r ≤ 3 = rw not-open at after.later_runs in
        let sum : a.later_advances.0 + paid ≤ max_year_ticks = rw not-open at after.later_advances in
        (omega (arith, runs-later y a other), omega (arith, advances-later y a other))

module _ (b : List ℕ) (n y r p e₁ e₂ : ℕ) where
  abbrev c : Call
  c = advance n y r p e₁ e₂

  pub advance-order : refused_by (rules_of (look_at b (named_by c)) c)
      ≡ refused_by ((6 unless present (look_at b (named_by c))) ∷ advance_rules (user_at b n) y r p e₁ e₂ (has_room b))
  unfolding rules_of named_by look_at
  advance-order = refl

  module _ {user : User} (k : Named b n user) {account : Account} (read : account ≡ account_at user.book.bytes.now user.index.0)
      {room : Bool} (left : room ≡ has_room b) where
    pub advance-past-6 : refused_by (rules_of (look_at b (named_by c)) c) ≡ refused_by (advance_rules account y r p e₁ e₂ room)
    unfolding named_by
    advance-past-6 = past-6 b c _ advance-order (named-some b n user k) ∙ rw (account-is b n user k account read, left)

    fits : account_fits account ≡ true
    fits = account-fits b n user k account read

    module _ (none : refused_by (advance_rules account y r p e₁ e₂ room) ≡ 0) where
      is_open : run_open account y r ≡ true
      unfolding test_of without
      is_open = passes 9 (advance_rules account y r p e₁ e₂ room) refl none

      pub halves-fit : (y < 2 ^ 16) × (halves_fit account ≡ true)
      halves-fit = (omega (arith, (run-due account y r is_open).last), (account-good account fits).halves)

      pub order-fits : order_fits p e₁ e₂ ≡ true
      unfolding test_of without
      order-fits = passes 10 (advance_rules account y r p e₁ e₂ room) refl none

      room-left : has_room b ≡ true
      unfolding test_of without
      room-left = sym left ∙ passes 3 (advance_rules account y r p e₁ e₂ room) refl none

      module _ {paid : Ticks} (amount : paid ≡ ticks (run_amount account y r p e₁ e₂)) where
        pub run_fits : RunFits b user.index.0 account y r paid.0
        run_fits =
            let w = sums-within account y r p e₁ e₂ fits is_open order-fits in
            record {
              entry = entry-fits b n user k account read room-left;
              year-below = halves-fit.0;
              runs = w.0;
              advances = rw amount w.1;
            }

        pub paid-is : paid ≡ ticks (run_amount (user_at b n) y r p e₁ e₂)
        paid-is = amount ∙ rw (account-is b n user k account read)

        pub advance-booked : {after : List ℕ} → after ≡ applied user.index.0 (run_booked account y r paid.0) b → Answered b c 0 0 0 after
        unfolding booked change_of named_by run_booked
        advance-booked e =
            accepted b c k.sound 0 _ (advance-past-6 ∙ none) (e ∙ rw (paid-is, account-is b n user k account read, index-is b n user k))
