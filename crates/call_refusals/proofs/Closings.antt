-- The rules of a closing, as far as each of its tests decides.
use Prim.Native.Nat.{ℕ}
use mathlib.Core.Path.{◌≡◌, refl, sym, ◌∙◌}
use mathlib.Core.Bool.{Bool, true, false, cond}
use mathlib.Core.List.{List}
use borrow.Author.Tests.{not-true}
use Rattle.refusals.specs.declared.Refusal.{Refusal}
use Rattle.refusals.specs.Refusals.{number_of}
use Rattle.sheet.specs.YearSheet.{sheet_year, refused11, refused13, refused14, refused19, Past13, SheetPassed}
use Rattle.sheet.specs.Objections.{Faulted}
use Rattle.account_steps.specs.declared.Account.{Account}
use Rattle.call_rules.specs.Rules.{refused_by, test_of, without}
use Rattle.call_rules.specs.Refusals.{year_open}
use Rattle.call_rules.proofs.Rules.{passes}
use Rattle.call_refusals.specs.Orders.{close_rules}
use Rattle.call_refusals.proofs.Refused.{refuses}

module _ (a : Account) (s : List ℕ) (room : Bool) where
  pub year-shut : year_open a (sheet_year s) ≡ false → refused_by (close_rules a s room) ≡ 12
  unfolding refused_by
  year-shut shut = rw shut refl

  module _ (is_open : year_open a (sheet_year s) ≡ true) where
    pub by-fault : (e : Refusal) → Faulted s e → refused_by (close_rules a s room) ≡ number_of e
    unfolding refused_by
    by-fault e f = by_tests (refused13 s) refl (refused19 s) refl
      where
        by_tests : (x : Bool) → refused13 s ≡ x → (y : Bool) → refused19 s ≡ y → refused_by (close_rules a s room) ≡ number_of e
        by_tests true h y k = rw (is_open, h) (sym (f.number_is ∙ rw h refl))
        by_tests false h true k = rw (is_open, h, k) (sym (f.number_is ∙ rw (h, k) refl))
        by_tests false h false k = let none : number_of e ≡ 0 = f.number_is ∙ rw (h, k) refl in absurd (refuses e none)

    -- a sheet that has passed 13 and 19
    module _ (past : Past13 s) where
      pub by-excess : refused14 a.details.class s ≡ true → refused_by (close_rules a s room) ≡ 14
      unfolding refused_by
      by-excess h = rw (is_open, past.0, past.1, h) refl

      pub by-room : refused14 a.details.class s ≡ false → refused_by (close_rules a s room) ≡ cond room 0 3
      unfolding refused_by
      by-room h = rw (is_open, past.0, past.1, h) refl

-- a sheet of the right form to which nothing is objected
pub sheet_passed : (a : Account) (s : List ℕ) (room : Bool) → refused11 s ≡ false → refused_by (close_rules a s room) ≡ 0 → SheetPassed s
unfolding test_of without
sheet_passed a s room right none =
    let met = λ (n : ℕ) (none-0 : without 0 (close_rules a s room) ≡ true). passes n (close_rules a s room) none-0 none in
    record { past11 = right; past13 = (not-true (refused13 s) (met 13 refl), not-true (refused19 s) (met 19 refl)) }
