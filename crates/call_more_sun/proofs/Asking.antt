-- How much more sun, asked on a sound book: what its rules come to, sheet's form, user, sheet's numbers, field, and the answer.
use Prim.Native.Nat.{ℕ}
use mathlib.Core.Path.{◌≡◌, refl, sym, ◌∙◌}
use mathlib.Core.Bool.{Bool, true, false}
use mathlib.Core.List.{List}
use borrow.Author.Tests.{eq-eqb, ne_eqb}
use Rattle.refusals.specs.declared.Refusal.{Refusal}
use Rattle.refusals.specs.Refusals.{number_of, record_of}
use Rattle.sheet.specs.YearSheet.{sheet_user, refused11, refused13, refused19, Past13}
use Rattle.sheet.specs.Objections.{Faulted}
use Rattle.book_rules.specs.Find.{find_user}
use Rattle.check_book.specs.Verdicts.{Accepted, BookRefused}
use Rattle.call_rules.specs.Rules.{Rule, refused_by}
use Rattle.call_rules.specs.Refusals.{look_at}
use Rattle.call_rules.specs.Calls.{record_named}
use Rattle.call_refusals.proofs.Refused.{refuses}
use Rattle.call_answers.specs.Answers.{AnsweredBy}
use Rattle.call_answers.proofs.Answers.{damaged-by, objected-by, past-look}
use Rattle.call_more_sun.specs.Asked.{has_field, field_rules, more_sun_rules, more_sun_order}
use Rattle.call_more_sun.proofs.Orders.{without-2}

module _ (b s : List ℕ) (month band : ℕ) where
  abbrev asked : List Rule
  asked = more_sun_rules (look_at b (sheet_user s)) s month band

  pub damaged : (e : Refusal) → BookRefused b e → AnsweredBy b (more_sun_order b s month band) 0 (number_of e) (record_of e)
  unfolding more_sun_order
  damaged e w = damaged-by b asked 0 e w

  pub objected : Accepted b → (e : Refusal) → refused_by asked ≡ number_of e → AnsweredBy b (more_sun_order b s month band) 0 (number_of e) (record_of e)
  unfolding more_sun_order
  objected a e is = objected-by b asked a (without-2 (look_at b (sheet_user s)) s month band) 0 e is

  pub unformed : refused11 s ≡ true → refused_by asked ≡ 11
  unfolding refused_by
  unformed wrong = rw wrong refl

  module _ (right : refused11 s ≡ false) where
    pub absent : find_user b (sheet_user s) ≡ 0 → refused_by asked ≡ 6
    unfolding refused_by look_at
    absent none = rw (right, eq-eqb (find_user b (sheet_user s)) 0 none) refl

    module _ (some : find_user b (sheet_user s) ≡ 0 → ⊥) where
      past-6 : refused_by asked ≡ refused_by (field_rules s month band)
      unfolding refused_by look_at
      past-6 = rw (right, ne_eqb (find_user b (sheet_user s)) 0 some) refl

      pub by-fault : (e : Refusal) → Faulted s e → refused_by asked ≡ number_of e
      unfolding refused_by
      by-fault e f = past-6 ∙ by_tests (refused13 s) refl (refused19 s) refl
        where
          by_tests : (x : Bool) → refused13 s ≡ x → (y : Bool) → refused19 s ≡ y → refused_by (field_rules s month band) ≡ number_of e
          by_tests true h y k = rw h (sym (f.number_is ∙ rw h refl))
          by_tests false h true k = rw (h, k) (sym (f.number_is ∙ rw (h, k) refl))
          by_tests false h false k = let none : number_of e ≡ 0 = f.number_is ∙ rw (h, k) refl in absurd (refuses e none)

      module _ (past : Past13 s) where
        pub no-field : has_field s month band ≡ false → refused_by asked ≡ 23
        unfolding refused_by
        no-field h = past-6 ∙ rw (past.0, past.1, h) refl

        pub answered : Accepted b → has_field s month band ≡ true → AnsweredBy b (more_sun_order b s month band) 0 0 0
        unfolding more_sun_order record_named refused_by
        answered a h = record { refusal_is = sym (past-look b asked a ∙ past-6 ∙ rw (past.0, past.1, h) refl); record_is = refl }
