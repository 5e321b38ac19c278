-- How a call's answer comes about: by refusal 1 or 2, by a later refusal, or accepted.
use Prim.Native.Nat.{ℕ}
use mathlib.Core.Path.{◌≡◌, refl, sym, ◌∙◌}
use mathlib.Core.Bool.{true}
use mathlib.Core.List.{List, ◌∷◌}
use native.Mathlib.Omega.{arith}
use borrow.Author.Tests.{eq-eqb, ne_eqb}
use Rattle.refusals.specs.declared.Refusal.{Refusal}
use Rattle.refusals.specs.declared.Refusal.TheVariants.{BookLength, FaultyRecord, BookFull, NumberTaken, DetailOutOfRange, UnknownUser, NoSuchDayOrOption, OutsideWindow}
use Rattle.refusals.specs.declared.Refusal.TheVariants.{RunNotOpen, OrderOutOfRange, SheetForm, YearNotOpen, AboveLimit, DomesticExcess, ChargeNotOpen, WrongLine, UnusedBand}
use Rattle.refusals.specs.declared.Refusal.TheVariants.{NoSuchField, FactorAboveLimit, BufferLength}
use Rattle.refusals.specs.Refusals.{number_of, position_of, record_of}
use Rattle.sheet.specs.YearSheet.{Tells}
use Rattle.book_rules.specs.Book.{length_fits, sound}
use Rattle.book_rules.specs.Find.{find_user}
use Rattle.check_book.specs.Verdicts.{Accepted, BookRefused}
use Rattle.call_rules.specs.Rules.{Rule, ◌unless◌, refused_by, without}
use Rattle.call_rules.specs.Refusals.{look_at, present}
use Rattle.call_rules.specs.Calls.{Call, named_by, rules_of, refusal_of, booked, book_after, record_named}
use Rattle.call_rules.proofs.Rules.{never-answered}
use Rattle.call_rules.proofs.Orders.{reserved}
use Rattle.call_answers.specs.Answers.{Answered, AnsweredBy}
use Rattle.call_refusals.proofs.Refused.{refuses, names-none, told-nowhere}

-- an order whose first rules are 1 and 2
abbrev pub look_first : List ℕ → List Rule → List Rule
look_first b rules = (1 unless length_fits b) ∷ (2 unless sound b) ∷ rules

-- a refusal other than 2 answers zero beside its number
beside : (b : List ℕ) (answered n : ℕ) → (n ≡ 0 → ⊥) → (n ≡ 2 → ⊥) → 0 ≡ record_named b n answered
unfolding record_named
beside b answered n some other = rw (ne_eqb n 2 other, ne_eqb n 0 some) refl

-- every order looks at 1 and 2 first
module _ (b : List ℕ) (rules : List Rule) where
  -- refusals 1 and 2
  pub damaged-by : (answered : ℕ) (e : Refusal) → BookRefused b e → AnsweredBy b (look_first b rules) answered (number_of e) (record_of e)
  unfolding refused_by record_named
  damaged-by answered BookLength f = record { refusal_is = rw f; record_is = beside b answered 1 (omega arith) (omega arith) }
  damaged-by answered (FaultyRecord i) o = record { refusal_is = rw (o.fits, o.unsound); record_is = o.smallest }
  damaged-by answered BookFull w = absurd w
  damaged-by answered NumberTaken w = absurd w
  damaged-by answered DetailOutOfRange w = absurd w
  damaged-by answered UnknownUser w = absurd w
  damaged-by answered NoSuchDayOrOption w = absurd w
  damaged-by answered OutsideWindow w = absurd w
  damaged-by answered RunNotOpen w = absurd w
  damaged-by answered OrderOutOfRange w = absurd w
  damaged-by answered SheetForm w = absurd w
  damaged-by answered YearNotOpen w = absurd w
  damaged-by answered (AboveLimit p) w = absurd w
  damaged-by answered DomesticExcess w = absurd w
  damaged-by answered ChargeNotOpen w = absurd w
  damaged-by answered (WrongLine l) w = absurd w
  damaged-by answered (UnusedBand p) w = absurd w
  damaged-by answered NoSuchField w = absurd w
  damaged-by answered FactorAboveLimit w = absurd w
  damaged-by answered BufferLength w = absurd w

  -- then at its own rules, of which none answers 2
  pub past-look : Accepted b → refused_by (look_first b rules) ≡ refused_by rules
  unfolding refused_by
  past-look a = rw (a.fits, a.is_sound)

  pub objected-by : Accepted b → without 2 rules ≡ true → (answered : ℕ) (e : Refusal) → refused_by rules ≡ number_of e
      → AnsweredBy b (look_first b rules) answered (number_of e) (record_of e)
  objected-by a other answered e is =
      let not-2 : number_of e ≡ 2 → ⊥ = λ two. never-answered 2 rules other (omega arith) (is ∙ two) in
      record {
        refusal_is = sym is ∙ sym (past-look a);
        record_is = names-none e not-2 ∙ beside b answered (number_of e) (refuses e) not-2;
      }

-- refusals 1 and 2 tell no position
pub untold-damaged : (b s : List ℕ) (e : Refusal) → BookRefused b e → Tells s (number_of e) (position_of e)
untold-damaged b s BookLength f = told-nowhere s BookLength refl
untold-damaged b s (FaultyRecord i) o = told-nowhere s (FaultyRecord i) refl
untold-damaged b s BookFull w = absurd w
untold-damaged b s NumberTaken w = absurd w
untold-damaged b s DetailOutOfRange w = absurd w
untold-damaged b s UnknownUser w = absurd w
untold-damaged b s NoSuchDayOrOption w = absurd w
untold-damaged b s OutsideWindow w = absurd w
untold-damaged b s RunNotOpen w = absurd w
untold-damaged b s OrderOutOfRange w = absurd w
untold-damaged b s SheetForm w = absurd w
untold-damaged b s YearNotOpen w = absurd w
untold-damaged b s (AboveLimit p) w = absurd w
untold-damaged b s DomesticExcess w = absurd w
untold-damaged b s ChargeNotOpen w = absurd w
untold-damaged b s (WrongLine l) w = absurd w
untold-damaged b s (UnusedBand p) w = absurd w
untold-damaged b s NoSuchField w = absurd w
untold-damaged b s FactorAboveLimit w = absurd w
untold-damaged b s BufferLength w = absurd w

module _ (b : List ℕ) (c : Call) where
  abbrev own : List Rule
  own = rules_of (look_at b (named_by c)) c

  left-as-found : (refusal_of b c ≡ 0 → ⊥) → book_after b c ≡ b
  unfolding book_after
  left-as-found refused = rw (ne_eqb (refusal_of b c) 0 refused)

  -- a refusal leaves the book
  leaves : (answered : ℕ) (e : Refusal) → AnsweredBy b (look_first b own) answered (number_of e) (record_of e) → Answered b c answered (number_of e) (record_of e) b
  unfolding refusal_of
  leaves answered e said =
      record {
        refusal_is = said.refusal_is;
        record_is = said.record_is;
        book-is = sym (left-as-found (λ z. refuses e (said.refusal_is ∙ z)));
      }

  -- by the look at the book
  pub damaged : (answered : ℕ) (e : Refusal) → BookRefused b e → Answered b c answered (number_of e) (record_of e) b
  damaged answered e w = leaves answered e (damaged-by b own answered e w)

  module _ (a : Accepted b) where
    -- by the call's own rules
    pub objected : (answered : ℕ) (e : Refusal) → refused_by own ≡ number_of e → Answered b c answered (number_of e) (record_of e) b
    objected answered e is = leaves answered e (objected-by b own a (reserved (look_at b (named_by c)) c).two answered e is)

    sound-refusal : refusal_of b c ≡ refused_by own
    unfolding refusal_of
    sound-refusal = past-look b own a

    pub accepted : (answered : ℕ) (after : List ℕ) → refused_by own ≡ 0 → after ≡ booked b c → Answered b c answered 0 answered after
    unfolding book_after record_named
    accepted answered after e k =
        let none = sound-refusal ∙ e in
        record {
          refusal_is = sym none;
          record_is = refl;
          book-is = k ∙ rw (eq-eqb (refusal_of b c) 0 none);
        }

  -- "6 not present", of a call whose rules begin with it once those before it are past
  module _ (rest : List Rule) (order : refused_by own ≡ refused_by ((6 unless present (look_at b (named_by c))) ∷ rest)) where
    pub absent : Accepted b → (answered : ℕ) → find_user b (named_by c) ≡ 0 → Answered b c answered 6 0 b
    unfolding refused_by look_at
    absent a answered none = objected a answered UnknownUser (order ∙ rw (eq-eqb (find_user b (named_by c)) 0 none))

    pub past-6 : (find_user b (named_by c) ≡ 0 → ⊥) → refused_by own ≡ refused_by rest
    unfolding refused_by look_at
    past-6 some = order ∙ rw (ne_eqb (find_user b (named_by c)) 0 some)
