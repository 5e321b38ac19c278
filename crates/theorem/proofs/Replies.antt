-- An answer with given numbers: to each call that has an answer by its definition there is a `Result` that is read so.
use Prim.Native.Nat.{ℕ}
use mathlib.Core.Path.{◌≡◌, refl, sym, subst, subst₂, ◌∙◌}
use mathlib.Core.Bool.{Bool, true, false, cond, not}
use mathlib.Core.List.{List}
use borrow.Author.Tests.{eqb-true, eqb-false}
use lib.Dec.{eqb}
use Rattle.std.specs.Prelude.{Result, Ok, Err, IfOk}
use Rattle.units.specs.Units.{record_index}
use Rattle.refusals.specs.declared.Position.{Position}
use Rattle.refusals.specs.declared.Refusal.{Refusal}
use Rattle.refusals.specs.declared.Refusal.TheVariants.{BookLength, FaultyRecord, BookFull, NumberTaken, DetailOutOfRange, UnknownUser}
use Rattle.refusals.specs.declared.Refusal.TheVariants.{NoSuchDayOrOption, OutsideWindow, RunNotOpen, OrderOutOfRange, SheetForm}
use Rattle.refusals.specs.declared.Refusal.TheVariants.{YearNotOpen, AboveLimit, DomesticExcess, ChargeNotOpen, UnusedBand}
use Rattle.refusals.specs.Refusals.{number_of, position_of, record_of, refusal_in, position_in, record_in, nowhere}
use Rattle.sheet.specs.YearSheet.{sheet_user, sheet_year, refused11, refused13, refused14, refused19, tells}
use Rattle.book_rules.specs.Book.{length_fits, sound, details_fit}
use Rattle.call_rules.specs.Rules.{refused_by}
use Rattle.call_rules.specs.Refusals.{look_at, number_free, present, day_and_option, election_open, run_open, order_fits, year_open, charge_open}
use Rattle.call_rules.specs.Calls.{Call, enrol, elect, advance, close, statement, charge, named_by, rules_of, refusal_of, record_named}
use Rattle.call_answers.specs.Answers.{Answered}

-- of each record and each position a refusal with the number, which names them where the number names any
record Numbered (n : ℕ) : Type 0 where
  pub refusal : ℕ → Position → Refusal
  pub number : (n ≡ 0 → ⊥) → (named : ℕ) (p : Position) → number_of (refusal named p) ≡ n
  pub names : (named : ℕ) (p : Position) → record_of (refusal named p) ≡ cond (eqb n 2) named 0
  pub tells-at : (named : ℕ) (p : Position) → position_of (refusal named p) ≡ cond (tells n) p nowhere

none : Numbered 0
none = record { refusal = λ named p. BookLength; number = λ some. absurd (some refl); names = λ named p. refl; tells-at = λ named p. refl }

-- a refusal that names nothing
plain : (e : Refusal) → record_of e ≡ cond (eqb (number_of e) 2) 1 0 → position_of e ≡ nowhere → eqb (number_of e) 2 ≡ false → tells (number_of e) ≡ false
    → Numbered (number_of e)
plain e r p not-2 untold =
    record {
      refusal = λ named at. e;
      number = λ some named at. refl;
      names = λ named at. r ∙ rw not-2 refl;
      tells-at = λ named at. p ∙ rw untold refl;
    }

faulty : Numbered 2
faulty =
    record {
      refusal = λ named p. FaultyRecord (record_index named);
      number = λ some named p. refl;
      names = λ named p. refl;
      tells-at = λ named p. refl;
    }

above : Numbered 13
above = record { refusal = λ named p. AboveLimit p; number = λ some named p. refl; names = λ named p. refl; tells-at = λ named p. refl }

unused : Numbered 19
unused = record { refusal = λ named p. UnusedBand p; number = λ some named p. refl; names = λ named p. refl; tells-at = λ named p. refl }

either : (t : Bool) {x y : ℕ} → Numbered x → Numbered y → Numbered (cond t x y)
either true h k = h
either false h k = k

-- every number that a call answers
numbered : (b : List ℕ) (c : Call) → Numbered (refusal_of b c)
unfolding refusal_of refused_by rules_of named_by
numbered b c = either (length_fits b) (either (sound b) (own c) faulty) (plain BookLength refl refl refl refl)
  where
    full : Numbered 3
    full = plain BookFull refl refl refl refl

    absent : Numbered 6
    absent = plain UnknownUser refl refl refl refl

    own : (c : Call) → Numbered (refused_by (rules_of (look_at b (named_by c)) c))
    own (enrol n d o) =
        let v = look_at b n in
        either (number_free v n) (either (details_fit d o) (either v.room none full) (plain DetailOutOfRange refl refl refl refl)) (plain NumberTaken refl refl refl refl)
    own (elect n o y m d) =
        let v = look_at b n in
        let by-window = either (election_open v.account y m d) none (plain OutsideWindow refl refl refl refl) in
        either (present v) (either (day_and_option o y m d) by-window (plain NoSuchDayOrOption refl refl refl refl)) absent
    own (advance n y r p e₁ e₂) =
        let v = look_at b n in
        let by-order = either (order_fits p e₁ e₂) (either v.room none full) (plain OrderOutOfRange refl refl refl refl) in
        either (present v) (either (run_open v.account y r) by-order (plain RunNotOpen refl refl refl refl)) absent
    own (close s) =
        let v = look_at b (sheet_user s) in
        let by-14 = either (not (refused14 v.account.details.class s)) (either v.room none full) (plain DomesticExcess refl refl refl refl) in
        let by-13 = either (not (refused13 s)) (either (not (refused19 s)) by-14 unused) above in
        let by-user = either (present v) (either (year_open v.account (sheet_year s)) by-13 (plain YearNotOpen refl refl refl refl)) absent in
        either (not (refused11 s)) by-user (plain SheetForm refl refl refl refl)
    own (statement n) = either (present (look_at b n)) none absent
    own (charge n) =
        let v = look_at b n in
        either (present v) (either (charge_open v.account) none (plain ChargeNotOpen refl refl refl refl)) absent

-- an answer that is read as these numbers, and has the value where nothing is refused
pub record Given {A : Type 0} (f : A → ℕ) (v : A) (n named : ℕ) (p : Position) : Type 0 where
  pub answer : Result A Refusal
  pub refusal-is : refusal_in answer ≡ n
  pub record-is : record_in f answer ≡ named
  pub position-is : position_in answer ≡ p
  pub value : IfOk answer (λ x. x ≡ v)
  pub accepted : n ≡ 0 → answer ≡ Ok v

given : {A : Type 0} (f : A → ℕ) (v : A) (b : List ℕ) (n named : ℕ) (p : Position) → Numbered n → named ≡ record_named b n (f v) → (tells n ≡ false → p ≡ nowhere)
    → Given f v n named p
unfolding record_named
given f v b n named p h is zeros = by-test (eqb n 0) refl
  where
    named-by-2 : eqb n 0 ≡ false → (t : Bool) → eqb n 2 ≡ t → cond t named 0 ≡ named
    named-by-2 e true two = refl
    named-by-2 e false other = sym (is ∙ rw (other, e) refl)

    placed : (t : Bool) → tells n ≡ t → cond t p nowhere ≡ p
    placed true told = refl
    placed false untold = sym (zeros untold)

    by-test : (t : Bool) → eqb n 0 ≡ t → Given f v n named p
    by-test true e =
        let zero : n ≡ 0 = eqb-true n 0 e in
        record {
          answer = Ok v;
          refusal-is = sym zero;
          record-is = sym (is ∙ rw zero refl);
          position-is = sym (zeros (rw zero refl));
          value = refl;
          accepted = λ z. refl;
        }
    by-test false e =
        let some : n ≡ 0 → ⊥ = eqb-false n 0 e in
        record {
          answer = Err (h.refusal named p);
          refusal-is = h.number some named p;
          record-is = h.names named p ∙ named-by-2 e (eqb n 2) refl;
          position-is = h.tells-at named p ∙ placed (tells n) refl;
          value = tt;
          accepted = λ z. absurd (some z);
        }

module _ {A : Type 0} (f : A → ℕ) (v : A) {b : List ℕ} {c : Call} {n named : ℕ} {after : List ℕ} (p : Position) (said : Answered b c (f v) n named after) where
  pub with-numbers : (tells n ≡ false → p ≡ nowhere) → Given f v n named p
  with-numbers zeros = given f v b n named p (subst Numbered (sym said.refusal_is) (numbered b c)) said.record_is zeros

  -- and of which the same is said
  pub said-so : (g : Given f v n named p) → Answered b c (f v) (refusal_in g.answer) (record_in f g.answer) after
  said-so g = subst₂ (λ x y. Answered b c (f v) x y after) (sym g.refusal-is) (sym g.record-is) said
