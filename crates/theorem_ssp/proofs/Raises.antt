-- What the exported function says, and the laws of what it says.
use Prim.Native.Nat.{ℕ, ◌<◌}
use mathlib.Core.Path.{◌≡◌, refl, sym, ap, ◌∙◌}
use mathlib.Core.Bool.{Bool, true, false}
use mathlib.Core.List.{List}
use Rattle.std.specs.Prelude.{Ok}
use native.Mathlib.Omega.{arith}
use borrow.Author.Tests.{eqb-true, eqb-false}
use lib.Dec.{eqb}
use lib.ListN.{get_or}
use Rattle.sheet_losses.specs.Losses.{decembers_rest, decembers_rests, raise_refusal, answer_of, raised_after}
use Rattle.sheet_losses.specs.Laws.{Elsewhere}
use Rattle.sheet_losses.proofs.Calls.{accepted-answer, answered-number, refused-leaves}
use Rattle.sheet_losses.proofs.Laws.{raised-well}
use Rattle.ssp.specs.declared.Raised.{Raised}
use Rattle.ssp.specs.Flat.{flat_raised}
use Rattle.ssp.proofs.Contract.{raise-says}
use Rattle.theorem_ssp.specs.Raises.{SumKept, Raises}
use Rattle.theorem_ssp.specs.Archives.{Bytes}

module _ (factor : ℕ) (before after : List ℕ) (r : Raised) (said : (r ≡ flat_raised (answer_of factor before)) × (after ≡ raised_after factor before)) where
  refusal_is : r.refusal ≡ raise_refusal factor before
  unfolding flat_raised
  refusal_is = ap (λ (x : Raised). x.refusal) said.0 ∙ answered-number factor before

  module _ (accepted : r.refusal ≡ 0) where
    passed : raise_refusal factor before ≡ 0
    passed = sym refusal_is ∙ accepted

    kept : (band : ℕ) → band < 3 → (rest : ℕ) → rest ≡ decembers_rest factor before band → SumKept before after factor band rest
    kept band l rest e = rw (said.1, e) ((raised-well factor before passed).bands band l)

    answered : r ≡ flat_raised (Ok (decembers_rests factor before))
    answered = said.0 ∙ ap flat_raised (accepted-answer factor before passed)

    rest1-is : r.rest1 ≡ decembers_rest factor before 0
    unfolding flat_raised
    rest1-is = ap (λ (x : Raised). x.rest1) answered

    rest2-is : r.rest2 ≡ decembers_rest factor before 1
    unfolding flat_raised
    rest2-is = ap (λ (x : Raised). x.rest2) answered

    rest3-is : r.rest3 ≡ decembers_rest factor before 2
    unfolding flat_raised
    rest3-is = ap (λ (x : Raised). x.rest3) answered

    kept1 : SumKept before after factor 0 r.rest1
    kept1 = kept 0 (omega arith) r.rest1 rest1-is

    kept2 : SumKept before after factor 1 r.rest2
    kept2 = kept 1 (omega arith) r.rest2 rest2-is

    kept3 : SumKept before after factor 2 r.rest3
    kept3 = kept 2 (omega arith) r.rest3 rest3-is

  pub left : (r.refusal ≡ 0 → ⊥) → after ≡ before
  left other = said.1 ∙ refused-leaves factor before (λ e. other (refusal_is ∙ e))

  other-bytes : (k : ℕ) → Elsewhere k → get_or after k 0 ≡ get_or before k 0
  other-bytes k e = ap (λ (t : List ℕ). get_or t k 0) said.1 ∙ by_answer (eqb (raise_refusal factor before) 0) refl
    where
      by_answer : (t : Bool) → eqb (raise_refusal factor before) 0 ≡ t → get_or (raised_after factor before) k 0 ≡ get_or before k 0
      by_answer true z = (raised-well factor before (eqb-true (raise_refusal factor before) 0 z)).others k e
      by_answer false z = ap (λ (t : List ℕ). get_or t k 0) (refused-leaves factor before (eqb-false (raise_refusal factor before) 0 z))

  of_none : factor ≡ 0 → Bytes before → after ≡ before
  of_none e bytes = said.1 ∙ by_answer (eqb (raise_refusal factor before) 0) refl
    where
      by_answer : (t : Bool) → eqb (raise_refusal factor before) 0 ≡ t → raised_after factor before ≡ before
      by_answer true z = (raised-well factor before (eqb-true (raise_refusal factor before) 0 z)).unraised e bytes
      by_answer false z = refused-leaves factor before (eqb-false (raise_refusal factor before) 0 z)

pub raises : Raises
raises =
    record {
      band1 = λ κs a r s p zero. kept1 a.1.0 a.0.now s.0.now r (raise-says κs a r s p) zero;
      band2 = λ κs a r s p zero. kept2 a.1.0 a.0.now s.0.now r (raise-says κs a r s p) zero;
      band3 = λ κs a r s p zero. kept3 a.1.0 a.0.now s.0.now r (raise-says κs a r s p) zero;
      others = λ κs a r s p. other-bytes a.1.0 a.0.now s.0.now r (raise-says κs a r s p);
      refused = λ κs a r s p. left a.1.0 a.0.now s.0.now r (raise-says κs a r s p);
      unraised = λ κs a r s p. of_none a.1.0 a.0.now s.0.now r (raise-says κs a r s p);
    }
