-- Laws of the tests that the rules of a link are made of: "0 or ..", and a test that stays.
use mathlib.Core.Path.{◌≡◌, refl}
use mathlib.Core.Bool.{Bool, true, false, ◌&&◌, ◌||◌, cond}
use mathlib.Core.Logic.{⊎_elim}
use Rattle.units.proofs.Bools.{and_left, and_right, and_both, or_cases}

pub or-first : {s : Bool} (t : Bool) → s ≡ true → (s || t) ≡ true
or-first t h = rw h

pub or-second : (s : Bool) {t : Bool} → t ≡ true → (s || t) ≡ true
or-second true h = refl
or-second false h = h

-- tests that stay make a disjunction and a conjunction that stay
pub or-stays : (s t : Bool) {s' t' : Bool} → (s ≡ true → s' ≡ true) → (t ≡ true → t' ≡ true) → (s || t) ≡ true → (s' || t') ≡ true
or-stays s t {s'} {t'} p q h = ⊎_elim (λ e. or-first t' (p e)) (λ e. or-second s' (q e)) (or_cases s t h)

pub and-stays : (s t : Bool) {s' t' : Bool} → (s ≡ true → s' ≡ true) → (t ≡ true → t' ≡ true) → (s && t) ≡ true → (s' && t') ≡ true
and-stays s t p q h = and_both (p (and_left s t h)) (q (and_right s t h))

pub cond-stays : (t : Bool) {x y x' y' : Bool} → (x ≡ true → x' ≡ true) → (y ≡ true → y' ≡ true) → cond t x y ≡ true → cond t x' y' ≡ true
cond-stays true p q h = p h
cond-stays false p q h = q h
