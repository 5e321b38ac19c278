-- A text that is taken is the twelve lines of the numbers read, and the lines of any numbers within the limit are taken.
use Prim.Native.Nat.{ℕ, zero, suc, ◌+◌, ◌≤◌, ◌<◌}
use mathlib.Core.Path.{◌≡◌, refl, sym, ap, ◌∙◌}
use mathlib.Core.Bool.{Bool, true, false, not, ◌&&◌, true≢false}
use mathlib.Core.List.{List, [], ◌∷◌, ◌++◌, append_assoc, append-nil}
use native.Mathlib.Decide.{dec_lt}
use native.Mathlib.Omega.{arith}
use lib.Dec.{ltb, eqb}
use borrow.Author.Tests.{lt-ltb, eq-eqb, eqb-true}
use lib.ListN.{length}
use Rattle.units.proofs.Bools.{or_left, or_right}
use Rattle.units.proofs.Folds.{none-at, none_of}
use Rattle.sheet_text.specs.Lines.{months, readings, line, lines, year_text, begins_line, kwh_at, behind_line, from_line, kwh_in}
use Rattle.sheet_text.specs.Reading.{line_wrong, some_kwh_above, line_refused, Within, some_refused}
use Rattle.sheet_text.proofs.Above.{none_above, all-within}
use Rattle.sheet_text.proofs.LineWriting.{line_same, year-room, year-reached}
use Rattle.sheet_text.proofs.ReadCalls.{text-taken}
use Rattle.sheet_text.proofs.Reading.{taken}
use Rattle.sheet_language.specs.Language.{Same, Language, Room}
use Rattle.sheet_language.proofs.LineShape.{line-shaped, line-begins, line-numbers, line-rest}

not-true : (b : Bool) → not b ≡ false → b ≡ true
not-true true e = refl
not-true false e = absurd (true≢false e)

none_left : (l : List ℕ) → length l ≡ 0 → l ≡ []
none_left [] e = refl
none_left (x ∷ l) e = let z : ⊥ = omega arith in absurd z

-- TAKEN, THEN WRITTEN
module _ (t : List ℕ) (none : some_refused t ≡ false) where
  not-refused : (m : ℕ) → m ≤ months → line_refused t m ≡ false
  unfolding some_refused
  not-refused m h = none-at (months + 1) (line_refused t) none m (omega arith)

  right-line : (m : ℕ) → m < months → begins_line (m + 1) (from_line m t) ≡ true
  unfolding line_refused line_wrong
  right-line m h =
      not-true (begins_line (m + 1) (from_line m t))
      (rw (lt-ltb m months h) at (or_left (line_wrong t m) (ltb m months && some_kwh_above (kwh_in t m)) (not-refused m (omega arith))))

  pub taken-within : Within (kwh_in t)
  unfolding line_refused
  taken-within m p hm hp =
      let both = or_right (line_wrong t m) (ltb m months && some_kwh_above (kwh_in t m)) (not-refused m (omega arith)) in
      none_above (kwh_in t m) (rw (lt-ltb m months hm) at both) p hp

  nothing_left : from_line months t ≡ []
  unfolding line_refused line_wrong
  nothing_left =
      let right = or_left (line_wrong t months) (ltb months months && some_kwh_above (kwh_in t months)) (not-refused months (omega arith)) in
      none_left (from_line months t) (eqb-true (length (from_line months t)) 0 (not-true (eqb (length (from_line months t)) 0) right))

  lines-front : (m : ℕ) → m ≤ months → t ≡ lines m (kwh_in t) ++ from_line m t
  unfolding lines from_line kwh_in
  lines-front zero h = refl
  lines-front (suc m) h =
      let before = lines-front m (omega arith) in
      let here = line-shaped (m + 1) (from_line m t) (right-line m (omega arith)) in
      let same = line_same (m + 1) (kwh_at (from_line m t)) (kwh_in t m) (numbers_of m) in
      before
      ∙ ap (λ (u : List ℕ). lines m (kwh_in t) ++ u) (here ∙ ap (λ (l : List ℕ). l ++ behind_line (from_line m t)) same)
      ∙ sym (append_assoc (lines m (kwh_in t)) (line (m + 1) (kwh_in t m)) (behind_line (from_line m t)))
    where
      numbers_of : (i p : ℕ) → p < readings → kwh_at (from_line i t) p ≡ kwh_in t i p
      numbers_of i p l = refl

  taken-written : t ≡ year_text (kwh_in t)
  taken-written =
      lines-front months (omega arith)
      ∙ ap (λ (u : List ℕ). year_text (kwh_in t) ++ u) nothing_left
      ∙ append-nil (year_text (kwh_in t))

-- WRITTEN, THEN TAKEN
from-line : (kwh : ℕ → ℕ → ℕ) (m : ℕ) (u : List ℕ) → from_line m (lines m kwh ++ u) ≡ u
unfolding lines from_line
from-line kwh zero u = refl
from-line kwh (suc m) u =
    ap (λ (l : List ℕ). behind_line (from_line m l)) (append_assoc (lines m kwh) (line (m + 1) (kwh m)) u)
    ∙ ap behind_line (from-line kwh m (line (m + 1) (kwh m) ++ u))
    ∙ line-rest (m + 1) (kwh m) u

record Split (kwh : ℕ → ℕ → ℕ) (n m : ℕ) : Type 0 where
  pub later : List ℕ
  pub parts : lines n kwh ≡ lines m kwh ++ (line (m + 1) (kwh m) ++ later)

split-at-line : (kwh : ℕ → ℕ → ℕ) (n m : ℕ) → m < n → Split kwh n m
unfolding lines
split-at-line kwh zero m h = let z : ⊥ = omega arith in absurd z
split-at-line kwh (suc n) m h = by_place (dec_lt m n) (λ less. split-at-line kwh n m less)
  where
    by_place : Dec (m < n) → (m < n → Split kwh n m) → Split kwh (suc n) m
    by_place (yes less) before =
        let s = before less in
        record {
          later = s.later ++ line (n + 1) (kwh n);
          parts =
              ap (λ (l : List ℕ). l ++ line (n + 1) (kwh n)) s.parts
              ∙ append_assoc (lines m kwh) (line (m + 1) (kwh m) ++ s.later) (line (n + 1) (kwh n))
              ∙ ap (λ (l : List ℕ). lines m kwh ++ l) (append_assoc (line (m + 1) (kwh m)) s.later (line (n + 1) (kwh n)));
        }
    by_place (no more) before =
        let same : n ≡ m = omega (arith, more) in
        record {
          later = [];
          parts =
              ap (λ (k : ℕ). lines k kwh ++ line (k + 1) (kwh k)) same
              ∙ ap (λ (l : List ℕ). lines m kwh ++ l) (sym (append-nil (line (m + 1) (kwh m))));
        }

module _ (kwh : ℕ → ℕ → ℕ) where
  at-line : (m : ℕ) (h : m < months) → from_line m (year_text kwh) ≡ line (m + 1) (kwh m) ++ (split-at-line kwh months m h).later
  at-line m h =
      let s = split-at-line kwh months m h in
      ap (from_line m) s.parts ∙ from-line kwh m (line (m + 1) (kwh m) ++ s.later)

  pub written-numbers : Same (kwh_in (year_text kwh)) kwh
  unfolding kwh_in
  written-numbers m p hm hp =
      ap (λ (u : List ℕ). kwh_at u p) (at-line m hm) ∙ line-numbers (m + 1) (kwh m) (split-at-line kwh months m hm).later p hp

  line-right : (m : ℕ) → m < months → line_wrong (year_text kwh) m ≡ false
  unfolding line_wrong
  line-right m h =
      rw (lt-ltb m months h)
      (ap not (ap (begins_line (m + 1)) (at-line m h) ∙ line-begins (m + 1) (kwh m) (split-at-line kwh months m h).later))

  end-right : line_wrong (year_text kwh) months ≡ false
  unfolding line_wrong
  end-right =
      let left : from_line months (year_text kwh) ≡ [] = ap (from_line months) (sym (append-nil (year_text kwh))) ∙ from-line kwh months [] in
      ap not (eq-eqb (length (from_line months (year_text kwh))) 0 (ap length left))

  pub written-taken : Within kwh → some_refused (year_text kwh) ≡ false
  unfolding some_refused line_refused
  written-taken within = none_of (months + 1) (line_refused (year_text kwh)) (λ m h. not-refused-at m (dec_lt m months) h)
    where
      not-refused-at : (m : ℕ) → Dec (m < months) → m < months + 1 → line_refused (year_text kwh) m ≡ false
      not-refused-at m (yes less) h =
          let small : some_kwh_above (kwh_in (year_text kwh) m) ≡ false
          = all-within (kwh_in (year_text kwh) m) (λ p l. rw (written-numbers m p less l) (within m p less l)) in
          rw (line-right m less, small, lt-ltb m months less)
      not-refused-at m (no more) h =
          let end : m ≡ months = omega (arith, more) in
          rw (end, end-right)

pub room : Room
room = record { enough = year-room; reached = year-reached }

pub language : Language
language =
    record {
      shaped = λ t e. taken-written t (text-taken t e);
      within = λ t e. taken-within t (text-taken t e);
      written = λ kwh within. taken (year_text kwh) (written-taken kwh within);
      numbers = λ kwh within. written-numbers kwh;
    }
