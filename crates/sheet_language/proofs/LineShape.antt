-- A line is seven fields: each that is read is the one that is written, and the next begins behind it.
use Prim.Native.Nat.{ℕ, zero, suc, ◌<◌}
use mathlib.Core.Path.{◌≡◌, refl, sym, ap, ap₂, ◌∙◌}
use mathlib.Core.Bool.{Bool, true, false, ◌&&◌}
use mathlib.Core.List.{List, ◌++◌, append_assoc}
use native.Mathlib.Omega.{arith}
use lib.Dec.{eqb}
use borrow.Author.Tests.{eq-eqb, eqb-true}
use Rattle.units.proofs.Bools.{and_left, and_right, and_both}
use Rattle.decimals.specs.Decimals.{field, is_digit, value, begins_field, behind, line_feed}
use Rattle.decimals.proofs.Fields.{field-value, field-behind, field-begins, field-split}
use Rattle.sheet_text.specs.Lines.{semicolon, readings, line, from_number, begins_line, kwh_at, behind_line}
use Rattle.sheet_language.specs.Language.{LineLanguage}

no-digit-semicolon : is_digit semicolon ≡ false
unfolding is_digit
no-digit-semicolon = refl

no-digit-feed : is_digit line_feed ≡ false
unfolding is_digit
no-digit-feed = refl

-- seven fields in front of a text
line-fields : (month : ℕ) (kwh : ℕ → ℕ) (t : List ℕ) → line month kwh ++ t
    ≡ field month semicolon
    ++ (field (kwh 0) semicolon
    ++ (field (kwh 1) semicolon
    ++ (field (kwh 2) semicolon ++ (field (kwh 3) semicolon ++ (field (kwh 4) semicolon ++ (field (kwh 5) line_feed ++ t))))))
unfolding line
line-fields month kwh t = simp append_assoc

-- READ, THEN WRITTEN
split : (k stop : ℕ) (t : List ℕ) → (stop ≡ 0 → ⊥) → begins_field stop (from_number k t) ≡ true
    → from_number k t ≡ field (value (from_number k t)) stop ++ from_number (suc k) t
unfolding from_number
split k stop t h e = field-split stop (from_number k t) h e

first-split : (t : List ℕ) → begins_field semicolon t ≡ true → t ≡ field (value t) semicolon ++ from_number 1 t
unfolding from_number
first-split t e = field-split semicolon t (λ z. omega arith) e

pub line-shaped : (month : ℕ) (t : List ℕ) → begins_line month t ≡ true → t ≡ line month (kwh_at t) ++ behind_line t
unfolding begins_line
line-shaped month t e =
    let b : ℕ → Bool = λ k. begins_field semicolon (from_number k t) in
    let last = begins_field line_feed (from_number 6 t) in
    let front = and_left (begins_field semicolon t && eqb (value t) month) (b 1 && (b 2 && (b 3 && (b 4 && (b 5 && last))))) e in
    let e₁ = and_right (begins_field semicolon t && eqb (value t) month) (b 1 && (b 2 && (b 3 && (b 4 && (b 5 && last))))) e in
    let e₂ = and_right (b 1) (b 2 && (b 3 && (b 4 && (b 5 && last)))) e₁ in
    let e₃ = and_right (b 2) (b 3 && (b 4 && (b 5 && last))) e₂ in
    let e₄ = and_right (b 3) (b 4 && (b 5 && last)) e₃ in
    let e₅ = and_right (b 4) (b 5 && last) e₄ in
    let e₆ = and_right (b 5) last e₅ in
    let month-read : value t ≡ month = eqb-true (value t) month (and_right (begins_field semicolon t) (eqb (value t) month) front) in
    let f₆ = split 6 line_feed t (λ z. omega arith) e₆ in
    let f₅ = split 5 semicolon t (λ z. omega arith) (and_left (b 5) last e₅) ∙ ap (λ (u : List ℕ). field (kwh_at t 4) semicolon ++ u) f₆ in
    let f₄ = split 4 semicolon t (λ z. omega arith) (and_left (b 4) (b 5 && last) e₄) ∙ ap (λ (u : List ℕ). field (kwh_at t 3) semicolon ++ u) f₅ in
    let f₃ = split 3 semicolon t (λ z. omega arith) (and_left (b 3) (b 4 && (b 5 && last)) e₃) ∙ ap (λ (u : List ℕ). field (kwh_at t 2) semicolon ++ u) f₄ in
    let f₂ = split 2 semicolon t (λ z. omega arith) (and_left (b 2) (b 3 && (b 4 && (b 5 && last))) e₂)
    ∙ ap (λ (u : List ℕ). field (kwh_at t 1) semicolon ++ u) f₃ in
    let f₁ = split 1 semicolon t (λ z. omega arith) (and_left (b 1) (b 2 && (b 3 && (b 4 && (b 5 && last)))) e₁)
    ∙ ap (λ (u : List ℕ). field (kwh_at t 0) semicolon ++ u) f₂ in
    first-split t (and_left (begins_field semicolon t) (eqb (value t) month) front)
    ∙ ap₂ (λ (n : ℕ) (u : List ℕ). field n semicolon ++ u) month-read f₁
    ∙ sym (line-fields month (kwh_at t) (behind_line t))

-- WRITTEN, THEN READ: the text from each number on
module _ (month : ℕ) (kwh : ℕ → ℕ) (t : List ℕ) where
  abbrev u₆ : List ℕ
  u₆ = field (kwh 5) line_feed ++ t

  abbrev u₅ : List ℕ
  u₅ = field (kwh 4) semicolon ++ u₆

  abbrev u₄ : List ℕ
  u₄ = field (kwh 3) semicolon ++ u₅

  abbrev u₃ : List ℕ
  u₃ = field (kwh 2) semicolon ++ u₄

  abbrev u₂ : List ℕ
  u₂ = field (kwh 1) semicolon ++ u₃

  abbrev u₁ : List ℕ
  u₁ = field (kwh 0) semicolon ++ u₂

  text : line month kwh ++ t ≡ field month semicolon ++ u₁
  text = line-fields month kwh t

  from₁ : from_number 1 (line month kwh ++ t) ≡ u₁
  unfolding from_number
  from₁ = ap behind text ∙ field-behind month semicolon u₁ no-digit-semicolon

  next : (k n stop : ℕ) (u : List ℕ) → is_digit stop ≡ false → from_number k (line month kwh ++ t) ≡ field n stop ++ u
      → from_number (suc k) (line month kwh ++ t) ≡ u
  unfolding from_number
  next k n stop u h e = ap behind e ∙ field-behind n stop u h

  from₂ : from_number 2 (line month kwh ++ t) ≡ u₂
  from₂ = next 1 (kwh 0) semicolon u₂ no-digit-semicolon from₁

  from₃ : from_number 3 (line month kwh ++ t) ≡ u₃
  from₃ = next 2 (kwh 1) semicolon u₃ no-digit-semicolon from₂

  from₄ : from_number 4 (line month kwh ++ t) ≡ u₄
  from₄ = next 3 (kwh 2) semicolon u₄ no-digit-semicolon from₃

  from₅ : from_number 5 (line month kwh ++ t) ≡ u₅
  from₅ = next 4 (kwh 3) semicolon u₅ no-digit-semicolon from₄

  from₆ : from_number 6 (line month kwh ++ t) ≡ u₆
  from₆ = next 5 (kwh 4) semicolon u₆ no-digit-semicolon from₅

  pub line-rest : behind_line (line month kwh ++ t) ≡ t
  line-rest = next 6 (kwh 5) line_feed t no-digit-feed from₆

  begins : (n stop : ℕ) (u v : List ℕ) → is_digit stop ≡ false → v ≡ field n stop ++ u → begins_field stop v ≡ true
  begins n stop u v h e = ap (begins_field stop) e ∙ field-begins n stop u h

  pub line-begins : begins_line month (line month kwh ++ t) ≡ true
  unfolding begins_line
  line-begins =
      let month-read : value (line month kwh ++ t) ≡ month = ap value text ∙ field-value month semicolon u₁ no-digit-semicolon in
      and_both
      (and_both (begins month semicolon u₁ (line month kwh ++ t) no-digit-semicolon text) (eq-eqb (value (line month kwh ++ t)) month month-read))
      (and_both (begins (kwh 0) semicolon u₂ _ no-digit-semicolon from₁)
      (and_both (begins (kwh 1) semicolon u₃ _ no-digit-semicolon from₂)
      (and_both (begins (kwh 2) semicolon u₄ _ no-digit-semicolon from₃)
      (and_both (begins (kwh 3) semicolon u₅ _ no-digit-semicolon from₄)
      (and_both (begins (kwh 4) semicolon u₆ _ no-digit-semicolon from₅) (begins (kwh 5) line_feed t _ no-digit-feed from₆))))))

  number : (n stop : ℕ) (u v : List ℕ) → is_digit stop ≡ false → v ≡ field n stop ++ u → value v ≡ n
  number n stop u v h e = ap value e ∙ field-value n stop u h

  pub line-numbers : (p : ℕ) → p < readings → kwh_at (line month kwh ++ t) p ≡ kwh p
  line-numbers zero l = number (kwh 0) semicolon u₂ _ no-digit-semicolon from₁
  line-numbers (suc zero) l = number (kwh 1) semicolon u₃ _ no-digit-semicolon from₂
  line-numbers (suc (suc zero)) l = number (kwh 2) semicolon u₄ _ no-digit-semicolon from₃
  line-numbers (suc (suc (suc zero))) l = number (kwh 3) semicolon u₅ _ no-digit-semicolon from₄
  line-numbers (suc (suc (suc (suc zero)))) l = number (kwh 4) semicolon u₆ _ no-digit-semicolon from₅
  line-numbers (suc (suc (suc (suc (suc zero))))) l = number (kwh 5) line_feed t _ no-digit-feed from₆
  line-numbers (suc (suc (suc (suc (suc (suc p)))))) l = let z : ⊥ = omega arith in absurd z

pub line-language : (month : ℕ) → LineLanguage month
line-language month =
    record { shaped = line-shaped month; written = line-begins month; numbers = line-numbers month; rest = line-rest month }
