-- Writing and reading give each other back: a text begins with a number exactly if it begins with the digits that are written for
-- the number that is read there.
use Prim.Native.Nat.{ℕ, zero, suc, ◌+◌, ◌-◌, ◌*◌, ◌/◌, ◌%◌, ◌<◌, min}
use mathlib.Core.Path.{◌≡◌, refl, sym, ap, ap₂, ◌∙◌}
use mathlib.Core.Bool.{Bool, true, false, cond, not, ◌&&◌, ◌||◌, false≢true}
use mathlib.Core.List.{List, [], ◌∷◌, ◌++◌, append_assoc, append-nil}
use native.Mathlib.Nat.{zero-add}
use native.Mathlib.Decide.{dec_lt}
use native.Mathlib.Omega.{arith}
use borrow.Author.Tests.{lt-ltb, eq-eqb, eqb-true, ne_eqb, le-leb}
use lib.Dec.{ltb, eqb}
use lib.ListN.{length, get_or, take, drop, length-append, take-append-drop, drop_of_length-le}
use lib.Seq.{get_or_at, drop-cons, drop-append_seam}
use Rattle.units.proofs.Bools.{and_left, and_right, and_both}
use Rattle.decimals.specs.Decimals.{decimal, field, is_digit, digits, value_after, value, begins_number, begins_field, behind}
use Rattle.decimals.proofs.Written.{decimal_digit, decimal-more, front_length, field-length}
use Rattle.decimals.proofs.Digits.{inside, digit-bounds}

or-true : (a : Bool) → (a || true) ≡ true
or-true true = refl
or-true false = refl

or-false : (a : Bool) → (a || false) ≡ true → a ≡ true
or-false true e = refl
or-false false e = e

digit-is : (d : ℕ) → d < 10 → is_digit (48 + d) ≡ true
unfolding is_digit
digit-is d h = and_both (le-leb 48 (48 + d) (omega arith)) (le-leb (48 + d) 57 (omega arith))

-- WRITTEN, THEN READ: the digits of a number in front of a text
digits-front : (k n : ℕ) (t : List ℕ) → n < k → digits (decimal n ++ t) ≡ length (decimal n) + digits t
unfolding digits
digits-front zero n t h = let z : ⊥ = omega arith in absurd z
digits-front (suc k) n t h = by_size (dec_lt n 10) (digits-front k)
  where
    by_size : Dec (n < 10) → ((m : ℕ) (u : List ℕ) → m < k → digits (decimal m ++ u) ≡ length (decimal m) + digits u)
        → digits (decimal n ++ t) ≡ length (decimal n) + digits t
    by_size (yes less) before = rw (decimal_digit n less, digit-is n less) (omega arith)
    by_size (no more) before =
        let b = 48 + n % 10 in
        let one : is_digit b ≡ true = digit-is (n % 10) (omega arith) in
        let long : length (decimal n) ≡ length (decimal (n / 10)) + 1
        = ap length (decimal-more n (omega (arith, more))) ∙ length-append (decimal (n / 10)) (b ∷ []) in
        let text : decimal n ++ t ≡ decimal (n / 10) ++ (b ∷ t)
        = ap (λ (l : List ℕ). l ++ t) (decimal-more n (omega (arith, more))) ∙ append_assoc (decimal (n / 10)) (b ∷ []) t in
        let last : digits (b ∷ t) ≡ suc (digits t) = rw one in
        ap digits text ∙ before (n / 10) (b ∷ t) (omega (arith, more)) ∙ omega arith

value-front : (k n : ℕ) (t : List ℕ) → n < k → value (decimal n ++ t) ≡ value_after n t
unfolding value_after
value-front zero n t h = let z : ⊥ = omega arith in absurd z
value-front (suc k) n t h = by_size (dec_lt n 10) (value-front k)
  where
    by_size : Dec (n < 10) → ((m : ℕ) (u : List ℕ) → m < k → value (decimal m ++ u) ≡ value_after m u) → value (decimal n ++ t) ≡ value_after n t
    by_size (yes less) before =
        let digit : 0 * 10 + (48 + n - 48) ≡ n = omega arith in
        rw (decimal_digit n less, digit-is n less, digit)
    by_size (no more) before =
        let b = 48 + n % 10 in
        let one : is_digit b ≡ true = digit-is (n % 10) (omega arith) in
        let text : decimal n ++ t ≡ decimal (n / 10) ++ (b ∷ t)
        = ap (λ (l : List ℕ). l ++ t) (decimal-more n (omega (arith, more))) ∙ append_assoc (decimal (n / 10)) (b ∷ []) t in
        let whole : n / 10 * 10 + (b - 48) ≡ n = omega arith in
        let last : value_after (n / 10) (b ∷ t) ≡ value_after n t = rw (one, whole) in
        ap value text ∙ before (n / 10) (b ∷ t) (omega (arith, more)) ∙ last

digits_decimal : (n : ℕ) (t : List ℕ) → digits (decimal n ++ t) ≡ length (decimal n) + digits t
digits_decimal n t = digits-front (suc n) n t (omega arith)

value-decimal : (n : ℕ) (t : List ℕ) → value (decimal n ++ t) ≡ value_after n t
value-decimal n t = value-front (suc n) n t (omega arith)

-- the first digit of a number other than 0 is not `0`
first-digit : (k n : ℕ) (t : List ℕ) → n < k → 0 < n → 48 < get_or (decimal n ++ t) 0 0
first-digit zero n t h l = let z : ⊥ = omega arith in absurd z
first-digit (suc k) n t h l = by_size (dec_lt n 10) (first-digit k)
  where
    by_size : Dec (n < 10) → ((m : ℕ) (u : List ℕ) → m < k → 0 < m → 48 < get_or (decimal m ++ u) 0 0) → 48 < get_or (decimal n ++ t) 0 0
    by_size (yes less) before = rw (decimal_digit n less) (omega arith)
    by_size (no more) before =
        let text : decimal n ++ t ≡ decimal (n / 10) ++ ((48 + n % 10) ∷ t)
        = ap (λ (l : List ℕ). l ++ t) (decimal-more n (omega (arith, more))) ∙ append_assoc (decimal (n / 10)) ((48 + n % 10) ∷ []) t in
        rw text (before (n / 10) ((48 + n % 10) ∷ t) (omega (arith, more)) (omega (arith, more)))

field-regroup : (n stop : ℕ) (t : List ℕ) → field n stop ++ t ≡ decimal n ++ (stop ∷ t)
unfolding field
field-regroup n stop t = append_assoc (decimal n) (stop ∷ []) t

module _ (n stop : ℕ) (t : List ℕ) (other : is_digit stop ≡ false) where
  field-text : field n stop ++ t ≡ decimal n ++ (stop ∷ t)
  field-text = field-regroup n stop t

  field-digits : digits (field n stop ++ t) ≡ length (decimal n)
  unfolding digits
  field-digits =
      let none : digits (stop ∷ t) ≡ 0 = rw other in
      ap digits field-text ∙ digits_decimal n (stop ∷ t) ∙ omega arith

  pub field-value : value (field n stop ++ t) ≡ n
  unfolding value_after
  field-value =
      let none : value_after n (stop ∷ t) ≡ n = rw other in
      ap value field-text ∙ value-decimal n (stop ∷ t) ∙ none

  pub field-behind : behind (field n stop ++ t) ≡ t
  unfolding behind
  field-behind =
      let end : suc (digits (field n stop ++ t)) ≡ length (field n stop) = omega (arith, field-digits, field-length n stop) in
      ap (λ (k : ℕ). drop k (field n stop ++ t)) end ∙ drop-append_seam (field n stop) t

  field_plain : begins_number (field n stop ++ t) ≡ true
  unfolding begins_number
  field_plain = by_size (dec_lt n 10)
    where
      some : 0 < digits (field n stop ++ t)
      some = omega (arith, field-digits, front_length n)

      by_size : Dec (n < 10)
          → (ltb 0 (digits (field n stop ++ t)) && (eqb (digits (field n stop ++ t)) 1 || not (eqb (get_or (field n stop ++ t) 0 0) 48))) ≡ true
      by_size (yes less) =
          let one : digits (field n stop ++ t) ≡ 1 = field-digits ∙ ap length (decimal_digit n less) in
          rw one
      by_size (no more) =
          let first : 48 < get_or (field n stop ++ t) 0 0 = rw field-text (first-digit (suc n) n (stop ∷ t) (omega arith) (omega (arith, more))) in
          rw (lt-ltb 0 (digits (field n stop ++ t)) some, ne_eqb (get_or (field n stop ++ t) 0 0) 48 (λ e. omega arith))
          (or-true (eqb (digits (field n stop ++ t)) 1))

  pub field-begins : begins_field stop (field n stop ++ t) ≡ true
  unfolding begins_field
  field-begins =
      let byte : get_or (field n stop ++ t) (digits (field n stop ++ t)) 0 ≡ stop
      = ap₂ (λ (l : List ℕ) (k : ℕ). get_or l k 0) field-text field-digits ∙ get_or_at (decimal n) stop t 0 (length (decimal n)) refl in
      and_both field_plain (eq-eqb (get_or (field n stop ++ t) (digits (field n stop ++ t)) 0) stop byte)

-- READ, THEN WRITTEN: the digits behind a number other than 0 are written behind it
digits-behind : (n : ℕ) (t : List ℕ) → 0 < n → decimal (value_after n t) ≡ decimal n ++ take (digits t) t
unfolding digits value_after
digits-behind n [] l = sym (append-nil (decimal n))
digits-behind n (b ∷ bs) l = by-test (is_digit b) refl (λ m. digits-behind (n * 10 + (b - 48)) bs m)
  where
    by-test : (d : Bool) → is_digit b ≡ d
        → (0 < n * 10 + (b - 48) → decimal (value_after (n * 10 + (b - 48)) bs) ≡ decimal (n * 10 + (b - 48)) ++ take (digits bs) bs)
        → decimal (cond d (value_after (n * 10 + (b - 48)) bs) n) ≡ decimal n ++ take (cond d (suc (digits bs)) 0) (b ∷ bs)
    by-test true e rest =
        let bounds = digit-bounds b e in
        let more = n * 10 + (b - 48) in
        let tens : more / 10 ≡ n = omega arith in
        let ones : 48 + more % 10 ≡ b = omega arith in
        let one : decimal more ≡ decimal n ++ (b ∷ [])
        = decimal-more more (omega arith) ∙ ap₂ (λ (m d : ℕ). decimal m ++ (d ∷ [])) tens ones in
        rest (omega arith)
        ∙ ap (λ (l : List ℕ). l ++ take (digits bs) bs) one
        ∙ append_assoc (decimal n) (b ∷ []) (take (digits bs) bs)
    by-test false e rest = sym (append-nil (decimal n))

value-of-none : (t : List ℕ) → digits t ≡ 0 → value t ≡ 0
unfolding digits value_after
value-of-none [] e = refl
value-of-none (b ∷ bs) e = by-test (is_digit b) e
  where
    by-test : (d : Bool) → cond d (suc (digits bs)) 0 ≡ 0 → cond d (value_after (0 * 10 + (b - 48)) bs) 0 ≡ 0
    by-test true e = let z : ⊥ = omega arith in absurd z
    by-test false e = refl

-- the digits at the front of a text that begins with a number are those of the number
number-front : (t : List ℕ) → begins_number t ≡ true → decimal (value t) ≡ take (digits t) t
unfolding begins_number digits value_after
number-front [] h = absurd (false≢true h)
number-front (b ∷ bs) h = by-test (is_digit b) refl h
  where
    -- a first digit other than `0`, or a single one
    by_first : is_digit b ≡ true → Dec (48 < b) → (eqb (suc (digits bs)) 1 || not (eqb b 48)) ≡ true
        → decimal (value_after (b - 48) bs) ≡ b ∷ take (digits bs) bs
    by_first e (yes more) alone =
        let bounds = digit-bounds b e in
        let first : 48 + (b - 48) ≡ b = omega arith in
        digits-behind (b - 48) bs (omega arith)
        ∙ ap (λ (l : List ℕ). l ++ take (digits bs) bs) (decimal_digit (b - 48) (omega arith) ∙ ap (λ (d : ℕ). d ∷ []) first)
    by_first e (no less) alone =
        let bounds = digit-bounds b e in
        let zero-digit : b ≡ 48 = omega (arith, less) in
        let none : digits bs ≡ 0 = single (eq-eqb b 48 zero-digit) alone in
        rw (zero-digit, none, value-of-none bs none) (decimal_digit 0 (omega arith))
      where
        single : eqb b 48 ≡ true → (eqb (suc (digits bs)) 1 || not (eqb b 48)) ≡ true → digits bs ≡ 0
        single z e = omega (arith, eqb-true (suc (digits bs)) 1 (or-false (eqb (suc (digits bs)) 1) (rw z at e)))

    by-test : (d : Bool) → is_digit b ≡ d
        → (ltb 0 (cond d (suc (digits bs)) 0) && (eqb (cond d (suc (digits bs)) 0) 1 || not (eqb b 48))) ≡ true
        → decimal (cond d (value_after (0 * 10 + (b - 48)) bs) 0) ≡ take (cond d (suc (digits bs)) 0) (b ∷ bs)
    by-test true e p = rw zero-add (by_first e (dec_lt 48 b) (and_right (ltb 0 (suc (digits bs))) (eqb (suc (digits bs)) 1 || not (eqb b 48)) p))
    by-test false e p = absurd (false≢true p)

pub field-split : (stop : ℕ) (t : List ℕ) → (stop ≡ 0 → ⊥) → begins_field stop t ≡ true → t ≡ field (value t) stop ++ behind t
unfolding begins_field behind
field-split stop t h e =
    let byte : get_or t (digits t) 0 ≡ stop = eqb-true (get_or t (digits t) 0) stop (and_right (begins_number t) (eqb (get_or t (digits t) 0) stop) e) in
    let within : digits t < length t = inside t (digits t) (λ z. h (sym byte ∙ z)) in
    let plain : begins_number t ≡ true = and_left (begins_number t) (eqb (get_or t (digits t) 0) stop) e in
    sym (take-append-drop (digits t) t)
    ∙ ap₂ ◌++◌ (sym (number-front t plain)) (drop-cons t (digits t) 0 within ∙ ap (λ (b : ℕ). b ∷ drop (suc (digits t)) t) byte)
    ∙ sym (field-regroup (value t) stop (drop (suc (digits t)) t))

-- a field as it is read: the digits counted, the first one and the byte behind them looked at
pub field-tested : (t : List ℕ) (stop count first last : ℕ) (fits : Bool) → count ≡ digits t → first ≡ get_or t 0 0 → last ≡ get_or t count 0
    → fits ≡ ((ltb 0 count && (eqb count 1 || not (eqb first 48))) && eqb last stop) → fits ≡ begins_field stop t
unfolding begins_field begins_number
field-tested t stop count first last fits e f l b = rw (b, f, l, e)

-- what stands behind the byte, if only the end of the text
pub behind-clipped : (t : List ℕ) (count end : ℕ) → count ≡ digits t → end ≡ min (count + 1) (length t) → drop end t ≡ behind t
unfolding behind
behind-clipped t count end e m = either (dec_lt count (length t))
  where
    either : Dec (count < length t) → drop end t ≡ drop (suc (digits t)) t
    either (yes l) = let place : end ≡ suc (digits t) = omega (arith, e, m, l) in ap (λ (k : ℕ). drop k t) place
    either (no g) =
        drop_of_length-le t {i = end} (omega (arith, m, g)) ∙ sym (drop_of_length-le t {i = suc (digits t)} (omega (arith, e, g)))
