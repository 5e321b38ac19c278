-- A line is written field by field, the text line by line; no line is longer than 57 bytes, and the twelve fit into 675.
use Prim.Native.Nat.{ℕ, zero, suc, ◌+◌, ◌-◌, ◌*◌, ◌/◌, ◌≤◌, ◌<◌}
use mathlib.Core.Path.{◌≡◌, refl, sym, ap, ap₂, ◌∙◌}
use mathlib.Core.List.{List, [], ◌++◌, append_assoc}
use native.Mathlib.Nat.{zero-add}
use native.Mathlib.Decide.{dec_lt}
use native.Mathlib.Numerals.{add-one}
use native.Mathlib.Omega.{arith}
use lib.ListN.{length, length-append}
use Rattle.units.specs.Limits.{max_kwh}
use Rattle.codec.specs.Bytes.{stored}
use Rattle.codec.proofs.Pieces.{stored-then}
use Rattle.decimals.specs.Decimals.{field}
use Rattle.decimals.proofs.Written.{decimal_digit, length_more, decimal-short, decimal-long, field-length}
use Rattle.sheet_text.specs.Lines.{semicolon, months, readings, line, lines}
use Rattle.sheet_text.specs.Reading.{Within}
use Rattle.sheet_text.specs.Writing.{text_room}
use Rattle.sheet_text.specs.InnerSteps.{stop_at, numbers_to}

module _ (kwh : ℕ → ℕ) where
  pub numbers-none : [] ≡ numbers_to kwh 0
  unfolding numbers_to
  numbers-none = refl

  numbers_more : (p : ℕ) → numbers_to kwh (p + 1) ≡ numbers_to kwh p ++ field (kwh p) (stop_at p)
  unfolding numbers_to
  numbers_more p = rw add-one

  pub numbers-length : (p : ℕ) → length (numbers_to kwh (p + 1)) ≡ length (numbers_to kwh p) + length (field (kwh p) (stop_at p))
  numbers-length p = ap length (numbers_more p) ∙ length-append (numbers_to kwh p) (field (kwh p) (stop_at p))

  -- what is left from a place on
  rest-fits : (k p : ℕ) → p + k ≡ readings → length (numbers_to kwh p) ≤ length (numbers_to kwh readings)
  rest-fits zero p e = let end : p ≡ readings = omega arith in omega (arith, ap (λ (q : ℕ). length (numbers_to kwh q)) end)
  rest-fits (suc k) p e = let more = rest-fits k (p + 1) (omega arith) in omega (arith, numbers-length p)

  pub numbers-room : (p : ℕ) → p < readings → length (numbers_to kwh p) + length (field (kwh p) (stop_at p)) ≤ length (numbers_to kwh readings)
  numbers-room p l = let more = rest-fits (readings - (p + 1)) (p + 1) (omega arith) in omega (arith, numbers-length p)

  pub numbers-written : (at p : ℕ) (s : List ℕ) → p < readings → at + length (numbers_to kwh readings) ≤ length s
      → stored (at + length (numbers_to kwh p)) (field (kwh p) (stop_at p)) (stored at (numbers_to kwh p) s) ≡ stored at (numbers_to kwh (p + 1)) s
  numbers-written at p s l room =
      stored-then at (numbers_to kwh p) (field (kwh p) (stop_at p)) s (omega (arith, numbers-room p l))
      ∙ ap (λ (t : List ℕ). stored at t s) (sym (numbers_more p))

numbers-same : (f g : ℕ → ℕ) (n : ℕ) → ((p : ℕ) → p < n → f p ≡ g p) → numbers_to f n ≡ numbers_to g n
unfolding numbers_to
numbers-same f g zero h = refl
numbers-same f g (suc p) h = ap₂ (λ (t : List ℕ) (n : ℕ). t ++ field n (stop_at p)) (numbers-same f g p (λ i l. h i (omega arith))) (h p (omega arith))

-- the month in front
line-parts : (month : ℕ) (kwh : ℕ → ℕ) → field month semicolon ++ numbers_to kwh readings ≡ line month kwh
unfolding line numbers_to stop_at
line-parts month kwh = simp append_assoc

pub line_same : (month : ℕ) (f g : ℕ → ℕ) → ((p : ℕ) → p < readings → f p ≡ g p) → line month f ≡ line month g
line_same month f g h = sym (line-parts month f) ∙ ap (λ (t : List ℕ). field month semicolon ++ t) (numbers-same f g readings h) ∙ line-parts month g

pub line-length : (month : ℕ) (kwh : ℕ → ℕ) → length (line month kwh) ≡ length (field month semicolon) + length (numbers_to kwh readings)
line-length month kwh = ap length (sym (line-parts month kwh)) ∙ length-append (field month semicolon) (numbers_to kwh readings)

pub line-written : (at month : ℕ) (kwh : ℕ → ℕ) (s : List ℕ) → at + length (line month kwh) ≤ length s
    → stored (at + length (field month semicolon)) (numbers_to kwh readings) (stored at (field month semicolon) s) ≡ stored at (line month kwh) s
line-written at month kwh s room =
    stored-then at (field month semicolon) (numbers_to kwh readings) s (omega (arith, line-length month kwh))
    ∙ ap (λ (t : List ℕ). stored at t s) (line-parts month kwh)

-- eight digits hold a kWh, one the months to nine and two the others
field-short : (n stop : ℕ) → n ≤ max_kwh → length (field n stop) ≤ 9
field-short n stop h = omega (arith, field-length n stop, decimal-short 7 n (omega arith))

month-length : (m : ℕ) → m < months → length (field (m + 1) semicolon) ≡ 2 + (m + 1 - 9) - (m - 9)
month-length m h = by_size (dec_lt m 9)
  where
    by_size : Dec (m < 9) → length (field (m + 1) semicolon) ≡ 2 + (m + 1 - 9) - (m - 9)
    by_size (yes less) = omega (arith, field-length (m + 1) semicolon, ap length (decimal_digit (m + 1) (omega arith)))
    by_size (no more) =
        let tens : (m + 1) / 10 < 10 = omega arith in
        omega
        (arith, more, field-length (m + 1) semicolon, length_more (m + 1) (omega (arith, more)), ap length (decimal_digit ((m + 1) / 10) tens))

numbers-short : (kwh : ℕ → ℕ) (n : ℕ) → ((p : ℕ) → p < n → kwh p ≤ max_kwh) → length (numbers_to kwh n) ≤ 9 * n
unfolding numbers_to
numbers-short kwh zero h = omega arith
numbers-short kwh (suc p) h =
    let before = numbers-short kwh p (λ i l. h i (omega arith)) in
    let last = field-short (kwh p) (stop_at p) (h p (omega arith)) in
    omega (arith, length-append (numbers_to kwh p) (field (kwh p) (stop_at p)))

-- THE LINES of a year
pub lines_none : (kwh : ℕ → ℕ → ℕ) → [] ≡ lines 0 kwh
unfolding lines
lines_none kwh = refl

lines_more : (m : ℕ) (kwh : ℕ → ℕ → ℕ) → lines (m + 1) kwh ≡ lines m kwh ++ line (m + 1) (kwh m)
unfolding lines
lines_more m kwh = ap (λ (k : ℕ). lines k kwh) (add-one m)

pub lines-length : (m : ℕ) (kwh : ℕ → ℕ → ℕ) → length (lines (m + 1) kwh) ≡ length (lines m kwh) + length (line (m + 1) (kwh m))
lines-length m kwh = ap length (lines_more m kwh) ∙ length-append (lines m kwh) (line (m + 1) (kwh m))

lines-short : (m : ℕ) (kwh : ℕ → ℕ → ℕ) → m ≤ months → Within kwh → length (lines m kwh) ≤ 56 * m + (m - 9)
unfolding lines
lines-short zero kwh h within = omega arith
lines-short (suc m) kwh h within =
    let before = lines-short m kwh (omega arith) within in
    let numbers = numbers-short (kwh m) readings (λ p l. within m p (omega arith) l) in
    let front = month-length m (omega arith) in
    let whole = line-length (m + 1) (kwh m) in
    omega (arith, length-append (lines m kwh) (line (m + 1) (kwh m)))

pub lines-room : (m : ℕ) (kwh : ℕ → ℕ → ℕ) → m < months → Within kwh → length (lines m kwh) + length (line (m + 1) (kwh m)) ≤ text_room
lines-room m kwh h within = omega (arith, lines-length m kwh, lines-short (m + 1) kwh (omega arith) within)

pub year-room : (kwh : ℕ → ℕ → ℕ) → Within kwh → length (lines months kwh) ≤ text_room
year-room kwh within = omega (arith, lines-short months kwh (omega arith) within)

-- with the largest number everywhere there is no room left
full : ℕ → ℕ → ℕ
full m p = max_kwh

full-numbers : (m n : ℕ) → length (numbers_to (full m) n) ≡ 9 * n
unfolding numbers_to full
full-numbers m zero = refl
full-numbers m (suc p) =
    let before = full-numbers m p in
    let digits = decimal-short 7 max_kwh (omega arith) in
    let no-fewer = decimal-long 7 max_kwh (omega arith) in
    omega (arith, length-append (numbers_to (full m) p) (field max_kwh (stop_at p)), field-length max_kwh (stop_at p))

full-lines : (m : ℕ) → m ≤ months → length (lines m full) ≡ 56 * m + (m - 9)
unfolding lines
full-lines zero h = refl
full-lines (suc m) h =
    let before = full-lines m (omega arith) in
    let numbers = full-numbers m readings in
    let front = month-length m (omega arith) in
    let whole = line-length (m + 1) (full m) in
    omega (arith, length-append (lines m full) (line (m + 1) (full m)))

pub year-reached : length (lines months (λ m p. max_kwh)) ≡ text_room
unfolding full
year-reached = full-lines months (omega arith)

pub lines-written : (m : ℕ) (kwh : ℕ → ℕ → ℕ) (s : List ℕ) → m < months → Within kwh → length s ≡ text_room
    → stored (length (lines m kwh)) (line (m + 1) (kwh m)) (stored 0 (lines m kwh) s) ≡ stored 0 (lines (m + 1) kwh) s
lines-written m kwh s h within long =
    ap (λ (k : ℕ). stored k (line (m + 1) (kwh m)) (stored 0 (lines m kwh) s)) (sym (zero-add (length (lines m kwh))))
    ∙ stored-then 0 (lines m kwh) (line (m + 1) (kwh m)) s (omega (arith, lines-room m kwh h within))
    ∙ ap (λ (t : List ℕ). stored 0 t s) (sym (lines_more m kwh))

-- a text that so many turns write: after i of them it ends there, and the slice is what is told
pub record TextWritten (turns i place end : ℕ) (before after told : List ℕ) : Type 0 where
  pub within : i ≤ turns
  pub same : length after ≡ length before
  pub ends : end ≡ place
  pub written : after ≡ told
