-- Digits in hexadecimal, two for each byte, and the bytes that they spell.
use Rattle.std.proofs.Common.{◌≡◌, ℕ, ◌+◌, ◌*◌, ◌/◌, ◌%◌, ◌≤◌, ◌<◌, zero, suc, true, false, List, [], ◌∷◌, ◌++◌, length, get_or, set, take, drop, eqb}
use Rattle.std.proofs.Common.{refl, sym, ap, subst, ◌∙◌, append_assoc, append-nil, length-drop, arith, add-one}
use Rattle.std.proofs.Math.Seq.{take-suc-set}
use lib.Seq.{drop-cons, drop-drop, length-take-le, take_all, take_at}
use lib.ListN.{drop_of_length-le}
use Rattle.std.specs.List.{list_all, flat_map}
use Rattle.std.specs.Str.{IsAscii}
use Rattle.std.specs.Fmt.{digit_glyph}
use Rattle.std.proofs.lemmas.Str.{IsAscii-append}
use Rattle.std.proofs.lemmas.Grind.{common_steps, flat_map-append}
use Rattle.std.proofs.lemmas.Bool.Decides.{nat_tests}
use Rattle.units.proofs.Bools.{and_left, and_right}
use Rattle.text.specs.Text.{is_hex_digit, is_hex, byte_digits, hex_of}

-- WRITTEN: two digits for each byte, and one byte more
hex_length : (bytes : List ℕ) → length (hex_of bytes) ≡ 2 * length bytes
unfolding hex_of
hex_length [] = refl
hex_length (b ∷ bs) = omega (arith, hex_length bs)

hex_of_more : (bytes : List ℕ) (i : ℕ) → i < length bytes → hex_of (take (i + 1) bytes) ≡ hex_of (take i bytes) ++ byte_digits (get_or bytes i 0)
unfolding hex_of
hex_of_more bytes i l = grind (arith, common_steps, flat_map-append byte_digits)

pub hex_of_append : (xs ys : List ℕ) → hex_of (xs ++ ys) ≡ hex_of xs ++ hex_of ys
unfolding hex_of
hex_of_append xs ys = flat_map-append byte_digits xs ys

pub hex_of_none : hex_of [] ≡ []
unfolding hex_of
hex_of_none = refl

-- two places behind a list, set one after the other
set_behind : (xs t : List ℕ) (i a b : ℕ) → i ≡ length xs → 2 ≤ length t → set (set (xs ++ t) i a) (i + 1) b ≡ xs ++ (a ∷ (b ∷ drop 2 t))
set_behind [] (c ∷ (d ∷ t)) i a b e l = rw e refl
set_behind [] [] i a b e l = absurd (omega arith)
set_behind [] (c ∷ []) i a b e l = absurd (omega arith)
set_behind (x ∷ xs) t i a b e l =
    let here : i ≡ suc (length xs) = e in
    let next : suc (length xs) + 1 ≡ suc (length xs + 1) = omega arith in
    rw (here, next) (ap (λ (r : List ℕ). x ∷ r) (set_behind xs t (length xs) a b refl l))

pub byte_written : (bytes before out : List ℕ) (k a b : ℕ) → k < length bytes → 2 * length bytes ≤ length before
    → out ≡ hex_of (take k bytes) ++ drop (2 * k) before → a ≡ digit_glyph false (get_or bytes k 0 / 16)
    → b ≡ digit_glyph false (get_or bytes k 0 % 16)
    → set (set out (2 * k) a) (2 * k + 1) b ≡ hex_of (take (k + 1) bytes) ++ drop (2 * (k + 1)) before
byte_written bytes before out k a b l room so_far high low =
    let front = hex_of (take k bytes) in
    let place : 2 * k ≡ length front = omega (arith, hex_length (take k bytes), length-take-le k bytes (omega (arith, l))) in
    let left : 2 ≤ length (drop (2 * k) before) = rw length-drop (omega (arith, l, room)) in
    let end : 2 * k + 2 ≡ 2 * (k + 1) = omega arith in
    let behind : drop 2 (drop (2 * k) before) ≡ drop (2 * (k + 1)) before = drop-drop 2 (2 * k) before ∙ ap (λ (n : ℕ). drop n before) end in
    let written : set (set out (2 * k) a) (2 * k + 1) b ≡ front ++ (a ∷ (b ∷ drop 2 (drop (2 * k) before)))
    = rw so_far (set_behind front (drop (2 * k) before) (2 * k) a b place left) in
    let spelt : front ++ (a ∷ (b ∷ drop 2 (drop (2 * k) before))) ≡ front ++ (byte_digits (get_or bytes k 0) ++ drop (2 * (k + 1)) before)
    = rw (behind, high, low) refl in
    let more : (front ++ byte_digits (get_or bytes k 0)) ++ drop (2 * (k + 1)) before ≡ hex_of (take (k + 1) bytes) ++ drop (2 * (k + 1)) before
    = ap (λ (r : List ℕ). r ++ drop (2 * (k + 1)) before) (sym (hex_of_more bytes k l)) in
    written ∙ spelt ∙ sym (append_assoc front (byte_digits (get_or bytes k 0)) (drop (2 * (k + 1)) before)) ∙ more

-- the digits are in ASCII
glyph_small : (n : ℕ) → n < 16 → digit_glyph false n < 128
glyph_small n h = grind (arith, nat_tests)

digits_ascii : (b : ℕ) → b < 256 → IsAscii (byte_digits b)
digits_ascii b h zero = glyph_small (b / 16) (omega arith)
digits_ascii b h (suc zero) = glyph_small (b % 16) (omega arith)
digits_ascii b h (suc (suc i)) = omega arith

pub ascii_none : IsAscii (hex_of [])
unfolding hex_of
ascii_none i = omega arith

pub ascii_more : (bytes : List ℕ) (k : ℕ) → k < length bytes → get_or bytes k 0 < 256 → IsAscii (hex_of (take k bytes))
    → IsAscii (hex_of (take (k + 1) bytes))
ascii_more bytes k l small h =
    subst IsAscii (sym (hex_of_more bytes k l)) (IsAscii-append (hex_of (take k bytes)) (byte_digits (get_or bytes k 0)) h (digits_ascii (get_or bytes k 0) small))

pub ascii_all : (bytes : List ℕ) (k : ℕ) → length bytes ≤ k → IsAscii (hex_of (take k bytes)) → IsAscii (hex_of bytes)
ascii_all bytes k l h = subst (λ (r : List ℕ). IsAscii (hex_of r)) (take_all k bytes l) h

-- the digits at the front of a buffer
pub front_digits : (bytes behind shown : List ℕ) (count : ℕ) → count ≡ 2 * length bytes → shown ≡ take count (hex_of bytes ++ behind)
    → shown ≡ hex_of bytes
front_digits bytes behind shown count c e = e ∙ take_at (hex_of bytes) behind count (hex_length bytes ∙ sym c)

-- READ: the digits of a spelling, of which there are two for each byte
digit_at : (s : List ℕ) (i : ℕ) → list_all is_hex_digit s ≡ true → i < length s → is_hex_digit (get_or s i 0) ≡ true
digit_at [] i e l = absurd (omega arith)
digit_at (b ∷ bs) zero e l = and_left _ _ e
digit_at (b ∷ bs) (suc i) e l = digit_at bs i (and_right (is_hex_digit b) _ e) (omega (arith, l))

pub hex_digit_at : (s : List ℕ) (i : ℕ) → is_hex s ≡ true → i < length s → is_hex_digit (get_or s i 0) ≡ true
unfolding is_hex
hex_digit_at s i e l = digit_at s i (and_right _ _ e) l

halved : (n : ℕ) → eqb (n % 2) 0 ≡ true → n ≡ 2 * (n / 2)
halved n e = grind (arith, nat_tests)

pub hex_even : (s : List ℕ) → is_hex s ≡ true → length s ≡ 2 * (length s / 2)
unfolding is_hex
hex_even s e = halved (length s) (and_left _ _ e)

one_more : (bytes t : List ℕ) (a b high low : ℕ) → high < 16 → low < 16 → digit_glyph false high ≡ a → digit_glyph false low ≡ b
    → hex_of (bytes ++ ((16 * high + low) ∷ [])) ++ t ≡ hex_of bytes ++ (a ∷ (b ∷ t))
unfolding hex_of
one_more bytes t a b high low h l e f =
    let first : (16 * high + low) / 16 ≡ high = omega arith in
    let second : (16 * high + low) % 16 ≡ low = omega arith in
    rw (flat_map-append byte_digits bytes ((16 * high + low) ∷ []), first, second, e, f) (append_assoc (flat_map byte_digits bytes) (a ∷ b ∷ []) t)

pair_at : (s : List ℕ) (k : ℕ) → 2 * k + 1 < length s → drop (2 * k) s ≡ get_or s (2 * k) 0 ∷ (get_or s (2 * k + 1) 0 ∷ drop (2 * (k + 1)) s)
pair_at s k l =
    let one : 2 * k + 1 ≡ suc (2 * k) = omega arith in
    let two : 2 * (k + 1) ≡ suc (suc (2 * k)) = omega arith in
    drop-cons s (2 * k) 0 (omega (arith, l))
    ∙ rw (one, two) (ap (λ (r : List ℕ). get_or s (2 * k) 0 ∷ r) (drop-cons s (suc (2 * k)) 0 (omega (arith, l))))

-- a byte more is read, and the bytes behind it stay
pub byte_read : (digits out : List ℕ) (k high low : ℕ) → 2 * k + 1 < length digits → k < length out → high < 16 → low < 16
    → digit_glyph false high ≡ get_or digits (2 * k) 0 → digit_glyph false low ≡ get_or digits (2 * k + 1) 0
    → hex_of (take k out) ++ drop (2 * k) digits ≡ digits
    → hex_of (take (k + 1) (set out k (16 * high + low))) ++ drop (2 * (k + 1)) digits ≡ digits
byte_read digits out k high low l room h g e f so_far =
    let byte = 16 * high + low in
    let taken : take (k + 1) (set out k byte) ≡ take k out ++ (byte ∷ []) = rw add-one (take-suc-set out k byte room) in
    ap (λ (r : List ℕ). hex_of r ++ drop (2 * (k + 1)) digits) taken
    ∙ one_more (take k out) (drop (2 * (k + 1)) digits) _ _ high low h g e f
    ∙ ap (λ (r : List ℕ). hex_of (take k out) ++ r) (sym (pair_at digits k l))
    ∙ so_far

drop_set : (s : List ℕ) (k x : ℕ) → drop (suc k) (set s k x) ≡ drop (suc k) s
drop_set [] k x = refl
drop_set (b ∷ bs) zero x = refl
drop_set (b ∷ bs) (suc k) x = drop_set bs k x

pub rest_stays : (before out : List ℕ) (k x : ℕ) → drop k out ≡ drop k before → drop (k + 1) (set out k x) ≡ drop (k + 1) before
rest_stays before out k x e = rw add-one (drop_set out k x) ∙ sym (drop-drop 1 k out) ∙ ap (drop 1) e ∙ drop-drop 1 k before

-- all of them are read
pub spelling_ends : (digits out : List ℕ) (k : ℕ) → is_hex digits ≡ true → k ≡ length digits / 2
    → hex_of (take k out) ++ drop (2 * k) digits ≡ digits → hex_of (take k out) ≡ digits
spelling_ends digits out k e half so_far =
    let none : drop (2 * k) digits ≡ [] = drop_of_length-le digits (omega (arith, half, hex_even digits e)) in
    sym (append-nil _) ∙ ap (λ (r : List ℕ). hex_of (take k out) ++ r) (sym none) ∙ so_far

pub whole : (digits out : List ℕ) (k : ℕ) → length out ≡ k → hex_of (take k out) ≡ digits → hex_of out ≡ digits
whole digits out k e h = ap hex_of (sym (take_all k out (omega (arith, e)))) ∙ h

pub ruleset byte_by_byte = (hex_digit_at, hex_even, byte_read, rest_stays, spelling_ends)
