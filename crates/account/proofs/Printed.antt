-- What the format of an amount prints is the amount.
use Rattle.std.proofs.Common.{◌≡◌, ℕ, zero, suc, ◌+◌, ◌-◌, ◌/◌, ◌%◌, ◌<◌, ◌≤◌, ◌^◌, Bool, true, false, List, [], ◌∷◌, ◌++◌, length}
use Rattle.std.proofs.Common.{refl, sym, ap, ◌∙◌, append_assoc, append-nil, length-append, arith}
use Rattle.std.proofs.lemmas.Bool.{lt-ltb}
use Rattle.std.proofs.lemmas.Fmt.{length-decimal-le, decimal_digit, decimal_by_steps}
use Rattle.std.specs.Prelude.{replicate}
use Rattle.std.specs.Prelude.{ℤ, pos, negsuc, ◌-ℤ◌}
use Rattle.std.specs.Int.{w64}
use Rattle.std.proofs.Common.{to_z, of_z}
use Rattle.std.proofs.lemmas.Int.{to_z_pos, to_z-of_z}
use Rattle.std.specs.List.{repeat}
use Rattle.std.specs.Fmt.{decimal, styled_signed_decimal, format_spec, padded_integral, padded, char_count, take_chars, sign_text}
use Rattle.account.specs.Amounts.{amount, last_digits, blanks_before}

repeat_one : (k b : ℕ) → repeat k (b ∷ []) ≡ replicate k b
repeat_one zero b = refl
repeat_one (suc k) b = ap (λ (l : List ℕ). b ∷ l) (repeat_one k b)

assembled : (p q : ℕ) (sign ds : List ℕ) → p ≡ q → repeat p (32 ∷ []) ++ sign ++ [] ++ [] ++ (ds ++ repeat (p - p) (32 ∷ [])) ≡ replicate q 32 ++ (sign ++ ds)
assembled p q sign ds e =
    let none : p - p ≡ 0 = omega arith in
    rw (none, repeat_one, e) (simp (append-nil, append_assoc) refl)

-- digits at the right of twelve places, behind a sign
pub right : (negative : Bool) (ds : List ℕ) → padded_integral (format_spec 32 3 0 12 18446744073709551615) negative [] ds
    ≡ replicate (12 - length (sign_text negative ++ ds)) 32 ++ (sign_text negative ++ ds)
unfolding padded_integral char_count lib.Utf8.encode
right true ds = assembled (12 - length ds - 1 - 0) (12 - suc (length ds)) (45 ∷ []) ds (omega arith)
right false ds = assembled (12 - length ds - 0 - 0) (12 - length ds) [] ds (omega arith)

-- zeros in front of at most five digits
five : (ds : List ℕ) → padded_integral (format_spec 32 0 4 5 18446744073709551615) false [] ds ≡ replicate (5 - length ds) 48 ++ ds
unfolding padded_integral char_count
five ds =
    let same : 5 - length ds - 0 - 0 ≡ 5 - length ds = omega arith in
    simp append-nil (ap (λ (k : ℕ). replicate k 48 ++ ds) same)

blanks : (n : ℕ) → blanks_before (n + 6) ≡ suc (12 - n)
blanks n = grind arith

one_more : (k b : ℕ) → replicate k b ++ (b ∷ []) ≡ b ∷ replicate k b
one_more zero b = refl
one_more (suc k) b = ap (λ (l : List ℕ). b ∷ l) (one_more k b)

digits_of_zero : (k : ℕ) → last_digits k 0 ≡ replicate k 48
digits_of_zero zero = refl
digits_of_zero (suc k) = ap (λ (l : List ℕ). l ++ (48 ∷ [])) (digits_of_zero k) ∙ one_more k 48

-- the last digits of a number that has no more are its digits, with zeros in front
Padded : ℕ → List ℕ → Type 0
Padded n ds = (k : ℕ) → length ds ≤ k → replicate (k - length ds) 48 ++ ds ≡ last_digits k n

one_digit : (n : ℕ) → n < 10 → Padded n ((48 + n) ∷ [])
unfolding Padded
one_digit n small zero none = absurd (omega arith)
one_digit n small (suc k) some =
    let front : n / 10 ≡ 0 = omega arith in
    let last : n % 10 ≡ n = omega arith in
    let left : suc k - 1 ≡ k = omega arith in
    rw (front, last, left, digits_of_zero k) refl

digit_more : (n : ℕ) (ds : List ℕ) → 10 ≤ n → Padded (n / 10) ds → Padded n (ds ++ ((48 + n % 10) ∷ []))
unfolding Padded
digit_more n ds large front zero none = absurd (omega (arith, length-append ds ((48 + n % 10) ∷ [])))
digit_more n ds large front (suc k) some =
    let more = length-append ds ((48 + n % 10) ∷ []) in
    let left : suc k - length (ds ++ ((48 + n % 10) ∷ [])) ≡ k - length ds = omega (arith, more) in
    rw left
    (sym (append_assoc (replicate (k - length ds) 48) ds ((48 + n % 10) ∷ []))
    ∙ ap (λ (l : List ℕ). l ++ ((48 + n % 10) ∷ [])) (front k (omega (arith, more))))

same_digits : (t : ℕ) → last_digits 5 (t % 100000) ≡ last_digits 5 t
same_digits t =
    let first : t % 100000 % 10 ≡ t % 10 = omega arith in
    let second : t % 100000 / 10 % 10 ≡ t / 10 % 10 = omega arith in
    let third : t % 100000 / 10 / 10 % 10 ≡ t / 10 / 10 % 10 = omega arith in
    let fourth : t % 100000 / 10 / 10 / 10 % 10 ≡ t / 10 / 10 / 10 % 10 = omega arith in
    let fifth : t % 100000 / 10 / 10 / 10 / 10 % 10 ≡ t / 10 / 10 / 10 / 10 % 10 = omega arith in
    rw (first, second, third, fourth, fifth) refl

-- what is left of an amount below a euro
pub decimals : (t : ℕ) → padded_integral (format_spec 32 0 4 5 18446744073709551615) false [] (decimal (t % 100000)) ≡ last_digits 5 t
unfolding Padded
decimals t =
    let small : t % 100000 < 100000 = omega arith in
    let short = length-decimal-le 5 (t % 100000) (omega arith) (omega arith) (omega arith) in
    five (decimal (t % 100000)) ∙ decimal_by_steps Padded one_digit digit_more (t % 100000) (omega arith) 5 short ∙ same_digits t

-- An amount: a blank, the euros at the right of twelve places behind their sign, a point, and the decimals.
columns : (sign euros : List ℕ) → 32 ∷ (replicate (12 - length (sign ++ euros)) 32 ++ (sign ++ euros)) ≡ replicate (blanks_before (length euros + 6 + length sign)) 32 ++ (sign ++ euros)
columns sign euros =
    let long : length euros + 6 + length sign ≡ length (sign ++ euros) + 6 = omega (arith, length-append sign euros) in
    rw (long, blanks (length (sign ++ euros))) refl

pub printed : (negative : Bool) (t : ℕ)
    → 32 ∷ (padded_integral (format_spec 32 3 0 12 18446744073709551615) negative [] (decimal (t / 100000))
    ++ 46 ∷ padded_integral (format_spec 32 0 4 5 18446744073709551615) false [] (decimal (t % 100000))) ≡ amount negative t
unfolding amount
printed negative t =
    let sign = sign_text negative in
    let euros = decimal (t / 100000) in
    rw (right negative euros, decimals t)
    (ap (λ (l : List ℕ). l ++ (46 ∷ last_digits 5 t)) (columns sign euros) ∙ simp append_assoc refl)

-- Below a euro the sign stands before a zero.
pub printed_below : (t : ℕ) → t / 100000 ≡ 0
    → 32 ∷ (padded (format_spec 32 3 0 12 18446744073709551615) (45 ∷ 48 ∷ [])
    ++ 46 ∷ padded_integral (format_spec 32 0 4 5 18446744073709551615) false [] (decimal (t % 100000))) ≡ amount true t
unfolding amount padded char_count take_chars lib.Utf8.encode
printed_below t none = rw (decimals t, none, decimal_digit 0 (omega arith)) refl

-- The euros below zero, as the program works them.
zero_less : (k : ℕ) → pos 0 -ℤ pos (suc k) ≡ negsuc k
zero_less k = rw (lt-ltb 0 (suc k) (omega arith)) (ap negsuc (let less : suc k - 1 ≡ k = omega arith in less))

below_zero : (e : ℕ) → 0 < e → e < 2 ^ 63 → to_z w64 (of_z w64 (pos 0 -ℤ to_z w64 e)) ≡ negsuc (e - 1)
below_zero zero some small = absurd (omega arith)
below_zero (suc k) some small =
    let left : suc k - 1 ≡ k = omega arith in
    let negated = ap (λ (z : ℤ). pos 0 -ℤ z) (to_z_pos w64 (suc k) small) ∙ zero_less k in
    ap (λ (z : ℤ). to_z w64 (of_z w64 z)) negated ∙ to_z-of_z w64 (negsuc k) (omega arith) ∙ ap negsuc (sym left)

pub printed_negative : (t : ℕ) → 0 < t / 100000 → t < 2 ^ 64
    → 32 ∷ (styled_signed_decimal (format_spec 32 3 0 12 18446744073709551615) (to_z w64 (of_z w64 (pos 0 -ℤ to_z w64 (t / 100000))))
    ++ 46 ∷ padded_integral (format_spec 32 0 4 5 18446744073709551615) false [] (decimal (t % 100000))) ≡ amount true t
printed_negative t some small =
    let size : suc (t / 100000 - 1) ≡ t / 100000 = omega arith in
    rw (below_zero (t / 100000) some (omega arith), size) (printed true t)
