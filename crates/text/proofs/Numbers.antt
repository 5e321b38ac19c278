-- Digits in front of a text are digits, and numbers that are too few stay too few.
use Rattle.std.proofs.Common.{◌≡◌, ℕ, ◌<◌, ◌≤◌, ◌+◌, ◌*◌, ◌^◌, ◌-◌, zero, suc, Bool, true, false, cond, List, [], ◌∷◌, take, drop, get_or}
use Rattle.std.proofs.Common.{refl, arith, add-one, sym, ap, ◌∙◌, subst, length, length-drop, set}
use Rattle.std.proofs.Math.Bool.{and-false}
use Rattle.std.proofs.Math.Seq.{take-suc-set, drop-cons}
use Rattle.std.specs.Prelude.{Some, None}
use Rattle.std.specs.Char.{is_ascii_digit, digit_value}
use Rattle.std.specs.Str.Parse.{AllDigits, digits_value_after, digits_value}
use Rattle.std.proofs.lemmas.Bool.Decides.{nat_tests}
use Rattle.std.proofs.lemmas.List.{nil_from_length}
use borrow.Author.Tests.{lt-ltb, le-ltb}
use Rattle.text.specs.Text.{digits, number_of, field, fields}

digit_is : (b : ℕ) → digit_value b < 10 → (48 ≤ b) × (digit_value b ≡ b - 48)
digit_is b h = grind (arith, nat_tests)

digit_below : (b : ℕ) → is_ascii_digit b ≡ true → digit_value b < 10
digit_below b e = grind (arith, nat_tests)

lead : (text : List ℕ) → AllDigits 10 (take (digits text) text)
lead [] = tt
lead (b ∷ bs) = by_test (is_ascii_digit b) refl (lead bs)
  where
    by_test : (t : Bool) → is_ascii_digit b ≡ t → AllDigits 10 (take (digits bs) bs) → AllDigits 10 (take (cond t (1 + digits bs) 0) (b ∷ bs))
    by_test true e h = let more : 1 + digits bs ≡ suc (digits bs) = omega arith in rw more (digit_below b e, h)
    by_test false e h = tt

pub digits_in_front : (text front : List ℕ) → front ≡ take (digits text) text → AllDigits 10 front
digits_in_front text front e = subst (AllDigits 10) (sym e) (lead text)

-- a digit, and those behind it
pub more_digits : (ds : List ℕ) (k : ℕ) → k < length ds → AllDigits 10 (drop k ds)
    → (48 ≤ get_or ds k 0) × (digit_value (get_or ds k 0) ≡ get_or ds k 0 - 48) × AllDigits 10 (drop (k + 1) ds)
    × ((n : ℕ) → digits_value_after 10 n (drop k ds) ≡ digits_value_after 10 (n * 10 + (get_or ds k 0 - 48)) (drop (k + 1) ds))
more_digits ds k h digits =
    let split : drop k ds ≡ get_or ds k 0 ∷ drop (k + 1) ds = rw add-one (drop-cons ds k 0 h) in
    let both : AllDigits 10 (get_or ds k 0 ∷ drop (k + 1) ds) = subst (AllDigits 10) split digits in
    let is = digit_is (get_or ds k 0) both.0 in (
      is.0,
      is.1,
      both.1,
      λ n. ap (digits_value_after 10 n) split ∙ ap (λ d. digits_value_after 10 (n * 10 + d) (drop (k + 1) ds)) is.1,
    )

-- a number grows with its digits
at_least : (ds : List ℕ) (n : ℕ) → n ≤ digits_value_after 10 n ds
at_least [] n = omega arith
at_least (d ∷ ds) n = omega (arith, at_least ds (n * 10 + digit_value d))

pub no_number : (ds : List ℕ) → length ds ≡ 0 → number_of ds ≡ None
unfolding number_of
no_number ds h = rw h refl

pub number_too_large : (ds rest : List ℕ) (n : ℕ) → digits_value_after 10 n rest ≡ digits_value 10 ds → 2 ^ 64 ≤ n → number_of ds ≡ None
unfolding number_of
number_too_large ds rest n is h =
    let large : 2 ^ 64 ≤ digits_value 10 ds = omega (arith, at_least rest n, is, h) in
    rw (le-ltb (digits_value 10 ds) (2 ^ 64) large, and-false) refl

pub number_read : (ds : List ℕ) (n k : ℕ) → 0 < length ds → length ds ≤ k → n < 2 ^ 64 → digits_value_after 10 n (drop k ds) ≡ digits_value 10 ds
    → number_of ds ≡ Some n
unfolding number_of
number_read ds n k some all fits is =
    let none : drop k ds ≡ [] = nil_from_length (drop k ds) (omega (arith, all, length-drop k ds)) in
    let whole : n ≡ digits_value 10 ds = ap (digits_value_after 10 n) (sym none) ∙ is in
    let small : digits_value 10 ds < 2 ^ 64 = omega (arith, whole, fits) in
    rw (lt-ltb 0 (length ds) some, lt-ltb (digits_value 10 ds) (2 ^ 64) small) (ap Some (sym whole))

-- where one is missing, so many are not there
fields_stay : (n k m : ℕ) (text : List ℕ) → m ≡ n + k → fields k text ≡ None → fields m text ≡ None
unfolding fields
fields_stay zero k m text e h = let same : m ≡ k = omega arith in rw same h
fields_stay (suc n) k zero text e h = absurd (omega arith)
fields_stay (suc n) k (suc m) text e h = rw (fields_stay n k m text (omega arith) h)

pub fields_missing : (n k : ℕ) (text rest values : List ℕ) → k < n → fields k text ≡ Some (values, rest) → field rest ≡ None → fields n text ≡ None
unfolding fields
fields_missing n k text rest values h e none =
    let stop : fields (suc k) text ≡ None = rw (e, none) in
    fields_stay (n - suc k) (suc k) n text (omega arith) stop

-- and one more
pub fields_more : (k n : ℕ) (text rest after values : List ℕ) → k < length values → fields k text ≡ Some (take k values, rest)
    → field rest ≡ Some (n, after) → fields (k + 1) text ≡ Some (take (k + 1) (set values k n), after)
unfolding fields
fields_more k n text rest after values h e next = rw (add-one, e, next, take-suc-set)
