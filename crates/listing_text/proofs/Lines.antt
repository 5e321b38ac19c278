-- Printed numbers are the listing's, and the lines of the users ahead.
use Rattle.std.proofs.Common.{◌≡◌, ℕ, ◌^◌, ◌<◌, true, List, [], ◌∷◌, ◌++◌, refl, ap, sym, ◌∙◌, arith, append_assoc, append-nil}
use Rattle.std.specs.Fmt.{decimal as printed}
use Rattle.std.proofs.lemmas.Fmt.{AppendsLastDigit, decimal_from_appends, length-decimal-le}
use Rattle.std.proofs.lemmas.Bool.Decides.{nat_tests}
use mathlib.Core.Logic.{◌≢◌, inr}
use Rattle.account_steps.specs.declared.Account.{Account}
use Rattle.decimals.specs.Decimals.{decimal_of, line_feed}
use Rattle.book_rules.specs.Book.{length_fits, sound, is_user, account_at, first_user, next_of}
use Rattle.book_rules.specs.Chains.{chain_from, users_of}
use Rattle.book_rules.proofs.Faultless.{sound-faultless}
use Rattle.chains.proofs.Chain.{chain-none}
use Rattle.chains.proofs.Links.{users-fall}
use Rattle.chains.proofs.Walks.{walk-chain}
use Rattle.refusals.specs.declared.Refusal.{Refusal}
use Rattle.refusals.specs.declared.Refusal.TheVariants.{BookLength, FaultyRecord}
use Rattle.refusals.specs.Refusals.{number_of}
use Rattle.check_book.specs.Verdicts.{BookRefused}
use Rattle.listing_text.specs.Listing.{most_digits, decimal, blank, user_line, user_lines, refused, listing}

last_digit : AppendsLastDigit decimal_of
unfolding decimal_of
last_digit = record { one = λ k n small. grind (arith, nat_tests); more = λ k n large. grind (arith, nat_tests) }

-- twenty digits are all that a number of 64 bits has
printed_is : (n : ℕ) → n < 2 ^ 64 → printed n ≡ decimal n
printed_is n small = sym (decimal_from_appends decimal_of last_digit most_digits n small (length-decimal-le most_digits n (omega arith) (omega arith) small))

-- the line of an account
abbrev pub line_text : Account → List ℕ
line_text a = decimal a.number.0 ++ (blank ∷ (decimal a.open_year ++ (blank ∷ (decimal a.credit.0 ++ (line_feed ∷ [])))))

pub account_printed : (a : Account) → a.number.0 < 2 ^ 64 → a.open_year < 2 ^ 64 → a.credit.0 < 2 ^ 64
    → printed a.number.0 ++ (32 ∷ (printed a.open_year ++ (32 ∷ (printed a.credit.0 ++ (10 ∷ []))))) ≡ line_text a
account_printed a number year credit = rw (printed_is a.number.0 number, printed_is a.open_year year, printed_is a.credit.0 credit)

-- what is written, and the lines of the users from an index on
abbrev pub Listing : List ℕ → List ℕ → ℕ → Type 0
Listing b text at = text ++ user_lines b (chain_from (next_of b) at) ≡ user_lines b (users_of b)

pub begins : (b : List ℕ) → Listing b [] (first_user b)
unfolding users_of
begins b = refl

pub ends : (b text : List ℕ) (at : ℕ) → Listing b text at → at ≡ 0 → text ≡ user_lines b (users_of b)
unfolding user_lines
ends b text at s end =
    sym (append-nil text) ∙ ap (λ is. text ++ user_lines b is) (sym (ap (chain_from (next_of b)) end ∙ chain-none (next_of b))) ∙ s

module _ (b : List ℕ) (long : length_fits b ≡ true) (good : sound b ≡ true) (at : ℕ) (user : is_user b at ≡ true) (more : at ≢ 0) where
  line_here : user_lines b (chain_from (next_of b) at) ≡ line_text (account_at b at) ++ user_lines b (chain_from (next_of b) (next_of b at))
  unfolding user_lines user_line
  line_here = ap (user_lines b) (walk-chain (λ i. is_user b i ≡ true) (next_of b) (users-fall b (sound-faultless b long good)) at (inr user) more)

  pub goes_on : (text after : List ℕ) (a : Account) → Listing b text at → a ≡ account_at b at → after ≡ text ++ line_text a → Listing b after (next_of b at)
  goes_on text after a s read w =
      ap (λ l. l ++ user_lines b (chain_from (next_of b) (next_of b at))) (w ∙ ap (λ x. text ++ line_text x) read)
      ∙ append_assoc text (line_text (account_at b at)) (user_lines b (chain_from (next_of b) (next_of b at)))
      ∙ ap (λ l. text ++ l) (sym line_here)
      ∙ s

-- "A book refused with 1 or 2 prints only `refused 1` or `refused 2`."
pub refusal_printed : (b : List ℕ) (e : Refusal) → BookRefused b e
    → 114 ∷ 101 ∷ 102 ∷ 117 ∷ 115 ∷ 101 ∷ 100 ∷ 32 ∷ (printed (number_of e) ++ (10 ∷ [])) ≡ listing b
unfolding listing refused
refusal_printed b BookLength short = rw (printed_is 1 (omega arith), short)
refusal_printed b (FaultyRecord i) o = rw (printed_is 2 (omega arith), o.fits, o.unsound)
refusal_printed b other z = absurd z
