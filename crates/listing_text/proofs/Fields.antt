-- A line is three fields one after the other, each of at most `longest_field` bytes.
use Prim.Native.Nat.{ℕ, zero, suc, ◌+◌, ◌*◌, ◌/◌, ◌%◌, ◌^◌, ◌≤◌, ◌<◌}
use mathlib.Core.Path.{◌≡◌, sym, ap, ◌∙◌}
use mathlib.Core.Bool.{Bool, true, false, cond}
use mathlib.Core.List.{List, [], ◌∷◌, ◌++◌, append_assoc}
use native.Mathlib.Nat.{pow-suc}
use native.Mathlib.Decide.{dec_lt}
use native.Mathlib.Omega.{arith}
use lib.Dec.{ltb}
use borrow.Author.Tests.{lt-ltb, le-ltb}
use lib.ListN.{length, length-append}
use Rattle.decimals.specs.Decimals.{decimal_of, line_feed}
use Rattle.account_steps.specs.declared.Account.{Account}
use Rattle.codec.specs.Bytes.{stored}
use Rattle.decimals.specs.Decimals as decimals
use Rattle.book_rules.specs.Book.{account_at}
use Rattle.listing_text.specs.Listing.{most_digits, decimal, blank, user_line}
use Rattle.listing_text.specs.InnerWritten.{longest_field, longest_user_line, field, account_line}
use Rattle.codec.proofs.Pieces.{stored-then}
use Rattle.decimals.proofs.Written.{decimal_digit, decimal-more}
use Rattle.decimals.specs.InnerWritten.{TextPut}

-- written in at most so many digits: they are no more, and they are those of the number where it has no more
most-digits : (k n : ℕ) → length (decimal_of k n) ≤ k
unfolding decimal_of
most-digits zero n = omega arith
most-digits (suc k) n = by_size (ltb n 10) (decimal_of k (n / 10)) (most-digits k (n / 10))
  where
    by_size : (small : Bool) (digits : List ℕ) → length digits ≤ k
        → length (cond small ((48 + n) ∷ []) (digits ++ ((48 + n % 10) ∷ []))) ≤ suc k
    by_size true digits l = omega arith
    by_size false digits l = rw length-append (omega arith)

all_digits : (k n : ℕ) → n < 10 ^ suc k → decimal_of (suc k) n ≡ decimals.decimal n
unfolding decimal_of
all_digits zero n h = let small : ltb n 10 ≡ true = lt-ltb n 10 (omega arith) in rw small (sym (decimal_digit n (omega arith)))
all_digits (suc k) n h = by_size (dec_lt n 10) (all_digits k)
  where
    by_size : Dec (n < 10) → ((m : ℕ) → m < 10 ^ suc k → decimal_of (suc k) m ≡ decimals.decimal m) → decimal_of (suc (suc k)) n ≡ decimals.decimal n
    by_size (yes less) before = let small : ltb n 10 ≡ true = lt-ltb n 10 less in rw small (sym (decimal_digit n less))
    by_size (no more) before =
        let ten : 10 ≤ n = omega (arith, more) in
        let rest : n / 10 < 10 ^ suc k = let p : 10 ^ suc (suc k) ≡ 10 ^ suc k * 10 = pow-suc 10 (suc k) in omega arith in
        let large : ltb n 10 ≡ false = le-ltb n 10 ten in
        rw large (ap (λ (l : List ℕ). l ++ ((48 + n % 10) ∷ [])) (before (n / 10) rest) ∙ sym (decimal-more n ten))

length-field : (n x : ℕ) → length (field n x) ≡ length (decimal n) + 1
unfolding field
length-field n x = length-append (decimal n) (x ∷ [])

pub field-short : (n x : ℕ) → length (field n x) ≤ longest_field
field-short n x = omega (arith, length-field n x, most-digits most_digits n)

-- twenty digits are all that a number of 64 bits has
pub field-whole : (n x : ℕ) → n < 2 ^ 64 → decimals.field n x ≡ field n x
unfolding field decimals.field
field-whole n x h = ap (λ (l : List ℕ). l ++ (x ∷ [])) (sym (all_digits 19 n (omega arith)))

length-line : (a : Account) → length (account_line a)
    ≡ length (field a.number.0 blank) + (length (field a.open_year blank) + length (field a.credit.0 line_feed))
unfolding account_line
length-line a = simp length-append

pub line-short : (a : Account) → length (account_line a) ≤ longest_user_line
line-short a =
    omega
    (arith, length-line a, field-short a.number.0 blank, field-short a.open_year blank, field-short a.credit.0 line_feed)

-- three pieces stored one after the other
stored-three : (at : ℕ) (bs cs ds s : List ℕ) → at + (length bs + (length cs + length ds)) ≤ length s
    → stored (at + length bs + length cs) ds (stored (at + length bs) cs (stored at bs s)) ≡ stored at (bs ++ (cs ++ ds)) s
stored-three at bs cs ds s h =
    let both : length (bs ++ cs) ≡ length bs + length cs = length-append bs cs in
    let place : at + length bs + length cs ≡ at + length (bs ++ cs) = omega arith in
    ap (stored (at + length bs + length cs) ds) (stored-then at bs cs s (omega arith))
    ∙ ap (λ (k : ℕ). stored k ds (stored at (bs ++ cs) s)) place
    ∙ stored-then at (bs ++ cs) ds s (omega arith)
    ∙ ap (λ (l : List ℕ). stored at l s) (append_assoc bs cs ds)

pub line-written : (at : ℕ) (a : Account) (s : List ℕ) (year credit end : ℕ) (s₁ s₂ s₃ : List ℕ) → at + longest_user_line ≤ length s
    → year ≡ at + length (field a.number.0 blank) → s₁ ≡ stored at (field a.number.0 blank) s
    → credit ≡ year + length (field a.open_year blank) → s₂ ≡ stored year (field a.open_year blank) s₁
    → end ≡ credit + length (field a.credit.0 line_feed) → s₃ ≡ stored credit (field a.credit.0 line_feed) s₂
    → TextPut at (account_line a) s s₃ end
unfolding account_line
line-written at a s year credit end s₁ s₂ s₃ h y e₁ k e₂ l e₃ =
    record {
      end = omega (arith, length-line a);
      stands = rw (e₃, k, e₂, e₁, y)
          (stored-three at (field a.number.0 blank) (field a.open_year blank) (field a.credit.0 line_feed) s
          (omega (arith, field-short a.number.0 blank, field-short a.open_year blank, field-short a.credit.0 line_feed)));
    }

-- the line of the user at an index is that of its account
pub user-line : (b : List ℕ) (i : ℕ) → user_line b i ≡ account_line (account_at b i)
unfolding user_line account_line field
user-line b i = simp append_assoc
