-- "The listing program reads a book on standard input and prints, in chain order, number, open year and credit of each
-- user, decimal, one blank between. .. A line feed ends each line. A book refused with 1 or 2 prints only `refused 1` or
-- `refused 2`." (document 01, "Figures to prove, one table")
use Rattle.std.specs.Prelude.{ℕ, cond, List, [], ◌∷◌, ◌++◌}
use Rattle.decimals.specs.Decimals.{decimal_of, line_feed}
use Rattle.book_rules.specs.Book.{length_fits, sound, account_at}
use Rattle.book_rules.specs.Chains.{users_of}

-- twenty digits hold every number of 64 bits
abbrev pub most_digits : ℕ
most_digits = 20

-- the decimal digits of a number as bytes, at most so many
abbrev pub decimal : ℕ → List ℕ
decimal n = decimal_of most_digits n

abbrev pub blank : ℕ
blank = 32

-- the line of the user at an index
unfoldable pub user_line : List ℕ → ℕ → List ℕ
user_line b i =
    decimal (account_at b i).number.0
    ++ (blank ∷ (decimal (account_at b i).open_year ++ (blank ∷ (decimal (account_at b i).credit.0 ++ (line_feed ∷ [])))))

unfoldable pub user_lines : List ℕ → List ℕ → List ℕ
user_lines b [] = []
user_lines b (i ∷ is) = user_line b i ++ user_lines b is

-- "refused ", the number and a line feed
unfoldable pub refused : ℕ → List ℕ
refused n = 114 ∷ 101 ∷ 102 ∷ 117 ∷ 115 ∷ 101 ∷ 100 ∷ blank ∷ (decimal n ++ (line_feed ∷ []))

unfoldable pub listing : List ℕ → List ℕ
listing b = cond (length_fits b) (cond (sound b) (user_lines b (users_of b)) (refused 2)) (refused 1)
