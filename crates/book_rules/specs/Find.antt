-- The user with a number ("6 not present."): a search of all records below u.
use Rattle.std.specs.Prelude.{ℕ, zero, suc, cond, ◌&&◌, List, eqb}
use Rattle.book_rules.specs.Book.{used, is_user, number_of}

-- the index of the user with a number, 0 where no record below n is that user; and in the whole book
unfoldable pub find_below : List ℕ → ℕ → ℕ → ℕ
find_below b number zero = 0
find_below b number (suc n) = cond (is_user b n && eqb (number_of b n) number) n (find_below b number n)

unfoldable pub find_user : List ℕ → ℕ → ℕ
find_user b number = find_below b number (used b)
