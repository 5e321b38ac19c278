-- "Chains run by a next index, and zero ends the chain." (document 01, "Book")
use Rattle.std.specs.Prelude.{ℕ, zero, suc, cond, List, [], ◌∷◌, eqb}
use Rattle.book_rules.specs.Book.{first_user, first_entry_of, next_of}

-- the indexes of a chain from i on, at most `fuel` of them
unfoldable pub chain : (ℕ → ℕ) → ℕ → ℕ → List ℕ
chain next zero i = []
chain next (suc fuel) i = cond (eqb i 0) [] (i ∷ chain next fuel (next i))

-- In a sound book an index falls along its chain, so that a chain from i has at most i records.
abbrev pub chain_from : (ℕ → ℕ) → ℕ → List ℕ
chain_from next i = chain next i i

-- the users of a book, and the entries of the user at an index, newest first
unfoldable pub users_of : List ℕ → List ℕ
users_of b = chain_from (next_of b) (first_user b)

unfoldable pub entries_of : List ℕ → ℕ → List ℕ
entries_of b i = chain_from (next_of b) (first_entry_of b i)
