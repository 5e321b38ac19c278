-- ONE QUEUE FOR ALL USERS: users do not disturb each other. "Each user's statement after it is the one that this user's calls
-- alone, in the same order, give on a fresh book of equal size. .. Where 3 occurred, this holds with the calls so refused left
-- out."
use Rattle.std.specs.Prelude.{ℕ, ◌≡◌, true, cond, List, [], ◌∷◌, eqb, length}
use Rattle.book_rules.specs.Book.{length_fits, fresh_book}
use Rattle.book_rules.specs.Find.{find_user}
use Rattle.chains.specs.Statements.{statement_at}
use Rattle.call_rules.specs.Calls.{Call, statement, named_by, refusal_of, book_after, AllTyped}
use Rattle.ledger_agrees.specs.Lists.{book_after_all}

-- the calls of one number, in their order
unfoldable pub calls_for : ℕ → List Call → List Call
calls_for n [] = []
calls_for n (c ∷ cs) = cond (eqb (named_by c) n) (c ∷ calls_for n cs) (calls_for n cs)

-- the calls but those that are refused with 3
unfoldable pub not_full : List ℕ → List Call → List Call
not_full b [] = []
not_full b (c ∷ cs) = cond (eqb (refusal_of b c) 3) (not_full (book_after b c) cs) (c ∷ not_full (book_after b c) cs)

-- the statement of a number answers the same on two books
pub record SameStatement (b b' : List ℕ) (n : ℕ) : Type 0 where
  pub refusal : refusal_of b (statement n) ≡ refusal_of b' (statement n)
  pub sums : refusal_of b (statement n) ≡ 0 → statement_at b (find_user b n) ≡ statement_at b' (find_user b' n)

abbrev pub OneQueue : Type 0
OneQueue =
    (b : List ℕ) → length_fits b ≡ true → (cs : List Call) → AllTyped cs → (n : ℕ)
    → SameStatement (book_after_all (fresh_book (length b)) cs)
    (book_after_all (fresh_book (length b)) (calls_for n (not_full (fresh_book (length b)) cs))) n
