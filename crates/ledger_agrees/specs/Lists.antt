-- Lists of calls. "Each call gets the book as the last one left it, and nobody else writes it meanwhile."
use Rattle.std.specs.Prelude.{ℕ, ◌≡◌, List, [], ◌∷◌}
use Rattle.call_rules.specs.Calls.{Call, refusal_of, book_after, Typed}

-- a call that was made, and the number that it answered
pub record Made : Type 0 where
  pub call : Call
  pub refusal : ℕ

abbrev pub made : Call → ℕ → Made
made c n = record { call = c; refusal = n }

unfoldable pub calls_of : List Made → List Call
calls_of [] = []
calls_of (m ∷ ms) = m.call ∷ calls_of ms

-- A list of calls as it was made, from a book to the book after it, where one call is `Step`: the book before it, what was called
-- and answered, the book after it. Each call has arguments as its types hold them.
pub data Runs (Step : List ℕ → Made → List ℕ → Type 1) : List ℕ → List Made → List ℕ → Type 1 where
  done : (b : List ℕ) → Runs Step b [] b
  and_then : (b b' b'' : List ℕ) (m : Made) (ms : List Made) → Step b m b' → Typed m.call → Runs Step b' ms b'' → Runs Step b (m ∷ ms) b''

-- a list with these calls that was made from a book
pub record Performed (Step : List ℕ → Made → List ℕ → Type 1) (start : List ℕ) (cs : List Call) : Type 1 where
  pub made_as : List Made
  pub after : List ℕ
  pub run : Runs Step start made_as after
  pub calls : calls_of made_as ≡ cs

-- the calls of a list with what they answer by the definitions of the calls, and the book after them
unfoldable pub made_of : List ℕ → List Call → List Made
made_of b [] = []
made_of b (c ∷ cs) = made c (refusal_of b c) ∷ made_of (book_after b c) cs

unfoldable pub book_after_all : List ℕ → List Call → List ℕ
book_after_all b [] = b
book_after_all b (c ∷ cs) = book_after_all (book_after b c) cs
