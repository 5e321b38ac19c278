-- What a call's answer says and what the call leaves: "A refusal leaves every byte and answers zeros beside its number, but
-- for the record in 2." (document 01) Each is an equation: the answer is a function of the book and the call.
use Rattle.std.specs.Prelude.{ℕ, ◌≡◌, List}
use Rattle.call_rules.specs.Rules.{Rule, refused_by}
use Rattle.call_rules.specs.Calls.{Call, refusal_of, book_after, record_named}

-- the call c on the book b, which names the record `answered` if it is accepted
pub record Answered (b : List ℕ) (c : Call) (answered : ℕ) (refusal named : ℕ) (after : List ℕ) : Type 0 where
  pub refusal_is : refusal ≡ refusal_of b c
  pub record_is : named ≡ record_named b refusal answered
  pub book-is : after ≡ book_after b c

-- the same of a call that reads only, by the order of its rules
pub record AnsweredBy (b : List ℕ) (order : List Rule) (answered : ℕ) (refusal named : ℕ) : Type 0 where
  pub refusal_is : refusal ≡ refused_by order
  pub record_is : named ≡ record_named b refusal answered
