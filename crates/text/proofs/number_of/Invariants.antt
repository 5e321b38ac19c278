-- The number so far and the digits to come write the number of all digits.
use Rattle.std.proofs.Common.{◌≡◌, ℕ, ◌≤◌, ◌<◌, ◌^◌, List, length, drop}
use Rattle.std.specs.Str.Parse.{AllDigits, digits_value_after, digits_value}
use Rattle.text.proofs.number_of.Given as goal

pub record Reading (ds : List ℕ) (value passed : ℕ) : Type 0 where
  pub inside : passed ≤ length ds
  pub fits : value < 2 ^ 64
  pub digits : AllDigits 10 (drop passed ds)
  pub number : digits_value_after 10 value (drop passed ds) ≡ digits_value 10 ds

abbrev pub invariant-loop-digit : goal.invariant-loop-digit
invariant-loop-digit l = Reading l.digits l.value l.digit-index
