-- The digits passed and those to come are the digits of the text, and their number is the same as far as it counts.
use Rattle.std.proofs.Common.{ℕ, ◌+◌, ◌≤◌, ◌≡◌, List, length, drop}
use Rattle.std.specs.Prelude.{min}
use Rattle.decimals.specs.Decimals.{digits, value_after}
use Rattle.decimals.proofs.read_run.Given as goal

pub record Reading (t : List ℕ) (most value passed : ℕ) : Type 0 where
  pub inside : passed ≤ length t
  pub capped : value ≤ most
  pub all : passed + digits (drop passed t) ≡ digits t
  pub number : min (value_after value (drop passed t)) most ≡ min (value_after 0 t) most

abbrev pub invariant-loop-b : goal.invariant-loop-b
invariant-loop-b l = (l.count ≡ l.b-index) × Reading l.s l.most l.value l.b-index
