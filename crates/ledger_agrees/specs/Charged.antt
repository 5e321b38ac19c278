-- Ticket 1: "A user's charges made equal those withheld plus the rest, after every list of demand 3." What is withheld is summed over
-- the entries on the user's chain, and each entry keeps exactly what the ledger withholds from its payment: the smaller of the rest
-- before it and what it pays, in a closing first from a positive balance and then from the liquidation (`advanced`, `closed_with`).
use Rattle.std.specs.Prelude.{ℕ, ◌+◌, ◌≡◌, List}
use Rattle.book_rules.specs.Book.{account_at}
use Rattle.book_rules.specs.Chains.{entries_of}
use Rattle.book_rules.specs.Find.{find_user}
use Rattle.ledger.specs.Ledger.{Ledger, sum_all}
use Rattle.ledger_views.specs.Views.{entries_in, withheld_of}

-- what the entries on the chain of a user's number had withheld, newest first, and the unpaid rest in its record
abbrev pub withheld_on : List ℕ → ℕ → List ℕ
withheld_on b number = withheld_of (entries_in b (entries_of b (find_user b number)))

abbrev pub rest_at : List ℕ → ℕ → ℕ
rest_at b number = (account_at b (find_user b number)).charge.rest.0

pub record ChargesKept (b : List ℕ) (number : ℕ) (l : Ledger) : Type 0 where
  pub charges : l.charges ≡ sum_all (withheld_on b number) + rest_at b number
  pub each : withheld_on b number ≡ l.withheld
  pub rest : rest_at b number ≡ l.rest
