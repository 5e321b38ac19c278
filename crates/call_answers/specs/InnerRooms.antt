-- What must hold where a call books an entry.
use Rattle.std.specs.Prelude.{ℕ, ◌+◌, ◌*◌, ◌^◌, ◌≤◌, ◌<◌, ◌≡◌, List, length}
use Rattle.units.specs.Limits.{record_length}
use Rattle.account_steps.specs.declared.Account.{Account}
use Rattle.book_rules.specs.Book.{used, account_at}

-- the user i has the account a, and one more entry fits into the book
pub record EntryFits (b : List ℕ) (i : ℕ) (a : Account) : Type 0 where
  pub account-is : a ≡ account_at b i
  pub user : record_length * i + record_length ≤ length b
  pub room : record_length * used b + record_length ≤ length b
  pub index : used b + 1 < 2 ^ 32
