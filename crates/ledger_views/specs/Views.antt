-- What the book holds of a user by value, without the places of its records, and what an accepted call makes of it.
use Rattle.std.specs.Prelude.{ℕ, cond, List, [], ◌∷◌, eqb}
use Rattle.std.proofs.Math.Option.{Option, none, some}
use Rattle.account_steps.specs.declared.Account.{Account}
use Rattle.book_layout.specs.Fields.{record_at}
use Rattle.book_records.specs.Records.{account_in}
use Rattle.book_records.specs.Entries.{Entry, advance_entry, closing_entry, entry_in}
use Rattle.book_rules.specs.Book.{account_at}
use Rattle.book_rules.specs.Chains.{entries_of}
use Rattle.book_rules.specs.Find.{find_user}
use Rattle.call_rules.specs.Changes.{Change, nothing, opens, sets, enters}
use Rattle.call_rules.specs.Calls.{Call, change_of}

-- entries stand newest first
pub record View : Type 0 where
  pub account : Account
  pub entries : List Entry

abbrev pub view_is : Account → List Entry → View
view_is a entries = record { account = a; entries = entries }

unfoldable pub entries_in : List ℕ → List ℕ → List Entry
entries_in b [] = []
entries_in b (e ∷ es) = entry_in (record_at b e) ∷ entries_in b es

-- what was withheld at each of them, newest first (ticket 1)
unfoldable pub withheld_of : List Entry → List ℕ
withheld_of [] = []
withheld_of (advance_entry y k r p w ∷ es) = w.0 ∷ withheld_of es
withheld_of (closing_entry y o s w ∷ es) = w.0 ∷ withheld_of es

abbrev pub view_at : List ℕ → ℕ → View
view_at b i = view_is (account_at b i) (entries_in b (entries_of b i))

-- of the user with a number, if there is one
unfoldable pub view_of : List ℕ → ℕ → Option View
view_of b n = cond (eqb (find_user b n) 0) none (some (view_at b (find_user b n)))

-- what a change makes of the user that it is for
unfoldable pub view_after : Change → Option View → Option View
view_after nothing v = v
view_after (opens a) v = some (view_is a [])
view_after (sets a) none = none
view_after (sets a) (some v) = some (view_is a v.entries)
view_after (enters a e) none = none
view_after (enters a e) (some v) = some (view_is a (e ∷ v.entries))

-- The account that a call goes by. Of an unknown number an accepted call, which is its enrolment, looks at none; here it is what
-- an empty record holds.
unfoldable pub account_of : Option View → Account
account_of none = account_in []
account_of (some v) = v.account

unfoldable pub step_of : Call → Option View → Option View
step_of c v = view_after (change_of (account_of v) c) v
