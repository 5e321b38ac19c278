-- Refusal 9, by its first tests: where they fail it is decided, where they hold the run is looked up in its year.
use Prim.Native.Nat.{ℕ, ◌<◌}
use mathlib.Core.Path.{◌≡◌}
use mathlib.Core.Bool.{Bool, true, false, not, ◌&&◌}
use native.Mathlib.Omega.{arith}
use borrow.Author.Tests.{leb-true}
use lib.Dec.{leb}
use Rattle.units.specs.Limits.{last_activation}
use Rattle.units.proofs.Bools.{and_left, and_right}
use Rattle.calendar.specs.ElectionAndAdvances.{halves_paid, due}
use Rattle.account_steps.specs.declared.Account.{Account}
use Rattle.account_steps.specs.Account.{runs_in}
use Rattle.book_rules.specs.Book.{is_made, is_run}
use Rattle.call_rules.specs.Refusals.{is_open, run_open}

module _ (a : Account) (year run : ℕ) where
  abbrev pub named : Bool
  named = (is_open a year && leb year last_activation) && is_run run

  pub run-open : named ≡ true → (due (halves_paid a.details.year a.details.month year run) && not (is_made (runs_in year a) run)) ≡ run_open a year run
  unfolding run_open
  run-open h = rw h

  pub run-shut : named ≡ false → false ≡ run_open a year run
  unfolding run_open
  run-shut h = rw h

  -- a year up to 2099 has two bytes
  pub year-below : named ≡ true → year < 65536
  year-below h =
      let last = leb-true year last_activation (and_right (is_open a year) (leb year last_activation) (and_left (is_open a year && leb year last_activation) (is_run run) h)) in
      omega arith
