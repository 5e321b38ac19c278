-- For a day that exists the window of an election is year a, or January of a + 1: the first day of the window is not after a
-- day from year a on, and no January is longer than 31 days.
use Rattle.std.proofs.Common.{◌≡◌, ℕ, ◌+◌, ◌≤◌, true, ◌&&◌, ◌||◌, eqb, arith}
use Rattle.std.proofs.lemmas.Bool.Decides.{nat_tests}
use Rattle.calendar.specs.ElectionAndAdvances.{days_in, is_day, not_after, in_window}

days-at-most : (y m : ℕ) → days_in y m ≤ 31
unfolding days_in
days-at-most y m = grind (arith, nat_tests)

pub window-of-day :
    (a y m d : ℕ) → is_day y m d ≡ true → in_window a y m d ≡ (eqb y a || (eqb y (a + 1) && eqb m 1))
unfolding in_window not_after is_day
window-of-day a y m d e = let short = days-at-most y m in grind (arith, nat_tests)
