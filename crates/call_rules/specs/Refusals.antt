-- "Who brings which number" of document 01: what each refusal looks at.
use Rattle.std.specs.Prelude.{ℕ, ◌+◌, Bool, not, ◌&&◌, ◌||◌, List, leb, eqb}
use Rattle.units.specs.Limits.{max_price, max_half_kwh, last_activation, last_open_year}
use Rattle.calendar.specs.ElectionAndAdvances.{is_day, in_window, due, halves_paid}
use Rattle.account_steps.specs.declared.Account.{Account}
use Rattle.account_steps.specs.Account.{runs_in}
use Rattle.book_layout.specs.Fields.{capacity}
use Rattle.book_rules.specs.Book.{used, is_run, is_made, account_at}
use Rattle.book_rules.specs.Find.{find_user}

-- "3 u equals the capacity."
unfoldable pub has_room : List ℕ → Bool
has_room b = not (eqb (used b) (capacity b))

-- What a call looks at in a sound book: the index of the user with the number that it names, 0 for none, its account, and
-- whether there is room.
pub record Look : Type 0 where
  pub user : ℕ
  pub account : Account
  pub room : Bool

abbrev pub look_of : ℕ → Account → Bool → Look
look_of user a room = record { user = user; account = a; room = room }

unfoldable pub look_at : List ℕ → ℕ → Look
look_at b number = look_of (find_user b number) (account_at b (find_user b number)) (has_room b)

-- "4 number 0 or present."
abbrev pub number_free : Look → ℕ → Bool
number_free s number = not (eqb number 0) && eqb s.user 0

-- "6 not present."
abbrev pub present : Look → Bool
present s = not (eqb s.user 0)

-- "7 no such day or option."
unfoldable pub day_and_option : ℕ → ℕ → ℕ → ℕ → Bool
day_and_option option year month day = is_day year month day && leb option 1

-- "8 day outside the window, or open year 2100."
unfoldable pub election_open : Account → ℕ → ℕ → ℕ → Bool
election_open a year month day = in_window a.open_year year month day && not (eqb a.open_year last_open_year)

-- "An account may have two open years" (ticket 6): the open year and the one after it
unfoldable pub is_open : Account → ℕ → Bool
is_open a year = eqb year a.open_year || eqb year (a.open_year + 1)

-- "9 year not open or above 2099, run no single bit, not due, or made." "Refusal 9 now looks at both years": what is due and what was
-- made is that of the year named (ticket 6).
unfoldable pub run_open : Account → ℕ → ℕ → Bool
run_open a year run =
    ((is_open a year && leb year last_activation) && is_run run)
    && (due (halves_paid a.details.year a.details.month year run) && not (is_made (runs_in year a) run))

-- "10 rate above 500,000 or an estimate above 360,000,000."
unfoldable pub order_fits : ℕ → ℕ → ℕ → Bool
order_fits rate estimate1 estimate2 = leb rate max_price && (leb estimate1 max_half_kwh && leb estimate2 max_half_kwh)

-- "12 year not open or above 2099."
unfoldable pub year_open : Account → ℕ → Bool
year_open a year = eqb year a.open_year && leb year last_activation

-- "It refuses with 16 a second charge for the same year or one above 2099" (ticket 1)
unfoldable pub charge_open : Account → Bool
charge_open a = eqb a.charge.made 0 && leb a.open_year last_activation

abbrev pub user_at : List ℕ → ℕ → Account
user_at b number = account_at b (find_user b number)
