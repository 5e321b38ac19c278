-- What an accepted call changes, as data: nothing, a new user, a user's account, or an account and a new entry. A change writes
-- the records of one user anew, their links kept, and puts at most one record in front of one chain: every frame and every law
-- of soundness goes by that. "A new record takes index u and goes to the front of its chain."
use Rattle.std.specs.Prelude.{ℕ, ◌+◌, cond, List, eqb}
use Rattle.units.specs.Units.{kwh, ticks, user_number, record_index}
use Rattle.calendar.specs.ElectionAndAdvances.{halves_paid, amount_of}
use Rattle.sheet_values.specs.declared.Details.{Details}
use Rattle.account_steps.specs.declared.Account.{Account}
use Rattle.account_steps.specs.Charges.{charge_is}
use Rattle.book_layout.specs.Fields.{put_record}
use Rattle.book_records.specs.Records.{head_image, user_image}
use Rattle.book_records.specs.Entries.{Entry, entry_image}
use Rattle.book_rules.specs.Book.{used, first_user, next_of, first_entry_of}

pub data Change : Type 0 where
  nothing : Change
  opens : (account : Account) → Change
  sets : (account : Account) → Change
  enters : (account : Account) (entry : Entry) → Change

-- the book with a new user
unfoldable pub enrolled_as : Account → List ℕ → List ℕ
enrolled_as a b =
    put_record 0 (head_image (used b + 1) (used b))
    (put_record (used b) (user_image (record { next = record_index (first_user b); first = record_index 0; account = a })) b)

-- the book with another account at the user i, whose links stay
unfoldable pub with_account : ℕ → Account → List ℕ → List ℕ
with_account i a b =
    put_record i (user_image (record { next = record_index (next_of b i); first = record_index (first_entry_of b i); account = a })) b

-- the book with a new entry of the user i, whose account becomes a
unfoldable pub with_entry : ℕ → Account → List ℕ → List ℕ → List ℕ
with_entry i a entry b =
    put_record 0 (head_image (used b + 1) (first_user b))
    (put_record i (user_image (record { next = record_index (next_of b i); first = record_index (used b); account = a }))
    (put_record (used b) entry b))

-- the book after a change of the user at i
unfoldable pub applied : ℕ → Change → List ℕ → List ℕ
applied i nothing b = b
applied i (opens a) b = enrolled_as a b
applied i (sets a) b = with_account i a b
applied i (enters a e) b = with_entry i a (entry_image (first_entry_of b i) i e) b

-- "Enrolment brings bytes 5–11 and 16–23; the open year is the activation year, kind and next as above, the rest zero."
unfoldable pub new_account : ℕ → Details → ℕ → Account
new_account number d option =
    record {
      number = user_number number;
      details = d;
      option = option;
      open_year = d.year;
      runs = 0;
      later_runs = 0;
      credit = ticks 0;
      advances = ticks 0;
      later_advances = ticks 0;
      half1 = kwh 0;
      half2 = kwh 0;
      charge = charge_is 0 0;
    }

-- the year that an entry of a run notes: none where it is the open one, else the year that is open when the run is booked (ticket 6)
unfoldable pub booked_in : Account → ℕ → ℕ
booked_in a year = cond (eqb year a.open_year) 0 a.open_year

-- "The amount is the rate times the last closed year's half, or times that half's estimate if no year is closed". "For the later
-- year's estimate, the last closed year still counts." (ticket 6)
unfoldable pub run_amount : Account → ℕ → ℕ → ℕ → ℕ → ℕ → ℕ
run_amount a year run rate estimate1 estimate2 =
    amount_of (halves_paid a.details.year a.details.month year run) rate
    (cond (eqb a.open_year a.details.year) estimate1 a.half1.0)
    (cond (eqb a.open_year a.details.year) estimate2 a.half2.0)
