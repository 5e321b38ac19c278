-- The image of a user record: its length and its zero bytes, what each field reads, and that the value read back is the one
-- written. Each is the law of images at the list of its cells.
use Prim.Native.Nat.{ℕ, ◌^◌, ◌<◌}
use mathlib.Core.Path.{◌≡◌, refl}
use mathlib.Core.Bool.{true}
use mathlib.Core.List.{List}
use lib.Dec.{lit<}
use lib.ListN.{length}
use Rattle.units.specs.Limits.{record_length}
use Rattle.units.specs.Units.{kwh, ticks, user_number, record_index}
use Rattle.book_layout.specs.Fields.{get, all_zero, unnamed_of_user, image, user_kind, activation_month_field, activation_year_field, advances_field, class_field, credit_field, first_entry_field}
use Rattle.book_layout.specs.Fields.{half1_field, half2_field, island_field, kind_field, later_advances_field, later_runs_field, charged_field, rest_field, next_field, number_field, open_year_field}
use Rattle.book_layout.specs.Fields.{option_field}
use Rattle.book_layout.specs.Fields.{plant_field, power_field, runs_field}
use Rattle.book_layout.proofs.Cells.{cell_at, length-image, read-image, unnamed-image}
use Rattle.book_layout.proofs.ByteRanges.{Bytes, bytes-image}
use Rattle.book_records.specs.declared.UserRecord.{UserRecord}
use Rattle.book_records.specs.Records.{user_cells, user_image, user_in, account_in}

-- Every number fits its type. The program knows this of each value that it holds (`.good` of a parameter, `.ok` of a
-- result); of a value read from bytes it is the last law below.
pub record UserFits (u : UserRecord) : Type 0 where
  pub next : u.next.0 < 2 ^ 32
  pub class : u.account.details.class < 2 ^ 8
  pub plant : u.account.details.plant < 2 ^ 8
  pub option : u.account.option < 2 ^ 8
  pub number : u.account.number.0 < 2 ^ 32
  pub first : u.first.0 < 2 ^ 32
  pub power : u.account.details.power < 2 ^ 32
  pub year : u.account.details.year < 2 ^ 16
  pub month : u.account.details.month < 2 ^ 8
  pub island : u.account.details.island < 2 ^ 8
  pub open_year : u.account.open_year < 2 ^ 16
  pub runs : u.account.runs < 2 ^ 8
  pub credit : u.account.credit.0 < 2 ^ 64
  pub advances : u.account.advances.0 < 2 ^ 64
  pub half1 : u.account.half1.0 < 2 ^ 32
  pub half2 : u.account.half2.0 < 2 ^ 32
  pub later_runs : u.account.later_runs < 2 ^ 8
  pub later_advances : u.account.later_advances.0 < 2 ^ 64
  pub charged : u.account.charge.made < 2 ^ 8
  pub rest : u.account.charge.rest.0 < 2 ^ 64

-- what the fields of a record of this kind hold
pub record UserReads (u : UserRecord) (r : List ℕ) : Type 0 where
  pub next : get next_field r ≡ u.next.0
  pub kind : get kind_field r ≡ user_kind
  pub class : get class_field r ≡ u.account.details.class
  pub plant : get plant_field r ≡ u.account.details.plant
  pub option : get option_field r ≡ u.account.option
  pub number : get number_field r ≡ u.account.number.0
  pub first : get first_entry_field r ≡ u.first.0
  pub power : get power_field r ≡ u.account.details.power
  pub year : get activation_year_field r ≡ u.account.details.year
  pub month : get activation_month_field r ≡ u.account.details.month
  pub island : get island_field r ≡ u.account.details.island
  pub open_year : get open_year_field r ≡ u.account.open_year
  pub runs : get runs_field r ≡ u.account.runs
  pub credit : get credit_field r ≡ u.account.credit.0
  pub advances : get advances_field r ≡ u.account.advances.0
  pub half1 : get half1_field r ≡ u.account.half1.0
  pub half2 : get half2_field r ≡ u.account.half2.0
  pub later_runs : get later_runs_field r ≡ u.account.later_runs
  pub later_advances : get later_advances_field r ≡ u.account.later_advances.0
  pub charged : get charged_field r ≡ u.account.charge.made
  pub rest : get rest_field r ≡ u.account.charge.rest.0

module _ (u : UserRecord) where
  pub length-user-image : length (user_image u) ≡ record_length
  unfolding user_image
  length-user-image = length-image (user_cells u) refl

  pub bytes-user-image : Bytes (user_image u)
  unfolding user_image
  bytes-user-image = bytes-image (user_cells u)

  -- the bytes that no field names
  pub user-unnamed : all_zero unnamed_of_user (user_image u) ≡ true
  unfolding user_image
  user-unnamed = unnamed-image (user_cells u) refl unnamed_of_user refl

  read : (n : ℕ) → (cell_at (user_cells u) n).value < 256 ^ (cell_at (user_cells u) n).field.size
      → get (cell_at (user_cells u) n).field (image (user_cells u)) ≡ (cell_at (user_cells u) n).value
  read = read-image (user_cells u) refl refl

  pub user-reads : UserFits u → UserReads u (user_image u)
  unfolding user_image
  user-reads h =
      record {
        next = read 0 h.next;
        kind = read 1 (lit< tt);
        class = read 2 h.class;
        plant = read 3 h.plant;
        option = read 4 h.option;
        number = read 5 h.number;
        first = read 6 h.first;
        power = read 7 h.power;
        year = read 8 h.year;
        month = read 9 h.month;
        island = read 10 h.island;
        open_year = read 11 h.open_year;
        runs = read 12 h.runs;
        credit = read 13 h.credit;
        advances = read 14 h.advances;
        half1 = read 15 h.half1;
        half2 = read 16 h.half2;
        later_runs = read 17 h.later_runs;
        later_advances = read 18 h.later_advances;
        charged = read 19 h.charged;
        rest = read 20 h.rest;
      }

account-read : (r : List ℕ) (u : UserRecord) → UserReads u r → account_in r ≡ u.account
unfolding account_in
account-read r u h =
    λ i.
    record {
      number = user_number (h.number i);
      details =
          record {
            class = h.class i;
            plant = h.plant i;
            power = h.power i;
            year = h.year i;
            month = h.month i;
            island = h.island i;
          };
      option = h.option i;
      open_year = h.open_year i;
      runs = h.runs i;
      later_runs = h.later_runs i;
      credit = ticks (h.credit i);
      advances = ticks (h.advances i);
      later_advances = ticks (h.later_advances i);
      half1 = kwh (h.half1 i);
      half2 = kwh (h.half2 i);
      charge = record { made = h.charged i; rest = ticks (h.rest i) };
    }

-- a record whose fields read so holds the value
user-decoded : (u : UserRecord) (r : List ℕ) → UserReads u r → user_in r ≡ u
unfolding user_in
user-decoded u r h =
    λ i.
    record {
      next = record_index (h.next i);
      first = record_index (h.first i);
      account = account-read r u h i;
    }

-- reading gives back what was written
pub user-back : (u : UserRecord) → UserFits u → user_in (user_image u) ≡ u
user-back u h = user-decoded u (user_image u) (user-reads u h)
