-- "Book" of document 01: the fields of each record, once. Reading and writing both go by these.
use Rattle.std.specs.Prelude.{ℕ, ◌+◌, ◌*◌, ◌/◌, Bool, true, cond, ◌&&◌, List, [], ◌∷◌, leb, ltb, eqb, length, replicate}
use Rattle.units.specs.Limits.{record_length}
use Rattle.units.specs.Folds.{all_below}
use Rattle.codec.specs.Bytes.{bytes_of, part, number, stored, zeros}

-- `size` bytes from `from` on
pub record Field : Type 0 where
  pub from : ℕ
  pub size : ℕ

abbrev pub bytes : ℕ → ℕ → Field
bytes from size = record { from = from; size = size }

-- the number that stands in a field of a record
unfoldable pub get : Field → List ℕ → ℕ
get f r = number f.size f.from r

-- "Record 0 is the head: 0–3 records used u (head included, 1 to capacity), 4–7 first user, rest zero."
abbrev pub used_field : Field
used_field = bytes 0 4

abbrev pub first_user_field : Field
first_user_field = bytes 4 4

-- "0–3 next, 4 kind", of users and entries
abbrev pub next_field : Field
next_field = bytes 0 4

abbrev pub kind_field : Field
kind_field = bytes 4 1

-- "User: 0–3 next, 4 kind 1, 5 class, 6 plant, 7 option (0 credit, 1 liquidation), 8–11 number (not 0), 12–15 first entry,
-- 16–19 power in watts, 20–21 activation year, 22 activation month, 23 island (1 = network not interconnected, else 0),
-- 24–25 open year, 26 runs made (bits: 1 June, 2 October, 4 January), 32–39 credit, 40–47 advances of the open year,
-- 48–51 and 52–55 exchanged kWh of the last closed year's halves."
abbrev pub user_kind : ℕ
user_kind = 1

abbrev pub class_field : Field
class_field = bytes 5 1

abbrev pub plant_field : Field
plant_field = bytes 6 1

abbrev pub option_field : Field
option_field = bytes 7 1

abbrev pub number_field : Field
number_field = bytes 8 4

abbrev pub first_entry_field : Field
first_entry_field = bytes 12 4

abbrev pub power_field : Field
power_field = bytes 16 4

abbrev pub activation_year_field : Field
activation_year_field = bytes 20 2

abbrev pub activation_month_field : Field
activation_month_field = bytes 22 1

abbrev pub island_field : Field
island_field = bytes 23 1

abbrev pub open_year_field : Field
open_year_field = bytes 24 2

abbrev pub runs_field : Field
runs_field = bytes 26 1

-- "Each year has its own runs and advances, the later year's in bytes left free in the user record" (ticket 6): 27 runs made of
-- the later year, 64–71 its advances
abbrev pub later_runs_field : Field
later_runs_field = bytes 27 1

abbrev pub later_advances_field : Field
later_advances_field = bytes 64 8

-- "The unpaid rest stands in bytes 56–63 of the user record." (ticket 1): 28 whether the open year is charged, 0 or 1
abbrev pub charged_field : Field
charged_field = bytes 28 1

abbrev pub rest_field : Field
rest_field = bytes 56 8

abbrev pub credit_field : Field
credit_field = bytes 32 8

abbrev pub advances_field : Field
advances_field = bytes 40 8

abbrev pub half1_field : Field
half1_field = bytes 48 4

abbrev pub half2_field : Field
half2_field = bytes 52 4

-- "Entry: 0–3 next, 4 kind (2 advance, 3 closing), 6–7 year (from the owner's activation to its open year), 64–67 owner
-- (the user's record index)."
abbrev pub advance_kind : ℕ
advance_kind = 2

abbrev pub closing_kind : ℕ
closing_kind = 3

abbrev pub year_field : Field
year_field = bytes 6 2

abbrev pub owner_field : Field
owner_field = bytes 64 4

-- "Each entry keeps its withheld ticks in bytes 68–75." (ticket 1)
abbrev pub withheld_field : Field
withheld_field = bytes 68 8

-- "Advance: 5 run bit, 8–15 ticks."
abbrev pub run_field : Field
run_field = bytes 5 1

abbrev pub ticks_field : Field
ticks_field = bytes 8 8

-- 76–77 of an advance of the later year: the year that was open when it was booked; else zero (ticket 6)
abbrev pub booked_field : Field
booked_field = bytes 76 2

-- "Closing: 5 option, 8–15 C, 16–23 O, 24–31 F, 32–39 contribution, 40–47 liquidation, 48–55 lapsed credit, 56–63 balance
-- (signed, two's complement)."
abbrev pub closing_option_field : Field
closing_option_field = bytes 5 1

abbrev pub value_field : Field
value_field = bytes 8 8

abbrev pub cost_field : Field
cost_field = bytes 16 8

abbrev pub flat_rate_field : Field
flat_rate_field = bytes 24 8

abbrev pub contribution_field : Field
contribution_field = bytes 32 8

abbrev pub liquidation_field : Field
liquidation_field = bytes 40 8

abbrev pub lapsed_field : Field
lapsed_field = bytes 48 8

abbrev pub balance_field : Field
balance_field = bytes 56 8

-- "Unnamed bytes are zero in records below u.", by kind; of the head "rest zero"
abbrev pub unnamed_of_head : List Field
unnamed_of_head = bytes 8 72 ∷ []

abbrev pub unnamed_of_user : List Field
unnamed_of_user = bytes 29 3 ∷ bytes 72 8 ∷ []

abbrev pub unnamed_of_advance : List Field
unnamed_of_advance = bytes 16 48 ∷ bytes 78 2 ∷ []

abbrev pub unnamed_of_closing : List Field
unnamed_of_closing = bytes 76 4 ∷ []

-- the bytes of each field of a list are zero
unfoldable pub all_zero : List Field → List ℕ → Bool
all_zero [] r = true
all_zero (f ∷ fs) r = zeros f.from f.size r && all_zero fs r

-- the record at an index of the book, empty past the end; and the book with a record in its place
unfoldable pub record_at : List ℕ → ℕ → List ℕ
record_at b i = part record_length (record_length * i) b

unfoldable pub put_record : ℕ → List ℕ → List ℕ → List ℕ
put_record i r b = stored (record_length * i) r b

abbrev pub capacity : List ℕ → ℕ
capacity b = length b / record_length

-- fields that tile a record: each of its bytes is in exactly one of them
unfoldable pub times_in : List Field → ℕ → ℕ
times_in [] i = 0
times_in (f ∷ fs) i = cond (leb f.from i && ltb i (f.from + f.size)) 1 0 + times_in fs i

unfoldable pub tiles : List Field → Bool
tiles fs = all_below record_length (λ i. eqb (times_in fs i) 1)

-- a number for a field of an image
pub record Cell : Type 0 where
  pub field : Field
  pub value : ℕ

infix 5 ◌holds◌
abbrev pub ◌holds◌ : Field → ℕ → Cell
f holds n = record { field = f; value = n }

abbrev pub fields_of : List Cell → List Field
fields_of [] = []
fields_of (c ∷ cs) = c.field ∷ fields_of cs

-- "A record image starts as [0; 80], is filled": the cells are written one after the other
unfoldable pub written : List Cell → List ℕ → List ℕ
written [] r = r
written (c ∷ cs) r = written cs (stored c.field.from (bytes_of c.field.size c.value) r)

abbrev pub image : List Cell → List ℕ
image cs = written cs (replicate record_length 0)
