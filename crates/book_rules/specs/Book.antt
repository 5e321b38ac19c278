-- "Book" of document 01: which records of a book are faulty, sentence by sentence, and when a book is sound. Every string
-- of bytes has an answer: a record past the end has zeros in all its fields.
use Rattle.std.specs.Prelude.{ℕ, ◌+◌, ◌-◌, ◌*◌, ◌/◌, ◌%◌, Bool, false, cond, not, ◌&&◌, ◌||◌, List, [], ◌∷◌, leb, ltb, eqb, length}
use Rattle.std.specs.Prelude.{ℤ, pos, negsuc, neg_ℤ, int_le}
use Rattle.std.specs.Prelude.{replicate}
use Rattle.units.specs.Limits.{record_length, max_year_ticks, max_flat_rate, max_contribution, max_charge, max_half_ticks, max_half_kwh}
use Rattle.units.specs.Limits.{max_power}
use Rattle.units.specs.Limits.{first_activation}
use Rattle.units.specs.Limits.{last_activation, last_open_year}
use Rattle.units.specs.Folds.{sum_below, any_below, first_below}
use Rattle.calendar.specs.declared.Halves.{Halves}
use Rattle.calendar.specs.ElectionAndAdvances.{june, october, january, halves_paid, due, halves_count}
use Rattle.sheet_values.specs.declared.Details.{Details}
use Rattle.account_steps.specs.declared.Account.{Account}
use Rattle.book_layout.specs.Fields.{Field, get, all_zero, unnamed_of_head, unnamed_of_user, unnamed_of_advance, unnamed_of_closing}
use Rattle.book_layout.specs.Fields.{record_at}
use Rattle.book_layout.specs.Fields.{capacity, used_field, first_user_field, next_field, kind_field, user_kind, number_field}
use Rattle.book_layout.specs.Fields.{first_entry_field, activation_year_field, open_year_field, advance_kind, closing_kind, year_field}
use Rattle.book_layout.specs.Fields.{booked_field}
use Rattle.book_layout.specs.Fields.{owner_field}
use Rattle.book_records.specs.declared.AdvanceRecord.{AdvanceRecord}
use Rattle.book_records.specs.declared.ClosingRecord.{ClosingRecord}
use Rattle.book_records.specs.Records.{account_in, advance_in, closing_in}

-- Refusal 1: "length not 160 to 64,000 or no multiple of 80"
unfoldable pub length_fits : List ℕ → Bool
length_fits b = (leb 160 (length b) && leb (length b) 64000) && eqb (length b % record_length) 0

-- "A fresh book is all zero but u = 1."
unfoldable pub fresh_book : ℕ → List ℕ
fresh_book n = 1 ∷ replicate (n - 1) 0

-- "records used u (head included, 1 to capacity)", "first user"
unfoldable pub used : List ℕ → ℕ
used b = get used_field (record_at b 0)

unfoldable pub first_user : List ℕ → ℕ
first_user b = get first_user_field (record_at b 0)

unfoldable pub used_fits : List ℕ → Bool
used_fits b = leb 1 (used b) && leb (used b) (capacity b)

-- "Only indexes below u count as records." A user or an entry is told by its index and its kind.
unfoldable pub kind_at : List ℕ → ℕ → ℕ
kind_at b i = get kind_field (record_at b i)

unfoldable pub has_kind : List ℕ → ℕ → ℕ → Bool
has_kind b kind i = (ltb 0 i && ltb i (used b)) && eqb (kind_at b i) kind

abbrev pub is_user : List ℕ → ℕ → Bool
is_user b i = has_kind b user_kind i

abbrev pub is_advance : List ℕ → ℕ → Bool
is_advance b i = has_kind b advance_kind i

abbrev pub is_closing : List ℕ → ℕ → Bool
is_closing b i = has_kind b closing_kind i

-- "kind (2 advance, 3 closing)"
unfoldable pub entry_kind : ℕ → Bool
entry_kind kind = eqb kind advance_kind || eqb kind closing_kind

unfoldable pub is_entry : List ℕ → ℕ → Bool
is_entry b i = (ltb 0 i && ltb i (used b)) && entry_kind (kind_at b i)

-- RANGES, of a record by value
abbrev pub within : ℕ → ℕ → ℕ → Bool
within low high n = leb low n && leb n high

-- "class 1–11, plant 1–17, power 1–200,000, activation 2013–2099 and month 1–12 .. option and island 0 or 1"
unfoldable pub details_fit : Details → ℕ → Bool
details_fit d option =
    ((within 1 11 d.class && within 1 17 d.plant) && within 1 max_power d.power)
    && ((within first_activation last_activation d.year && within 1 12 d.month) && (leb option 1 && leb d.island 1))

-- "open year from activation to 2100"
unfoldable pub open_year_fits : Account → Bool
open_year_fits a = within a.details.year last_open_year a.open_year

-- "The runs made hold only bits due in the open year"
unfoldable pub halves_of : Account → ℕ → Halves
halves_of a run = halves_paid a.details.year a.details.month a.open_year run

unfoldable pub is_made : ℕ → ℕ → Bool
is_made runs run = eqb (runs / run % 2) 1

abbrev pub run_made : Account → ℕ → Bool
run_made a run = is_made a.runs run

unfoldable pub due_if_made : Account → ℕ → Bool
due_if_made a run = not (run_made a run) || due (halves_of a run)

unfoldable pub runs_fit : Account → Bool
runs_fit a = ltb a.runs 8 && ((due_if_made a june && due_if_made a october) && due_if_made a january)

-- "the advances field is at most 1.8·10^14 for each half that they pay"
unfoldable pub halves_made : Account → ℕ → ℕ
halves_made a run = cond (run_made a run) (halves_count (halves_of a run)) 0

unfoldable pub advances_fit : Account → Bool
advances_fit a = leb a.advances.0 (max_half_ticks * (halves_made a june + halves_made a october + halves_made a january))

-- The same of the later year (ticket 6), which is never the activation year: June pays its first half and October its second, so
-- that its runs are 0 to 3, and its advances at most 1.8·10^14 for each.
unfoldable pub later_half : Account → ℕ → ℕ
later_half a run = cond (is_made a.later_runs run) 1 0

unfoldable pub later_fits : Account → Bool
later_fits a = leb a.later_runs 3 && leb a.later_advances.0 (max_half_ticks * (later_half a june + later_half a october))

-- "Credit is at most 3.6·10^14 times the closed years": those from which a user's credit can come, before a year
abbrev pub span_of : Account → ℕ → ℕ
span_of a year = year - a.details.year

unfoldable pub credit_fits : Account → Bool
credit_fits a = leb a.credit.0 (max_year_ticks * span_of a a.open_year)

-- Whether the open year is charged is 0 or 1; the unpaid rest is at most 45 € for each closed year and for a charge of the open one
-- (ticket 1).
unfoldable pub charge_fits : Account → Bool
charge_fits a = leb a.charge.made 1 && leb a.charge.rest.0 (max_charge * (span_of a a.open_year + a.charge.made))

-- "a half 360,000,000"
unfoldable pub halves_fit : Account → Bool
halves_fit a = leb a.half1.0 max_half_kwh && leb a.half2.0 max_half_kwh

-- what was paid of both open years, and what of the charges was not
abbrev pub payments_fit : Account → Bool
payments_fit a = ((runs_fit a && advances_fit a) && later_fits a) && charge_fits a

-- "number (not 0)", and all of these
unfoldable pub account_fits : Account → Bool
account_fits a =
    (not (eqb a.number.0 0) && (details_fit a.details a.option && open_year_fits a))
    && (payments_fit a && (credit_fits a && halves_fit a))

-- "year (from the owner's activation to its open year)", of an advance of the later year the year in which it was booked (ticket 6)
unfoldable pub year_fits : Account → ℕ → Bool
year_fits owner year = within owner.details.year owner.open_year year

-- "run bit 1, 2 or 4"; "C, O, liquidation and an advance are at most 3.6·10^14"
unfoldable pub is_run : ℕ → Bool
is_run run = (eqb run june || eqb run october) || eqb run january

-- An advance of the later year notes the year that was open when it was booked, the one before its own.
unfoldable pub level_from : ℕ → ℕ → ℕ
level_from year booked = cond (eqb booked 0) year booked

unfoldable pub booked_fits : ℕ → ℕ → Bool
booked_fits year booked = eqb booked 0 || eqb (booked + 1) year

-- What was withheld from an advance is at most its ticks (ticket 1).
unfoldable pub advance_fits : Account → AdvanceRecord → Bool
advance_fits owner a =
    (year_fits owner (level_from a.year a.booked) && booked_fits a.year a.booked)
    && ((is_run a.run && leb a.ticks.0 max_year_ticks) && leb a.withheld.0 a.ticks.0)

-- "balance from −3.6·10^14 to 1.08·10^15"
unfoldable pub balance_fits : ℤ → Bool
balance_fits z = int_le (neg_ℤ (pos max_year_ticks)) z && int_le z (pos max_contribution)

-- what a balance within its range pays: nothing where it is negative
unfoldable pub paid_balance : ℤ → ℕ
paid_balance (pos n) = cond (leb n max_contribution) n 0
paid_balance (negsuc n) = 0

-- What was withheld at a closing is at most what it pays, a positive balance and the liquidation (ticket 1).
unfoldable pub withheld_fits : ClosingRecord → Bool
withheld_fits c = leb c.withheld.0 (paid_balance c.sums.balance.0 + c.sums.liquidation.0)

-- "lapsed at most 3.6·10^14 times the entry's year less the activation year. C, O, liquidation .. are at most 3.6·10^14, F
-- 7.2·10^14, contribution 1.08·10^15"
unfoldable pub closing_fits : Account → ClosingRecord → Bool
closing_fits owner c =
    (year_fits owner c.year && leb c.option 1)
    && (((leb c.sums.value.0 max_year_ticks && leb c.sums.cost.0 max_year_ticks)
    && (leb c.sums.flat_rate.0 max_flat_rate && leb c.sums.contribution.0 max_contribution))
    && ((leb c.sums.liquidation.0 max_year_ticks && leb c.sums.lapsed.0 (max_year_ticks * span_of owner c.year))
    && (balance_fits c.sums.balance.0 && withheld_fits c)))

-- WHAT DIFFERS BY KIND: the ranges of a record, those of an entry by its owner's account; and "Unnamed bytes are zero in
-- records below u." No range of a kind that is not known fits.
unfoldable pub owner_of : List ℕ → ℕ → ℕ
owner_of b i = get owner_field (record_at b i)

abbrev pub account_at : List ℕ → ℕ → Account
account_at b i = account_in (record_at b i)

unfoldable pub entry_ranges : Account → List ℕ → Bool
entry_ranges owner r =
    cond (eqb (get kind_field r) advance_kind) (advance_fits owner (advance_in r))
    (cond (eqb (get kind_field r) closing_kind) (closing_fits owner (closing_in r)) false)

unfoldable pub ranges_fit : List ℕ → ℕ → Bool
ranges_fit b i =
    cond (eqb (kind_at b i) user_kind) (account_fits (account_at b i)) (entry_ranges (account_at b (owner_of b i)) (record_at b i))

unfoldable pub unnamed_of : ℕ → List Field
unnamed_of kind =
    cond (eqb kind user_kind) unnamed_of_user
    (cond (eqb kind advance_kind) unnamed_of_advance (cond (eqb kind closing_kind) unnamed_of_closing []))

unfoldable pub zero_bytes_fit : List ℕ → ℕ → Bool
zero_bytes_fit b i = all_zero (unnamed_of (kind_at b i)) (record_at b i)

abbrev pub own_rules_fit : List ℕ → ℕ → Bool
own_rules_fit b i = ranges_fit b i && zero_bytes_fit b i

-- LINKS
unfoldable pub next_of : List ℕ → ℕ → ℕ
next_of b i = get next_field (record_at b i)

unfoldable pub first_entry_of : List ℕ → ℕ → ℕ
first_entry_of b i = get first_entry_field (record_at b i)

unfoldable pub number_of : List ℕ → ℕ → ℕ
number_of b i = get number_field (record_at b i)

-- "A user's next is 0 or a user with a smaller index"
unfoldable pub user_next_fits : List ℕ → ℕ → Bool
user_next_fits b i = eqb (next_of b i) 0 || (is_user b (next_of b i) && ltb (next_of b i) i)

-- "no user with a smaller index has its number"
unfoldable pub number_is_new : List ℕ → ℕ → Bool
number_is_new b i = not (any_below i (λ j. is_user b j && eqb (number_of b j) (number_of b i)))

-- "its first entry is 0 or an entry it owns"
unfoldable pub first_entry_fits : List ℕ → ℕ → Bool
first_entry_fits b i = eqb (first_entry_of b i) 0 || (is_entry b (first_entry_of b i) && eqb (owner_of b (first_entry_of b i)) i)

-- "An entry's next is 0 or an entry of the same owner with a smaller index"
unfoldable pub entry_next_fits : List ℕ → ℕ → Bool
entry_next_fits b i =
    eqb (next_of b i) 0 || ((is_entry b (next_of b i) && eqb (owner_of b (next_of b i)) (owner_of b i)) && ltb (next_of b i) i)

-- "its owner is a user with a smaller index"
unfoldable pub owner_fits : List ℕ → ℕ → Bool
owner_fits b i = is_user b (owner_of b i) && ltb (owner_of b i) i

-- "Each record but the head is pointed to exactly once, by the head, a next or a first; a record of no known kind points
-- nowhere." How often record j points to record i, and how often all do.
unfoldable pub hits : ℕ → ℕ → ℕ
hits pointer i = cond (eqb pointer i) 1 0

unfoldable pub pointers_from : List ℕ → ℕ → ℕ → ℕ
pointers_from b i j =
    cond (eqb j 0) (hits (first_user b) i)
    (cond (eqb (kind_at b j) user_kind) (hits (next_of b j) i + hits (first_entry_of b j) i)
    (cond (entry_kind (kind_at b j)) (hits (next_of b j) i) 0))

unfoldable pub pointers_to : List ℕ → ℕ → ℕ
pointers_to b i = sum_below (used b) (pointers_from b i)

unfoldable pub pointed_once : List ℕ → ℕ → Bool
pointed_once b i = eqb (pointers_to b i) 1

-- "A user's first entry is an advance of the open year or the closing of the year before, or 0 if no year is closed. After
-- an entry of year y stands an advance of y, or the closing of y − 1, or 0 if y is the activation year." With two open years "the
-- chain rules let advances of both years stand mixed, so that some of the later year are older entries than the earlier closing"
-- (ticket 6): the rules go by the LEVEL of an entry, the year that was open when it was booked. It is that which an advance notes;
-- else, and of a closing always, its year. An advance keeps that year open, a closing ends it; e is what stands where entries of
-- level y may follow.
unfoldable pub level_in : List ℕ → ℕ
level_in r = cond (eqb (get kind_field r) closing_kind) (get year_field r) (level_from (get year_field r) (get booked_field r))

unfoldable pub level_of : List ℕ → ℕ → ℕ
level_of b e = level_in (record_at b e)

abbrev pub keeps_year : List ℕ → ℕ → Bool
keeps_year b e = is_advance b e

unfoldable pub years_ended : ℕ → ℕ
years_ended kind = cond (eqb kind closing_kind) 1 0

unfoldable pub in_order : List ℕ → ℕ → ℕ → ℕ → Bool
in_order b activation y e =
    cond (eqb e 0) (eqb y activation) ((keeps_year b e && eqb (level_of b e) y) || (is_closing b e && eqb (level_of b e + 1) y))

unfoldable pub activation_of : List ℕ → ℕ → ℕ
activation_of b i = get activation_year_field (record_at b i)

unfoldable pub open_year_of : List ℕ → ℕ → ℕ
open_year_of b i = get open_year_field (record_at b i)

unfoldable pub first_in_order : List ℕ → ℕ → Bool
first_in_order b i = in_order b (activation_of b i) (open_year_of b i) (first_entry_of b i)

unfoldable pub next_in_order : List ℕ → ℕ → Bool
next_in_order b i = in_order b (activation_of b (owner_of b i)) (level_of b i) (next_of b i)

-- FAULTS: "A record below u is faulty if its kind, a range or a zero byte is wrong, or if one of these fails." The fault is
-- that of the sentence's subject.
unfoldable pub links_fit : List ℕ → ℕ → Bool
links_fit b i =
    cond (eqb (kind_at b i) user_kind) ((user_next_fits b i && number_is_new b i) && (first_entry_fits b i && first_in_order b i))
    ((owner_fits b i && entry_next_fits b i) && next_in_order b i)

unfoldable pub good_record : List ℕ → ℕ → Bool
good_record b i = (own_rules_fit b i && links_fit b i) && pointed_once b i

-- "The head is faulty if .. its first user is neither 0 nor a user below u, or its rest isn't zero."
unfoldable pub good_head : List ℕ → Bool
good_head b = (eqb (first_user b) 0 || is_user b (first_user b)) && all_zero unnamed_of_head (record_at b 0)

-- "The head is faulty if u is outside 1 to capacity (then it alone is)"
unfoldable pub faulty : List ℕ → ℕ → Bool
faulty b i = cond (used_fits b) (ltb i (used b) && not (cond (eqb i 0) (good_head b) (good_record b i))) (eqb i 0)

-- "A book is sound if no record is faulty."
unfoldable pub sound : List ℕ → Bool
sound b = not (any_below (capacity b) (faulty b))

-- "the faulty record with the smallest index" (ticket 4), of a book that is not sound
unfoldable pub smallest_faulty : List ℕ → ℕ
smallest_faulty b = first_below (capacity b) (faulty b)
