-- One list: an enrolment, a charge, a run of the later year before a closing and one of the same year after it, an election, two
-- closings and a call that is refused. It is one of those that the third demand is about.
use Prim.Native.Nat.{ℕ, zero, suc}
use mathlib.Core.Path.{◌≡◌, refl, subst}
use mathlib.Core.Bool.{Bool, true, ◌&&◌}
use mathlib.Core.List.{List, [], ◌∷◌, ◌++◌}
use native.Mathlib.Omega.{arith}
use borrow.Author.Tests.{ltb-true}
use lib.Dec.{ltb}
use lib.ListN.{replicate}
use Rattle.std.specs.Prelude.{Ok}
use Rattle.std.specs.Int.{int_wrap}
use Rattle.units.proofs.Bools.{and_left, and_right}
use Rattle.units.specs.Folds.{sum_below, all_below, any_below}
use Rattle.codec.specs.Bytes.{little_endian, bytes_of, part, number, stored, zeros}
use Rattle.tariff.specs.Tariff.{domestic, monthly_method, between, above, tiers, annual_tiers, mean_rate, tier_rate, flat_rate_of}
use Rattle.calendar.specs.ElectionAndAdvances.{days_in, is_day, not_after, in_window, halves_paid, due, halves_count, paid_of, amount_of}
use Rattle.sheet.specs.YearSheet.{withdrawn_reading, injected_reading, word, header_fits, last_words_fit, form_fits, refused11, limit_at, above_limit, unused_band, stray_band, at_fault, earliest}
use Rattle.sheet.specs.YearSheet.{refused13}
use Rattle.sheet.specs.YearSheet.{refused19, month_withdrawn, refused14}
use Rattle.sheet_prices.specs.ValueAndCost.{cost_in, cost_of, single_price, value_in, value_of}
use Rattle.sheet_values.specs.YearsValues.{month_injected, withdrawn_over, injected_over, exchanged_over, month_exchanged, annual_rate, annual_flat_rate, flat_rate_over, half_of, year_values}
use Rattle.account_steps.specs.Account.{account_elected, runs_in, account_advanced, account_closed, settled}
use Rattle.account_steps.specs.Charges.{charge_of, withheld_from, positive_part, withheld_at_closing, closing_withheld, account_charged, account_withheld}
use Rattle.account_steps.specs.Closing.{contribution_of, liquidation_of, lapsed_of, credit_after, balance_of}
use Rattle.book_layout.specs.Fields.{get, record_at, put_record, written, all_zero}
use Rattle.book_records.specs.Records.{head_image, user_image, advance_image, closing_image, account_in, advance_in, closing_in}
use Rattle.book_rules.specs.Book.{length_fits, fresh_book, used, first_user, used_fits, kind_at, has_kind, is_entry, details_fit, open_year_fits, halves_of, is_made, due_if_made, runs_fit}
use Rattle.book_rules.specs.Book.{halves_made, advances_fit}
use Rattle.book_rules.specs.Book.{later_half, later_fits, credit_fits, halves_fit, charge_fits, account_fits, year_fits, is_run, level_from, booked_fits, advance_fits, balance_fits, paid_balance}
use Rattle.book_rules.specs.Book.{withheld_fits}
use Rattle.book_rules.specs.Book.{closing_fits, owner_of, ranges_fit, zero_bytes_fit, next_of, first_entry_of, number_of, user_next_fits, number_is_new, first_entry_fits, entry_next_fits, owner_fits}
use Rattle.book_rules.specs.Book.{hits}
use Rattle.book_rules.specs.Book.{pointers_from, pointers_to, pointed_once, level_of, in_order, activation_of, open_year_of, first_in_order, next_in_order, links_fit, good_record, good_head, faulty}
use Rattle.book_rules.specs.Book.{sound}
use Rattle.book_rules.specs.Book.{entry_kind, entry_ranges, unnamed_of, level_in}
use Rattle.call_rules.specs.Changes.{new_account, enrolled_as, with_account, with_entry, applied, booked_in, run_amount}
use Rattle.book_records.specs.Entries.{entry_image}
use Rattle.book_rules.specs.Find.{find_below, find_user}
use Rattle.call_rules.specs.Calls.{Call, enrol, elect, advance, close, charge, named_by, rules_of, refusal_of, change_of, booked, book_after, Typed, AllTyped}
use Rattle.call_rules.specs.Rules.{refused_by}
use Rattle.call_rules.specs.Refusals.{look_at, has_room, day_and_option, election_open, charge_open, is_open, run_open, order_fits, year_open}
use Rattle.sheet_values.specs.declared.Details.{Details}
use Rattle.check_book.specs.Verdicts.{fresh_answer, fresh_after}
use Rattle.book_layout.proofs.ByteRanges.{Bytes}
use Rattle.ledger_agrees.specs.Lists.{Made, made, Runs, made_of, book_after_all}
use Rattle.ledger_agrees.specs.Fed.{here}
use Rattle.theorem.specs.Runs.{Calls}
use Rattle.theorem.specs.Claims.{Claim}
use Rattle.theorem.proofs.Theorem.{third-demand}
use Rattle.theorem.proofs.Steps.{possible, lent}

abbrev pub details : Details
details = record { class = 1; plant = 1; power = 3000; year = 2013; month = 1; island = 0 }

unfoldable pub words : List ℕ → List ℕ
words [] = []
words (n ∷ ns) = bytes_of 4 n ++ words ns

-- 100 kWh injected at 0.05 €/kWh and 50 withdrawn at 0.06
unfoldable pub month : List ℕ
month = words (50 ∷ 0 ∷ 0 ∷ 100 ∷ 0 ∷ 0 ∷ 0 ∷ 0 ∷ 0 ∷ 6000 ∷ 0 ∷ 0 ∷ 0 ∷ 5000 ∷ 5000 ∷ []) ++ replicate 36 0

unfoldable pub months : ℕ → List ℕ
months zero = []
months (suc n) = month ++ months n

unfoldable pub sheet_of : ℕ → List ℕ
sheet_of year = bytes_of 4 7 ++ (bytes_of 2 year ++ (replicate 26 0 ++ months 12))

-- June's run of 2014 while 2013 is open, by the estimate, and October's once it is closed, by its half
abbrev june-2014 : Call
june-2014 = advance 7 2014 1 9000 4000 4000

abbrev october-2014 : Call
october-2014 = advance 7 2014 2 9000 0 0

-- enrolled on credit and charged, then liquidation is elected; the second enrolment of the number is refused with 4
unfoldable pub calls : List Call
calls =
    enrol 7 details 0 ∷ charge 7 ∷ june-2014 ∷ close (sheet_of 2013) ∷ october-2014 ∷ elect 7 1 2014 6 30 ∷ close (sheet_of 2014) ∷ enrol 7 details 0 ∷ []

unfoldable pub others : List Made
others =
    made (charge 7) 0 ∷ made june-2014 0 ∷ made (close (sheet_of 2013)) 0 ∷ made october-2014 0 ∷ made (elect 7 1 2014 6 30) 0 ∷ made (close (sheet_of 2014)) 0
    ∷ made (enrol 7 details 0) 4 ∷ []

answered : made_of (fresh_book 480) calls ≡ made (enrol 7 details 0) 0 ∷ others
unfolding made_of calls others sum_below all_below any_below little_endian bytes_of part number stored domestic monthly_method between above tiers annual_tiers mean_rate tier_rate
    flat_rate_of days_in is_day not_after in_window withdrawn_reading injected_reading word header_fits last_words_fit form_fits refused11 limit_at above_limit unused_band stray_band
    at_fault earliest refused13 refused19 month_withdrawn refused14 cost_in cost_of single_price value_in value_of month_injected withdrawn_over injected_over exchanged_over month_exchanged
    annual_rate annual_flat_rate flat_rate_over half_of year_values halves_paid due halves_count paid_of amount_of account_elected runs_in account_advanced account_closed contribution_of
    liquidation_of lapsed_of credit_after balance_of int_wrap charge_of withheld_from positive_part withheld_at_closing closing_withheld account_charged account_withheld get zeros record_at
    put_record written head_image user_image advance_image closing_image account_in advance_in closing_in length_fits fresh_book used first_user used_fits kind_at has_kind entry_kind
    entry_ranges unnamed_of all_zero level_in is_entry details_fit open_year_fits halves_of is_made due_if_made runs_fit halves_made advances_fit later_half later_fits credit_fits halves_fit
    charge_fits account_fits year_fits is_run level_from booked_fits advance_fits balance_fits paid_balance withheld_fits closing_fits owner_of ranges_fit zero_bytes_fit next_of
    first_entry_of number_of user_next_fits number_is_new first_entry_fits entry_next_fits owner_fits hits pointers_from pointers_to pointed_once level_of in_order activation_of open_year_of
    first_in_order next_in_order links_fit good_record good_head faulty sound find_below find_user new_account enrolled_as with_account with_entry applied booked_in run_amount entry_image
    settled refusal_of change_of booked book_after refused_by rules_of named_by look_at has_room day_and_option election_open charge_open is_open run_open order_fits year_open words month
    months sheet_of
answered = refl

-- every byte of the sheets is one
unfoldable small : List ℕ → Bool
small [] = true
small (x ∷ s) = ltb x 256 && small s

small_bytes : (s : List ℕ) → small s ≡ true → Bytes s
unfolding small
small_bytes [] h k = omega arith
small_bytes (x ∷ s) h zero = ltb-true x 256 (and_left (ltb x 256) (small s) h)
small_bytes (x ∷ s) h (suc k) = small_bytes s (and_right (ltb x 256) (small s) h) k

bytes-2013 : Bytes (sheet_of 2013)
unfolding small bytes_of words month months sheet_of
bytes-2013 = small_bytes (sheet_of 2013) refl

bytes-2014 : Bytes (sheet_of 2014)
unfolding small bytes_of words month months sheet_of
bytes-2014 = small_bytes (sheet_of 2014) refl

enrolment-typed : Typed (enrol 7 details 0)
unfolding Typed
enrolment-typed = (omega arith, omega arith, omega arith, omega arith, omega arith, omega arith, omega arith, omega arith)

election-typed : Typed (elect 7 1 2014 6 30)
unfolding Typed
election-typed = (omega arith, omega arith, omega arith, omega arith, omega arith)

charge-typed : Typed (charge 7)
unfolding Typed
charge-typed = omega arith

june-typed : Typed june-2014
unfolding Typed
june-typed = (omega arith, omega arith, omega arith, omega arith, omega arith, omega arith)

october-typed : Typed october-2014
unfolding Typed
october-typed = (omega arith, omega arith, omega arith, omega arith, omega arith, omega arith)

typed : AllTyped calls
unfolding AllTyped Typed calls
typed = (enrolment-typed, (charge-typed, (june-typed, (bytes-2013, (october-typed, (election-typed, (bytes-2014, (enrolment-typed, tt))))))))

-- a buffer of 480 bytes
abbrev buffer : List ℕ
buffer = replicate 480 0

abbrev after : List ℕ
after = book_after_all (fresh_book 480) calls

-- each call is answered, and the book as the last one left it goes to the next
pub run : Runs Calls (fresh_book 480) (made (enrol 7 details 0) 0 ∷ others) after
run = subst (λ ms. Runs Calls (fresh_book 480) ms after) answered (possible (fresh_book 480) calls typed)

-- the third demand of this list, for user 7
pub user-7-right : Claim (made (enrol 7 details 0) 0 ∷ others) after 7
unfolding fresh_answer fresh_after length_fits
user-7-right =
    (third-demand ([], tt) (lent buffer, tt) (Ok tt) (lent (fresh_book 480), tt) (refl, refl) refl (made (enrol 7 details 0) 0 ∷ others) after run).1 7 (here details 0 others)
