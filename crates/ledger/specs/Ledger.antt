-- "Ledger" of document 01: a user's ledger, fed with the arguments of the calls for its number that answered 0, and with
-- nothing from the book.
use Rattle.std.specs.Prelude.{ℕ, ◌+◌, ◌-◌, Bool, true, false, cond, ◌||◌, List, [], ◌∷◌, eqb, ℤ, pos, ◌+ℤ◌}
use Rattle.sheet_values.specs.declared.Details.{Details}
use Rattle.sheet_prices.specs.ValueAndCost.{value_of, cost_of}
use Rattle.sheet_values.specs.YearsValues.{flat_rate_over, half_of, on_island, is_photovoltaic}
use Rattle.sheet.specs.YearSheet.{sheet_year}
use Rattle.calendar.specs.ElectionAndAdvances.{halves_paid, amount_of}
use Rattle.account_steps.specs.Charges.{charge_of, withheld_from, withheld_at_closing}
use Rattle.account_steps.specs.Closing.{contribution_of, liquidation_of, lapsed_of, credit_after, balance_of}

-- "posts one item: year, option, C, O, F and the sums of "Closing""
pub record Item : Type 0 where
  pub year : ℕ
  pub option : ℕ
  pub value : ℕ
  pub cost : ℕ
  pub flat_rate : ℕ
  pub contribution : ℕ
  pub liquidation : ℕ
  pub lapsed : ℕ
  pub balance : ℤ

-- an amount among "the advances of the year named"
pub record Advance : Type 0 where
  pub year : ℕ
  pub ticks : ℕ

-- Items and advances stand newest first. Of the charges of ticket 1 it notes all that were made, what of them is unpaid, and what each
-- advance and each closing had withheld, newest first.
pub record Ledger : Type 0 where
  pub details : Details
  pub option : ℕ
  pub credit : ℕ
  pub half1 : ℕ
  pub half2 : ℕ
  pub items : List Item
  pub advances : List Advance
  pub charges : ℕ
  pub rest : ℕ
  pub withheld : List ℕ

-- "The open year follows the last item's, or is the activation year."
unfoldable pub year_after : ℕ → List Item → ℕ
year_after activation [] = activation
year_after activation (i ∷ is) = i.year + 1

abbrev pub open_year : Ledger → ℕ
open_year l = year_after l.details.year l.items

-- "A year with an item is closed"; and "if no year is closed": there is no item
unfoldable pub is_closed : List Item → ℕ → Bool
is_closed [] year = false
is_closed (i ∷ is) year = eqb i.year year || is_closed is year

unfoldable pub none_closed : List Item → Bool
none_closed [] = true
none_closed (i ∷ is) = false

-- a sum over items, and over advances that pass a test
unfoldable pub sum_items : (Item → ℕ) → List Item → ℕ
sum_items f [] = 0
sum_items f (i ∷ is) = f i + sum_items f is

unfoldable pub sum_balances : List Item → ℤ
sum_balances [] = pos 0
sum_balances (i ∷ is) = i.balance +ℤ sum_balances is

unfoldable pub sum_all : List ℕ → ℕ
sum_all [] = 0
sum_all (n ∷ ns) = n + sum_all ns

unfoldable pub sum_advances : (ℕ → Bool) → List Advance → ℕ
sum_advances p [] = 0
sum_advances p (a ∷ as') = cond (p a.year) a.ticks 0 + sum_advances p as'

-- "Enrol notes the details, no item, credit and halves 0."
unfoldable pub enrolled : Details → ℕ → Ledger
enrolled d o =
    record { details = d; option = o; credit = 0; half1 = 0; half2 = 0; items = []; advances = []; charges = 0; rest = 0; withheld = [] }

-- "Elect sets the option."
unfoldable pub elected : ℕ → Ledger → Ledger
elected o l =
    record {
      details = l.details;
      option = o;
      credit = l.credit;
      half1 = l.half1;
      half2 = l.half2;
      items = l.items;
      advances = l.advances;
      charges = l.charges;
      rest = l.rest;
      withheld = l.withheld;
    }

-- Ticket 1: "A new call charges the open year once." The charge of the enrolled power joins the charges made and the unpaid rest.
unfoldable pub charged : Ledger → Ledger
charged l =
    record {
      details = l.details;
      option = l.option;
      credit = l.credit;
      half1 = l.half1;
      half2 = l.half2;
      items = l.items;
      advances = l.advances;
      charges = l.charges + charge_of l.details.power;
      rest = l.rest + charge_of l.details.power;
      withheld = l.withheld;
    }

-- "The amount is the rate times the last closed year's half, or times that half's estimate if no year is closed"
unfoldable pub advance_amount : ℕ → ℕ → ℕ → ℕ → ℕ → Ledger → ℕ
advance_amount year run rate estimate1 estimate2 l =
    amount_of (halves_paid l.details.year l.details.month year run) rate
    (cond (none_closed l.items) estimate1 l.half1) (cond (none_closed l.items) estimate2 l.half2)

-- "Advance adds its amount, worked as above from its arguments and the ledger, to the advances of the year named." The rest is
-- "withheld, as far as each reaches, from each later positive payment: an advance, .." (ticket 1)
unfoldable pub advanced : ℕ → ℕ → ℕ → ℕ → ℕ → Ledger → Ledger
advanced year run rate estimate1 estimate2 l =
    let held = withheld_from l.rest (advance_amount year run rate estimate1 estimate2 l) in
    record {
      details = l.details;
      option = l.option;
      credit = l.credit;
      half1 = l.half1;
      half2 = l.half2;
      items = l.items;
      advances = record { year = year; ticks = advance_amount year run rate estimate1 estimate2 l } ∷ l.advances;
      charges = l.charges;
      rest = l.rest - held;
      withheld = held ∷ l.withheld;
    }

-- "Close works C, O and F from sheet and details, takes K, A and the option from the ledger, and posts one item .. New
-- credit and halves stay noted." K is the credit noted, A the advances of the sheet's year.
unfoldable pub item_of : ℕ → ℕ → ℕ → ℕ → ℕ → ℕ → ℕ → Item
item_of year option k a c o f =
    record {
      year = year;
      option = option;
      value = c;
      cost = o;
      flat_rate = f;
      contribution = contribution_of option k c o f;
      liquidation = liquidation_of option c o;
      lapsed = lapsed_of option k;
      balance = balance_of (contribution_of option k c o f) a;
    }

-- what a year comes to, wherever its figures are from: C, O, F and the exchanged kWh of its halves
pub record Figures : Type 0 where
  pub value : ℕ
  pub cost : ℕ
  pub flat_rate : ℕ
  pub half1 : ℕ
  pub half2 : ℕ

-- the item that a closing posts
abbrev pub item_with : ℕ → Figures → Ledger → Item
item_with year f l = item_of year l.option l.credit (sum_advances (eqb year) l.advances) f.value f.cost f.flat_rate

-- ".. then within a closing the balance and after it the liquidation." (ticket 1)
unfoldable pub closed_with : ℕ → Figures → Ledger → Ledger
closed_with year f l =
    let held = withheld_at_closing l.rest (item_with year f l).balance (item_with year f l).liquidation in
    record {
      details = l.details;
      option = l.option;
      credit = credit_after l.option l.credit f.value f.cost;
      half1 = f.half1;
      half2 = f.half2;
      items = item_with year f l ∷ l.items;
      advances = l.advances;
      charges = l.charges;
      rest = l.rest - held;
      withheld = held ∷ l.withheld;
    }

-- the figures of a sheet, by the enrolled details
unfoldable pub sheet_value : Details → List ℕ → ℕ
sheet_value d s = value_of s (on_island d) (is_photovoltaic d)

unfoldable pub sheet_flat_rate : Details → List ℕ → ℕ
sheet_flat_rate d s = flat_rate_over s 0 12 d.class d.plant d.power

unfoldable pub figures_of : Details → List ℕ → Figures
figures_of d s =
    record { value = sheet_value d s; cost = cost_of s; flat_rate = sheet_flat_rate d s; half1 = half_of s 0; half2 = half_of s 1 }

unfoldable pub closed : List ℕ → Ledger → Ledger
closed s l = closed_with (sheet_year s) (figures_of l.details s) l

-- "Statement: open year, credit, and the sums over the chain of C, O, F, contribution, liquidation, lapsed, balance, all
-- advances, advances of closed years.", "summed over items and advances instead of the chain"
pub record Statement : Type 0 where
  pub open_year : ℕ
  pub credit : ℕ
  pub value : ℕ
  pub cost : ℕ
  pub flat_rate : ℕ
  pub contribution : ℕ
  pub liquidation : ℕ
  pub lapsed : ℕ
  pub balance : ℤ
  pub advances : ℕ
  pub closed_advances : ℕ

unfoldable pub statement_of : Ledger → Statement
statement_of l =
    record {
      open_year = year_after l.details.year l.items;
      credit = l.credit;
      value = sum_items (λ i. i.value) l.items;
      cost = sum_items (λ i. i.cost) l.items;
      flat_rate = sum_items (λ i. i.flat_rate) l.items;
      contribution = sum_items (λ i. i.contribution) l.items;
      liquidation = sum_items (λ i. i.liquidation) l.items;
      lapsed = sum_items (λ i. i.lapsed) l.items;
      balance = sum_balances l.items;
      advances = sum_advances (λ y. true) l.advances;
      closed_advances = sum_advances (is_closed l.items) l.advances;
    }
