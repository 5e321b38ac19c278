-- A user by value agrees with its ledger, and an accepted call moves both alike: what acceptance tells of the user that a call names, and its step.
use Prim.Native.Nat.{ℕ, ◌+◌, ◌-◌, ◌^◌, ◌≤◌, ◌<◌}
use mathlib.Core.Path.{◌≡◌, refl, ap, ap₂, sym, ◌∙◌, subst}
use mathlib.Core.Bool.{true, cond, not}
use mathlib.Core.Logic.{◌⊎◌, inl, inr, ⊎_elim}
use mathlib.Core.List.{List, [], ◌∷◌}
use mathlib.Core.Option.{Option, none, some}
use native.Mathlib.Nat.{add-zero}
use native.Mathlib.Omega.{arith}
use borrow.Author.Tests.{eq-eqb, ne_eqb, eqb-true}
use lib.Dec.{eqb, ltb}
use Rattle.units.specs.Units.{ticks}
use Rattle.sheet.specs.YearSheet.{sheet_year, sheet_user}
use Rattle.sheet_prices.specs.ValueAndCost.{cost_of}
use Rattle.sheet_values.specs.declared.Details.{Details}
use Rattle.sheet_values.specs.YearsValues.{year_values}
use Rattle.account_steps.specs.declared.Account.{Account}
use Rattle.account_steps.specs.Closing.{contribution_of}
use Rattle.account_steps.specs.Account.{account_elected, account_advanced, account_closed, settled}
use Rattle.account_steps.specs.Charges.{charge_of, withheld_from, withheld_at_closing, closing_withheld, account_charged, account_withheld}
use Rattle.account_steps.proofs.Balances.{balance-held}
use Rattle.book_records.specs.Entries.{advance_entry, closing_entry}
use Rattle.ledger.specs.Ledger.{Item, Advance, Ledger, open_year, year_after, sum_items, sum_balances, sum_advances, advance_amount, sheet_value, sheet_flat_rate, statement_of}
use Rattle.ledger.specs.Ledger as ledger
use Rattle.ledger.proofs.Kept.{Kept, kept-enrolled, kept-elected, kept-charged, kept-advanced, kept-closed, no-advance-yet, closed-paid}
use Rattle.call_rules.specs.Changes.{new_account, booked_in, run_amount}
use Rattle.call_rules.specs.Calls.{Call, enrol, elect, advance, close, statement, charge, change_of, named_by, rules_of, refusal_of}
use Rattle.ledger_views.specs.Views.{View, view_is, withheld_of, view_after, account_of, step_of, view_at, view_of}
use Rattle.ledger_agrees.specs.Fed.{posted, value_by}
use Rattle.ledger.proofs.Years.{none-closed}
use Rattle.ledger_agrees.proofs.Statements.{item_of, advance_of, items_of, advances_of, stated}
use Rattle.units.proofs.Bools.{and_right}
use Rattle.book_rules.specs.Find.{find_user}
use Rattle.call_rules.specs.Rules.{test_of}
use Rattle.call_rules.specs.Refusals.{look_at, user_at}
use Rattle.call_rules.proofs.Orders.{fact}
use Rattle.call_keeps.proofs.Good.{Good}
use Rattle.call_keeps.proofs.Numbers.{none_found}
use Rattle.call_keeps.proofs.Widths.{account-within}
use Rattle.call_keeps.proofs.YearRanges.{values-fit}
use Rattle.call_keeps.proofs.Advance.{run-due}
use Rattle.call_keeps.proofs.Close.{contribution-below}
use Rattle.call_keeps.proofs.CallsFit.{named-user, year-is-open, sheet-passed}
use Rattle.ledger_views.proofs.Kept.{view-is, view-none}

-- what the book holds of a user agrees with a ledger
pub record Agrees (v : View) (l : Ledger) : Type 0 where
  pub details : v.account.details ≡ l.details
  pub option : v.account.option ≡ l.option
  pub credit : v.account.credit.0 ≡ l.credit
  pub half1 : v.account.half1.0 ≡ l.half1
  pub half2 : v.account.half2.0 ≡ l.half2
  pub open-year : v.account.open_year ≡ open_year l
  pub advances : v.account.advances.0 ≡ sum_advances (eqb (open_year l)) l.advances
  pub later : v.account.later_advances.0 ≡ sum_advances (eqb (open_year l + 1)) l.advances
  pub items : items_of v.entries ≡ l.items
  pub paid : advances_of v.entries ≡ l.advances
  pub rest : v.account.charge.rest.0 ≡ l.rest
  pub withheld : withheld_of v.entries ≡ l.withheld

pub data State : Option View → Option Ledger → ℕ → Type 0 where
  unknown : State none none 0
  known : {v : View} {l : Ledger} {x : ℕ} → Agrees v l → Kept x l → State (some v) (some l) x

-- (a) the statement of the one is the statement of the other, all eleven figures
pub same-statement : (v : View) (l : Ledger) {x : ℕ} → Agrees v l → Kept x l → stated v ≡ statement_of l
unfolding stated statement_of
same-statement v l a kept =
    let total : (g : Item → ℕ) → sum_items g (items_of v.entries) ≡ sum_items g l.items = λ g. ap (sum_items g) a.items in
    let before = ap₂ (λ (n : ℕ) (as' : List Advance). sum_advances (λ y. ltb y n) as') a.open-year a.paid ∙ sym (closed-paid kept) in
    λ k.
    record {
      open_year = a.open-year k;
      credit = a.credit k;
      value = total (λ x. x.value) k;
      cost = total (λ x. x.cost) k;
      flat_rate = total (λ x. x.flat_rate) k;
      contribution = total (λ x. x.contribution) k;
      liquidation = total (λ x. x.liquidation) k;
      lapsed = total (λ x. x.lapsed) k;
      balance = ap sum_balances a.items k;
      advances = ap (sum_advances (λ y. true)) a.paid k;
      closed_advances = before k;
    }

abbrev pub contribution : Account → List ℕ → ℕ
contribution a s = contribution_of a.option a.credit.0 (sheet_value a.details s) (cost_of s) (sheet_flat_rate a.details s)

-- what acceptance tells of the user that a call names
pub data Posts : Call → Option View → Type 0 where
  enrols : {n : ℕ} {d : Details} {o : ℕ} → Posts (enrol n d o) none
  elects : {n o y m d : ℕ} {v : View} → Posts (elect n o y m d) (some v)
  advances : {n y r p e₁ e₂ : ℕ} {v : View} → (y ≡ v.account.open_year) ⊎ (y ≡ v.account.open_year + 1) → Posts (advance n y r p e₁ e₂) (some v)
  closes : {s : List ℕ} {v : View} → sheet_year s ≡ v.account.open_year → contribution v.account s < 2 ^ 63 → v.account.advances.0 < 2 ^ 63 → Posts (close s) (some v)
  states : {n : ℕ} {v : View} → Posts (statement n) (some v)
  charges : {n : ℕ} {v : View} → Posts (charge n) (some v)

module _ (v : View) (l : Ledger) (a : Agrees v l) where
  agrees-elected : (o : ℕ) → Agrees (view_is (account_elected o v.account) v.entries) (ledger.elected o l)
  unfolding account_elected ledger.elected
  agrees-elected o =
      record {
        details = a.details;
        option = refl;
        credit = a.credit;
        half1 = a.half1;
        half2 = a.half2;
        open-year = a.open-year;
        advances = a.advances;
        later = a.later;
        items = a.items;
        paid = a.paid;
        rest = a.rest;
        withheld = a.withheld;
      }

  agrees-charged : Agrees (view_is (account_charged v.account) v.entries) (ledger.charged l)
  unfolding account_charged ledger.charged
  agrees-charged =
      record {
        details = a.details;
        option = a.option;
        credit = a.credit;
        half1 = a.half1;
        half2 = a.half2;
        open-year = a.open-year;
        advances = a.advances;
        later = a.later;
        items = a.items;
        paid = a.paid;
        rest = ap₂ (λ (n : ℕ) (d : Details). n + charge_of d.power) a.rest a.details;
        withheld = a.withheld;
      }

  same-amount : (y r p e₁ e₂ : ℕ) {x : ℕ} → Kept x l → run_amount v.account y r p e₁ e₂ ≡ advance_amount y r p e₁ e₂ l
  unfolding run_amount advance_amount
  same-amount y r p e₁ e₂ kept = let none_yet = none-closed l.details.year l.items kept.years in rw (a.details, a.open-year, a.half1, a.half2, none_yet)

  -- what a run pays joins the advances of its year, and the other year's stay
  module _ (y r p e₁ e₂ : ℕ) {x : ℕ} (kept : Kept x l) where
    abbrev amount : ℕ
    amount = advance_amount y r p e₁ e₂ l

    abbrev of-year : ℕ → ℕ
    of-year z = cond (eqb z y) amount 0 + sum_advances (eqb z) l.advances

    paid-is : run_amount v.account y r p e₁ e₂ ≡ amount
    paid-is = same-amount y r p e₁ e₂ kept

    joins-open : (y ≡ v.account.open_year) ⊎ (y ≡ v.account.open_year + 1)
        → cond (eqb y v.account.open_year) (v.account.advances.0 + run_amount v.account y r p e₁ e₂) v.account.advances.0 ≡ of-year (open_year l)
    joins-open (inl e) =
        rw (eq-eqb y v.account.open_year e, eq-eqb (open_year l) y (omega (arith, e, a.open-year))) (omega (arith, a.advances, paid-is))
    joins-open (inr e) =
        rw (ne_eqb y v.account.open_year (λ q. omega arith), ne_eqb (open_year l) y (λ q. omega (arith, a.open-year))) (omega (arith, a.advances))

    joins-later : (y ≡ v.account.open_year) ⊎ (y ≡ v.account.open_year + 1)
        → cond (eqb y v.account.open_year) v.account.later_advances.0 (v.account.later_advances.0 + run_amount v.account y r p e₁ e₂)
        ≡ of-year (open_year l + 1)
    joins-later (inl e) =
        rw (eq-eqb y v.account.open_year e, ne_eqb (open_year l + 1) y (λ q. omega (arith, a.open-year))) (omega (arith, a.later))
    joins-later (inr e) =
        rw (ne_eqb y v.account.open_year (λ q. omega arith), eq-eqb (open_year l + 1) y (omega (arith, e, a.open-year))) (omega (arith, a.later, paid-is))

    abbrev held : ℕ
    held = withheld_from v.account.charge.rest.0 (run_amount v.account y r p e₁ e₂)

    held-is : held ≡ withheld_from l.rest amount
    held-is = ap₂ withheld_from a.rest paid-is

    agrees-advanced : (y ≡ v.account.open_year) ⊎ (y ≡ v.account.open_year + 1)
        → Agrees
        (view_is (account_withheld held (account_advanced y r (run_amount v.account y r p e₁ e₂) v.account))
        (advance_entry y (booked_in v.account y) r (ticks (run_amount v.account y r p e₁ e₂)) (ticks held) ∷ v.entries)) (ledger.advanced y r p e₁ e₂ l)
    unfolding account_advanced account_withheld ledger.advanced sum_advances items_of advances_of withheld_of
    agrees-advanced years =
        record {
          details = a.details;
          option = a.option;
          credit = a.credit;
          half1 = a.half1;
          half2 = a.half2;
          open-year = a.open-year;
          advances = joins-open years;
          later = joins-later years;
          items = a.items;
          paid = ap₂ (λ (t : ℕ) (ps : List Advance). advance_of y t ∷ ps) paid-is a.paid;
          rest = ap₂ (λ (m n : ℕ). m - n) a.rest held-is;
          withheld = ap₂ (λ (n : ℕ) (ns : List ℕ). n ∷ ns) held-is a.withheld;
        }

  same_item : (s : List ℕ) → sheet_year s ≡ open_year l → contribution v.account s < 2 ^ 63 → v.account.advances.0 < 2 ^ 63
      → item_of v.account.open_year v.account.option (settled v.account (year_values s v.account.details))
      ≡ ledger.item_of (sheet_year s) l.option l.credit (sum_advances (eqb (sheet_year s)) l.advances) (sheet_value l.details s) (cost_of s) (sheet_flat_rate l.details s)
  unfolding settled ledger.item_of year_values sheet_value sheet_flat_rate
  same_item s year small field =
      let signed = balance-held (contribution v.account s) v.account.advances.0 small field in
      rw (signed, year, a.open-year, a.option, a.credit, a.advances, a.details)

  -- what the closing withholds, on both sides
  abbrev held-closing : List ℕ → ℕ
  held-closing s = closing_withheld v.account (year_values s v.account.details)

  held-is-closing : (s : List ℕ) → sheet_year s ≡ open_year l
      → held-closing s
      ≡ withheld_at_closing l.rest (ledger.item_with (sheet_year s) (ledger.figures_of l.details s) l).balance (ledger.item_with (sheet_year s) (ledger.figures_of l.details s) l).liquidation
  unfolding closing_withheld year_values ledger.item_of ledger.figures_of sheet_value sheet_flat_rate
  held-is-closing s year = rw (a.rest, year, a.option, a.credit, a.advances, a.details)

  agrees-closed : (s : List ℕ) {x : ℕ} → Kept x l → sheet_year s ≡ open_year l → contribution v.account s < 2 ^ 63 → v.account.advances.0 < 2 ^ 63
      → Agrees
      (view_is (account_withheld (held-closing s) (account_closed (year_values s v.account.details) v.account))
      (closing_entry v.account.open_year v.account.option (settled v.account (year_values s v.account.details)) (ticks (held-closing s)) ∷ v.entries)) (ledger.closed s l)
  unfolding account_closed account_withheld year_values ledger.closed ledger.closed_with ledger.figures_of sheet_value year_after ledger.item_of items_of advances_of withheld_of
  agrees-closed s k year small field =
      record {
        details = a.details;
        option = a.option;
        credit = rw (a.option, a.credit, a.details);
        half1 = refl;
        half2 = refl;
        open-year = rw (a.open-year, year);
        advances = a.later ∙ ap (λ (y : ℕ). sum_advances (eqb (y + 1)) l.advances) (sym year);
        later = sym (no-advance-yet (sheet_year s) (ledger.figures_of l.details s) year k);
        items = ap₂ (λ (i : Item) (is : List Item). i ∷ is) (same_item s year small field) a.items;
        paid = a.paid;
        rest = ap₂ (λ (m n : ℕ). m - n) a.rest (held-is-closing s year);
        withheld = ap₂ (λ (n : ℕ) (ns : List ℕ). n ∷ ns) (held-is-closing s year) a.withheld;
      }

fresh-agrees : (n : ℕ) (d : Details) (o : ℕ) → Agrees (view_is (new_account n d o) []) (ledger.enrolled d o)
unfolding new_account ledger.enrolled year_after sum_advances items_of advances_of withheld_of
fresh-agrees n d o =
    record {
      details = refl;
      option = refl;
      credit = refl;
      half1 = refl;
      half2 = refl;
      open-year = refl;
      advances = refl;
      later = refl;
      items = refl;
      paid = refl;
      rest = refl;
      withheld = refl;
    }

-- the value that a call adds, by the details that the ledger notes
unfoldable pub gain_of : Call → Option Ledger → ℕ
gain_of c none = 0
gain_of c (some l) = value_by l.details c

more : {v : View} {l : Ledger} {x : ℕ} → State (some v) (some l) x → State (some v) (some l) (x + 0)
more {v} {l} {x} s = subst (State (some v) (some l)) (sym (add-zero x)) s

-- the step of the user by value and the step of the ledger
pub in_step : (c : Call) (v : Option View) (m : Option Ledger) (x : ℕ) → Posts c v → State v m x → State (step_of c v) (posted c m) (x + gain_of c m)
unfolding step_of change_of view_after account_of posted gain_of value_by ledger.closed ledger.figures_of
in_step c v m x (enrols {n} {d} {o}) unknown = known (fresh-agrees n d o) (kept-enrolled d o)
in_step c v m x (elects {o = o}) (known {v = u} {l = l} a k) = more (known (agrees-elected u l a o) (kept-elected o k))
in_step c v m x (advances {y = y} {r} {p} {e₁} {e₂} year) (known {v = u} {l = l} a k) =
    let from : open_year l ≤ y = ⊎_elim (λ e. omega (arith, a.open-year)) (λ e. omega (arith, a.open-year)) year in
    let to : y ≤ open_year l + 1 = ⊎_elim (λ e. omega (arith, a.open-year)) (λ e. omega (arith, a.open-year)) year in
    more (known (agrees-advanced u l a y r p e₁ e₂ k year) (kept-advanced y r p e₁ e₂ from to k))
in_step c v m x (closes {s} year small field) (known {v = u} {l = l} a k) =
    known (agrees-closed u l a s k (year ∙ a.open-year) small field) (kept-closed (sheet_year s) (ledger.figures_of l.details s) (year ∙ a.open-year) k)
in_step c v m x states (known a k) = more (known a k)
in_step c v m x charges (known {v = u} {l = l} a k) = more (known (agrees-charged u l a) (kept-charged k))

-- a ledger that notes these details, or none
abbrev pub Notes : Option Ledger → Details → Type 0
Notes none d = Unit {0}
Notes (some l) d = l.details ≡ d

-- details stay as enrolled, so that what a call adds is worked from those that the ledger notes at the end
pub noted : (c : Call) (v : Option View) (m : Option Ledger) (x : ℕ) → Posts c v → State v m x → (d : Details) → Notes (posted c m) d
    → Notes m d × (gain_of c m ≡ value_by d c)
unfolding posted gain_of value_by ledger.elected ledger.charged ledger.advanced ledger.closed ledger.closed_with
noted c v m x enrols unknown d n = (tt, refl)
noted c v m x elects (known a k) d n = (n, refl)
noted c v m x (advances year) (known a k) d n = (n, refl)
noted c v m x (closes {s} year small field) (known a k) d n = (n, ap (λ (e : Details). sheet_value e s) n)
noted c v m x states (known a k) d n = (n, refl)
noted c v m x charges (known a k) d n = (n, refl)

-- WHAT ACCEPTANCE TELLS, from the rules, by number

module _ (b : List ℕ) (g : Good b) where
  -- a number that is there
  there : (n : ℕ) → not (eqb (find_user b n) 0) ≡ true → view_of b n ≡ some (view_at b (find_user b n))
  there n h = let u = named-user b n h in view-is b g.faultless n (find_user b n) u.user u.number_is

  small-sums : (s : List ℕ) → refusal_of b (close s) ≡ 0 → (contribution (user_at b (sheet_user s)) s < 2 ^ 63) × ((user_at b (sheet_user s)).advances.0 < 2 ^ 63)
  unfolding test_of rules_of look_at named_by year_values sheet_value sheet_flat_rate
  small-sums s h =
      let n = sheet_user s in
      let a = user_at b n in
      let fits = (g.faultless.user (find_user b n) (named-user b n (fact b (close s) h 6)).user).fits in
      let most = contribution-below a (year_values s a.details) fits (values-fit s (sheet-passed b s h) a.details) in
      let w = account-within a fits in
      (omega (arith, most), omega (arith, w.advances))

  pub call-posts : (c : Call) → refusal_of b c ≡ 0 → Posts c (view_of b (named_by c))
  unfolding test_of rules_of look_at named_by
  call-posts (enrol n d o) h =
      let free = and_right (not (eqb n 0)) (eqb (find_user b n) 0) (fact b (enrol n d o) h 4) in
      subst (Posts (enrol n d o)) (sym (view-none b n (none_found b n (eqb-true (find_user b n) 0 free)))) enrols
  call-posts (elect n o y m d) h = subst (Posts (elect n o y m d)) (sym (there n (fact b (elect n o y m d) h 6))) elects
  call-posts (advance n y r p e₁ e₂) h =
      let accepted = fact b (advance n y r p e₁ e₂) h in
      subst (Posts (advance n y r p e₁ e₂)) (sym (there n (accepted 6))) (advances (run-due (user_at b n) y r (accepted 9)).year-is)
  call-posts (close s) h =
      let accepted = fact b (close s) h in
      let small = small-sums s h in
      subst (Posts (close s)) (sym (there (sheet_user s) (accepted 6))) (closes (year-is-open (user_at b (sheet_user s)) (sheet_year s) (accepted 12)).0 small.0 small.1)
  call-posts (charge n) h = subst (Posts (charge n)) (sym (there n (fact b (charge n) h 6))) charges
  call-posts (statement n) h = subst (Posts (statement n)) (sym (there n (fact b (statement n) h 6))) states
