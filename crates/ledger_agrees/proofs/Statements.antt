-- The statement of a user of the book is that of what the book holds of it: its items and its advances, by value.
use Prim.Native.Nat.{ℕ, ◌+◌}
use mathlib.Core.Path.{◌≡◌, refl, ap, ap₂, ◌∙◌}
use mathlib.Core.Bool.{Bool, true, false, cond, ◌&&◌}
use mathlib.Core.Logic.{◌⊎◌, inl, inr}
use mathlib.Core.List.{List, [], ◌∷◌}
use native.Mathlib.Nat.{zero-add}
use native.Mathlib.Omega.{arith}
use lib.Dec.{ltb}
use lib.IntN.{ℤ, pos, ◌+ℤ◌, +ℤ_idl}
use Rattle.book_layout.specs.Fields.{record_at, advance_kind, closing_kind}
use Rattle.book_records.specs.Records.{advance_in, closing_in}
use Rattle.book_records.specs.Entries.{Entry, advance_entry, closing_entry, entry_in}
use Rattle.account_steps.specs.declared.ClosingSums.{ClosingSums}
use Rattle.book_rules.specs.Book.{kind_at, is_user, is_advance, is_closing, is_entry, account_at}
use Rattle.book_rules.specs.Chains.{entries_of}
use Rattle.book_rules.proofs.RecordKinds.{kind-is, kinds-apart, entry-cases}
use Rattle.book_rules.proofs.Faultless.{Faultless}
use Rattle.chains.specs.Statements.{closing_part, advance_part, balance_part, sum_over, sum_over_ℤ, statement_at}
use Rattle.chains.proofs.Lists.{All}
use Rattle.ledger.specs.Ledger.{Item, Advance, Statement, sum_items, sum_balances, sum_advances}
use Rattle.ledger_views.specs.Views.{View, entries_in, view_at}
use Rattle.ledger_views.proofs.Histories.{IsEntry, are-entries}

-- the ledger's item that a closing stands for, and its advance
abbrev pub item_of : ℕ → ℕ → ClosingSums → Item
item_of year option s =
    record {
      year = year;
      option = option;
      value = s.value.0;
      cost = s.cost.0;
      flat_rate = s.flat_rate.0;
      contribution = s.contribution.0;
      liquidation = s.liquidation.0;
      lapsed = s.lapsed.0;
      balance = s.balance.0;
    }

abbrev pub advance_of : ℕ → ℕ → Advance
advance_of year paid = record { year = year; ticks = paid }

unfoldable pub items_of : List Entry → List Item
items_of [] = []
items_of (advance_entry y k r p w ∷ es) = items_of es
items_of (closing_entry y o s w ∷ es) = item_of y o s ∷ items_of es

unfoldable pub advances_of : List Entry → List Advance
advances_of [] = []
advances_of (advance_entry y k r p w ∷ es) = advance_of y p.0 ∷ advances_of es
advances_of (closing_entry y o s w ∷ es) = advances_of es

-- an entry of the book, by its kind
data Told (b : List ℕ) (e : ℕ) : Type 0 where
  an-advance : is_advance b e ≡ true → is_closing b e ≡ false
      → entry_in (record_at b e)
      ≡ advance_entry (advance_in (record_at b e)).year (advance_in (record_at b e)).booked (advance_in (record_at b e)).run (advance_in (record_at b e)).ticks (advance_in (record_at b e)).withheld
      → Told b
      e
  a-closing : is_advance b e ≡ false → is_closing b e ≡ true
      → entry_in (record_at b e) ≡ closing_entry (closing_in (record_at b e)).year (closing_in (record_at b e)).option (closing_in (record_at b e)).sums (closing_in (record_at b e)).withheld
      → Told b e

told : (b : List ℕ) (e : ℕ) → is_entry b e ≡ true → Told b e
unfolding entry_in kind_at
told b e h = by_kind (entry-cases b e h)
  where
    by_kind : (is_advance b e ≡ true) ⊎ (is_closing b e ≡ true) → Told b e
    by_kind (inl a) = let k : kind_at b e ≡ advance_kind = kind-is b advance_kind e a in an-advance a (kinds-apart b advance_kind closing_kind e (omega arith) a) (rw k)
    by_kind (inr c) = let k : kind_at b e ≡ closing_kind = kind-is b closing_kind e c in a-closing (kinds-apart b closing_kind advance_kind e (omega arith) c) c (rw k)

module _ (b : List ℕ) where
  sum-items : (f : ClosingSums → ℕ) (g : Item → ℕ) → ((year option : ℕ) (s : ClosingSums) → f s ≡ g (item_of year option s)) → (es : List ℕ) → All (IsEntry b) es
      → sum_over (closing_part f b) es ≡ sum_items g (items_of (entries_in b es))
  unfolding sum_over closing_part sum_items items_of entries_in
  sum-items f g h [] a = refl
  sum-items f g h (e ∷ es) a = by_kind (told b e a.0) (sum-items f g h es a.1)
    where
      by_kind : Told b e → sum_over (closing_part f b) es ≡ sum_items g (items_of (entries_in b es))
          → cond (is_closing b e) (f (closing_in (record_at b e)).sums) 0 + sum_over (closing_part f b) es ≡ sum_items g (items_of (entry_in (record_at b e) ∷ entries_in b es))
      by_kind (an-advance p q r) rest = rw (q, r) (zero-add (sum_over (closing_part f b) es) ∙ rest)
      by_kind (a-closing p q r) rest = rw (q, r) (ap₂ ◌+◌ (h (closing_in (record_at b e)).year (closing_in (record_at b e)).option (closing_in (record_at b e)).sums) rest)

  sum-balances : (es : List ℕ) → All (IsEntry b) es → sum_over_ℤ (balance_part b) es ≡ sum_balances (items_of (entries_in b es))
  unfolding sum_over_ℤ balance_part sum_balances items_of entries_in
  sum-balances [] a = refl
  sum-balances (e ∷ es) a = by_kind (told b e a.0) (sum-balances es a.1)
    where
      by_kind : Told b e → sum_over_ℤ (balance_part b) es ≡ sum_balances (items_of (entries_in b es))
          → cond (is_closing b e) (closing_in (record_at b e)).sums.balance.0 (pos 0) +ℤ sum_over_ℤ (balance_part b) es
          ≡ sum_balances (items_of (entry_in (record_at b e) ∷ entries_in b es))
      by_kind (an-advance p q r) rest = rw (q, r) (+ℤ_idl (sum_over_ℤ (balance_part b) es) ∙ rest)
      by_kind (a-closing p q r) rest = rw (q, r) (ap (λ (z : ℤ). (closing_in (record_at b e)).sums.balance.0 +ℤ z) rest)

  sum-advances : (p : ℕ → Bool) (es : List ℕ) → All (IsEntry b) es → sum_over (advance_part p b) es ≡ sum_advances p (advances_of (entries_in b es))
  unfolding sum_over advance_part sum_advances advances_of entries_in
  sum-advances p [] a = refl
  sum-advances p (e ∷ es) a = by_kind (told b e a.0) (sum-advances p es a.1)
    where
      by_kind : Told b e → sum_over (advance_part p b) es ≡ sum_advances p (advances_of (entries_in b es))
          → cond (is_advance b e && p (advance_in (record_at b e)).year) (advance_in (record_at b e)).ticks.0 0 + sum_over (advance_part p b) es
          ≡ sum_advances p (advances_of (entry_in (record_at b e) ∷ entries_in b es))
      by_kind (an-advance t q r) rest = rw (t, r) (ap (λ (n : ℕ). cond (p (advance_in (record_at b e)).year) (advance_in (record_at b e)).ticks.0 0 + n) rest)
      by_kind (a-closing t q r) rest = rw (t, r) (zero-add (sum_over (advance_part p b) es) ∙ rest)

-- the statement of what the book holds of a user
unfoldable pub stated : View → Statement
stated v =
    record {
      open_year = v.account.open_year;
      credit = v.account.credit.0;
      value = sum_items (λ i. i.value) (items_of v.entries);
      cost = sum_items (λ i. i.cost) (items_of v.entries);
      flat_rate = sum_items (λ i. i.flat_rate) (items_of v.entries);
      contribution = sum_items (λ i. i.contribution) (items_of v.entries);
      liquidation = sum_items (λ i. i.liquidation) (items_of v.entries);
      lapsed = sum_items (λ i. i.lapsed) (items_of v.entries);
      balance = sum_balances (items_of v.entries);
      advances = sum_advances (λ y. true) (advances_of v.entries);
      closed_advances = sum_advances (λ y. ltb y v.account.open_year) (advances_of v.entries);
    }

pub statement-stated : (b : List ℕ) → Faultless b → (i : ℕ) → is_user b i ≡ true → statement_at b i ≡ stated (view_at b i)
unfolding statement_at stated
statement-stated b g i u =
    let es = entries_of b i in
    let all = are-entries b g i u in
    let value = sum-items b (λ c. c.value.0) (λ x. x.value) (λ year option s. refl) es all in
    let cost = sum-items b (λ c. c.cost.0) (λ x. x.cost) (λ year option s. refl) es all in
    let flat = sum-items b (λ c. c.flat_rate.0) (λ x. x.flat_rate) (λ year option s. refl) es all in
    let contribution = sum-items b (λ c. c.contribution.0) (λ x. x.contribution) (λ year option s. refl) es all in
    let liquidation = sum-items b (λ c. c.liquidation.0) (λ x. x.liquidation) (λ year option s. refl) es all in
    let lapsed = sum-items b (λ c. c.lapsed.0) (λ x. x.lapsed) (λ year option s. refl) es all in
    let balance = sum-balances b es all in
    let paid = sum-advances b (λ y. true) es all in
    let before = sum-advances b (λ y. ltb y (account_at b i).open_year) es all in
    λ k.
    record {
      open_year = (account_at b i).open_year;
      credit = (account_at b i).credit.0;
      value = value k;
      cost = cost k;
      flat_rate = flat k;
      contribution = contribution k;
      liquidation = liquidation k;
      lapsed = lapsed k;
      balance = balance k;
      advances = paid k;
      closed_advances = before k;
    }
