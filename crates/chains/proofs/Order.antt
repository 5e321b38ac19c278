-- The order of years along a chain: advances of a year, then the closing of the year before it, down to the activation year.
use Prim.Native.Nat.{ℕ, ◌+◌, ◌≤◌, ◌<◌}
use mathlib.Core.Path.{◌≡◌, subst}
use mathlib.Core.Bool.{true, cond, ◌&&◌, ◌||◌}
use mathlib.Core.Logic.{◌⊎◌, inl, inr, ⊎_elim}
use mathlib.Core.List.{List, [], ◌∷◌}
use native.Mathlib.Omega.{arith}
use lib.Dec.{eqb}
use borrow.Author.Tests.{eqb-true, ne_eqb}
use Rattle.units.proofs.Bools.{and_left, and_right, or_cases}
use Rattle.book_layout.specs.Fields.{advance_kind, closing_kind}
use Rattle.book_rules.specs.Book.{is_user, keeps_year, is_closing, next_of, first_entry_of, level_of, in_order, activation_of, open_year_of, first_in_order, next_in_order}
use Rattle.book_rules.proofs.Faultless.{Faultless}
use Rattle.book_rules.specs.Chains.{chain_from, entries_of}
use Rattle.chains.specs.Statements.{sum_over}
use Rattle.chains.proofs.Lists.{All, all_map}
use Rattle.chains.proofs.Chain.{chain-induction}
use Rattle.book_rules.proofs.RecordKinds.{kinds-apart, entry-index}
use Rattle.chains.proofs.Links.{Owned, first_entry, entry-links, entries-fall}

-- what may stand where entries of year y follow, with all that stands behind it
pub data Ordered (b : List ℕ) (activation : ℕ) : ℕ → List ℕ → Type 0 where
  nothing : {y : ℕ} → y ≡ activation → Ordered b activation y []
  advance : {y e : ℕ} {es : List ℕ} → keeps_year b e ≡ true → level_of b e ≡ y → Ordered b activation (level_of b e) es → Ordered b activation y (e ∷ es)
  closing : {y e : ℕ} {es : List ℕ} → is_closing b e ≡ true → level_of b e + 1 ≡ y → Ordered b activation (level_of b e) es → Ordered b activation y (e ∷ es)

-- an entry from the activation year to y, and a closing of a year before y
record InYears (b : List ℕ) (activation y e : ℕ) : Type 0 where
  pub since : activation ≤ level_of b e
  pub until : level_of b e ≤ y
  pub before : is_closing b e ≡ true → level_of b e < y

-- one for a closing
unfoldable pub closing_count : List ℕ → ℕ → ℕ
closing_count b e = cond (is_closing b e) 1 0

in-order-end : (b : List ℕ) (activation y : ℕ) → in_order b activation y 0 ≡ true → y ≡ activation
unfolding in_order
in-order-end b activation y h = eqb-true y activation h

in-order-entry : (b : List ℕ) (activation y e : ℕ) → 1 ≤ e → in_order b activation y e ≡ true
    → ((keeps_year b e ≡ true) × (level_of b e ≡ y)) ⊎ ((is_closing b e ≡ true) × (level_of b e + 1 ≡ y))
unfolding in_order
in-order-entry b activation y e lo h =
    let apart : e ≡ 0 → ⊥ = omega arith in
    let a = keeps_year b e && eqb (level_of b e) y in
    let c = is_closing b e && eqb (level_of b e + 1) y in
    let t : (a || c) ≡ true = rw (ne_eqb e 0 apart) at h in
    ⊎_elim (λ (p : a ≡ true). inl (and_left (keeps_year b e) (eqb (level_of b e) y) p, eqb-true (level_of b e) y (and_right (keeps_year b e) (eqb (level_of b e) y) p)))
    (λ (p : c ≡ true). inr (and_left (is_closing b e) (eqb (level_of b e + 1) y) p, eqb-true (level_of b e + 1) y (and_right (is_closing b e) (eqb (level_of b e + 1) y) p)))
    (or_cases a c t)

module _ (b : List ℕ) (f : Faultless b) (i : ℕ) where
  -- "After an entry of year y stands an advance of y, or the closing of y − 1, or 0 if y is the activation year."
  next-in-order : (e : ℕ) → Owned b i e → in_order b (activation_of b i) (level_of b e) (next_of b e) ≡ true
  unfolding next_in_order
  next-in-order e o =
      subst (λ k. in_order b (activation_of b k) (level_of b e) (next_of b e) ≡ true) o.owner (entry-links b f e o.entry).order

  link-ordered : (e : ℕ) (es : List ℕ) → Owned b i e → ((y : ℕ) → in_order b (activation_of b i) y (next_of b e) ≡ true → Ordered b (activation_of b i) y es)
      → (y : ℕ) → in_order b (activation_of b i) y e ≡ true → Ordered b (activation_of b i) y (e ∷ es)
  link-ordered e es o tail y h =
      let behind = tail (level_of b e) (next-in-order e o) in
      ⊎_elim (λ (p : (keeps_year b e ≡ true) × (level_of b e ≡ y)). advance p.0 p.1 behind)
      (λ (p : (is_closing b e ≡ true) × (level_of b e + 1 ≡ y)). closing p.0 p.1 behind)
      (in-order-entry b (activation_of b i) y e (entry-index b e o.entry).0 h)

  -- "A user's first entry is an advance of the open year or the closing of the year before, or 0 if no year is closed."
  pub chain-ordered : is_user b i ≡ true → Ordered b (activation_of b i) (open_year_of b i) (entries_of b i)
  unfolding entries_of first_in_order
  chain-ordered u =
      chain-induction (Owned b i) (next_of b) (entries-fall b f i)
      (λ e es. (y : ℕ) → in_order b (activation_of b i) y e ≡ true → Ordered b (activation_of b i) y es)
      (λ y h. nothing (in-order-end b (activation_of b i) y h)) (λ e o tail. link-ordered e (chain_from (next_of b) (next_of b e)) o tail)
      (first_entry_of b i) (first_entry b f i u) (open_year_of b i) (f.user i u).order

module _ (b : List ℕ) (activation : ℕ) where
  later : (r y : ℕ) (es : List ℕ) → r ≤ y → All (InYears b activation r) es → All (InYears b activation y) es
  later r y es l a =
      all_map (InYears b activation r) (InYears b activation y) es
      (λ e t. record { since = t.since; until = omega arith; before = λ c. let p = t.before c in omega arith }) a

  -- a closing for every closed year
  pub closings-counted : {y : ℕ} {es : List ℕ} → Ordered b activation y es → activation + sum_over (closing_count b) es ≡ y
  unfolding sum_over closing_count
  closings-counted (nothing e) = omega arith
  closings-counted (advance {e = k} a e o) =
      let t = closings-counted o in rw (kinds-apart b advance_kind closing_kind k (λ p. omega arith) a) (omega arith)
  closings-counted (closing {e = k} c e o) = let t = closings-counted o in rw c (omega arith)
