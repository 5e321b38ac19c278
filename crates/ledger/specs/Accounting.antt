-- What a user's statement comes to: the user's third demand, (a) to (d), sentence by sentence.
use Rattle.std.specs.Prelude.{ℕ, ◌+◌, ◌≤◌, ◌≡◌, Bool, false, cond, ◌||◌, List, [], ◌∷◌, ◌⊎◌, length, take, ℤ, pos, ◌+ℤ◌, ◌-ℤ◌}
use Rattle.account_steps.specs.Closing.{liquidates}
use Rattle.ledger.specs.Ledger.{Item, Ledger, Statement, year_after, sum_items, statement_of}

-- (b) "advances of closed years plus balances, less flat-rate parts, plus liquidations, plus lapsed credit, plus standing
-- credit equals the value of all injected energy in the sheets accepted for the closed years"
unfoldable pub conserved : Statement → ℤ
conserved t =
    ((((pos t.closed_advances +ℤ t.balance) -ℤ pos t.flat_rate) +ℤ pos t.liquidation) +ℤ pos t.lapsed) +ℤ pos t.credit

-- (c) "the largest total of value less purchase cost over an unbroken run of years ending with the last closed one and
-- holding no liquidation year, or zero if no such total is above it". Items stand newest first, a year each, so that a run
-- of n years is the first n items.
unfoldable pub holds_liquidation : List Item → Bool
holds_liquidation [] = false
holds_liquidation (i ∷ is) = liquidates i.option || holds_liquidation is

pub record Run (n : ℕ) (items : List Item) : Type 0 where
  pub some : 1 ≤ n
  pub within : n ≤ length items
  pub on_credit : holds_liquidation (take n items) ≡ false

abbrev pub value_over : ℕ → List Item → ℕ
value_over n items = sum_items (λ i. i.value) (take n items)

abbrev pub cost_over : ℕ → List Item → ℕ
cost_over n items = sum_items (λ i. i.cost) (take n items)

-- k is that figure: no run's total is above it, and a run reaches it unless it is zero
pub record Standing (items : List Item) (k : ℕ) : Type 0 where
  pub largest : (n : ℕ) → Run n items → value_over n items ≤ k + cost_over n items
  pub reached : (k ≡ 0) ⊎ ((n : ℕ) × Run n items × (value_over n items ≡ k + cost_over n items))

-- (d) "the sum, over the liquidation years, of that same figure one year earlier": `figure` gives the figure of the years
-- up to one
unfoldable pub lapsed_over : (List Item → ℕ) → List Item → ℕ
lapsed_over figure [] = 0
lapsed_over figure (i ∷ is) = cond (liquidates i.option) (figure is) 0 + lapsed_over figure is

-- items stand a year each, from the activation year on: each is of the year after the older ones
unfoldable pub Consecutive : ℕ → List Item → Type 0
Consecutive activation [] = Unit {0}
Consecutive activation (i ∷ is) = (i.year ≡ year_after activation is) × Consecutive activation is

-- WHAT IS CLAIMED of a statement: that of a user with the ledger l, whose closed years' sheets have the value `injected` in all
pub record Accounts (l : Ledger) (injected : ℕ) (t : Statement) : Type 0 where
  -- (a) "answers exactly what the ledger of document 01 gives from the accepted calls"
  pub statement : t ≡ statement_of l
  -- (b)
  pub conserved_sum : conserved t ≡ pos injected
  -- (c)
  pub standing_credit : Standing l.items t.credit
  pub years : Consecutive l.details.year l.items
  -- (d), with that same figure for every run of years up to one
  pub figure : List Item → ℕ
  pub figures : (is : List Item) → Standing is (figure is)
  pub lapsed_credit : t.lapsed ≡ lapsed_over figure l.items
