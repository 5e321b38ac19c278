-- "Closing" of document 01. In ticks: k the credit before, a the advances of the year, c the value C, o the purchase cost
-- O, f the flat-rate part F. `x - y` is document 01's max(0, x − y), so max(0, min(K, O − C)) is `min k (o - c)`.
use Rattle.std.specs.Prelude.{ℕ, ◌+◌, ◌-◌, min, Bool, cond, ℤ, pos, ◌-ℤ◌, ◌==◌}

-- option 0 is credit, 1 liquidation ("Book")
abbrev pub liquidates : ℕ → Bool
liquidates option = option == 1

-- "Credit option: contribution = min(O, C) + max(0, min(K, O − C)) + F, liquidation 0, lapsed 0, credit
-- max(0, K + C − O). Liquidation option: min(O, C) + F, max(0, C − O), lapsed K, credit 0."
unfoldable pub contribution_of : ℕ → ℕ → ℕ → ℕ → ℕ → ℕ
contribution_of option k c o f = cond (liquidates option) (min o c + f) (min o c + min k (o - c) + f)

unfoldable pub liquidation_of : ℕ → ℕ → ℕ → ℕ
liquidation_of option c o = cond (liquidates option) (c - o) 0

unfoldable pub lapsed_of : ℕ → ℕ → ℕ
lapsed_of option k = cond (liquidates option) k 0

unfoldable pub credit_after : ℕ → ℕ → ℕ → ℕ → ℕ
credit_after option k c o = cond (liquidates option) 0 (k + c - o)

-- "Balance = contribution − A."
unfoldable pub balance_of : ℕ → ℕ → ℤ
balance_of contribution a = pos contribution -ℤ pos a
