-- A run of the open year and a run of the later one: which runs and advances it looks at, and the account after it.
use Rattle.std.proofs.Common.{◌≡◌, ℕ, ◌+◌, eq-eqb, ne_eqb}
use Rattle.units.specs.Units.{ticks}
use Rattle.account_steps.specs.declared.Account.{Account}
use Rattle.account_steps.specs.Account.{runs_in, advances_in, account_advanced}

-- the account after a run of the open year, and of the later one
abbrev pub joined : ℕ → ℕ → Account → Account
joined run paid a = record a { runs = a.runs + run; advances = ticks (a.advances.0 + paid) }

abbrev pub joined_later : ℕ → ℕ → Account → Account
joined_later run paid a = record a { later_runs = a.later_runs + run; later_advances = ticks (a.later_advances.0 + paid) }

module _ (year : ℕ) (a : Account) where
  module _ (same : year ≡ a.open_year) where
    pub runs-open : runs_in year a ≡ a.runs
    unfolding runs_in
    runs-open = rw (eq-eqb year a.open_year same)

    pub advances-open : advances_in year a ≡ a.advances.0
    unfolding advances_in
    advances-open = rw (eq-eqb year a.open_year same)

    pub advanced-open : (run paid : ℕ) → joined run paid a ≡ account_advanced year run paid a
    unfolding account_advanced
    advanced-open run paid = rw (eq-eqb year a.open_year same)

  module _ (other : year ≡ a.open_year → ⊥) where
    pub runs-later : runs_in year a ≡ a.later_runs
    unfolding runs_in
    runs-later = rw (ne_eqb year a.open_year other)

    pub advances-later : advances_in year a ≡ a.later_advances.0
    unfolding advances_in
    advances-later = rw (ne_eqb year a.open_year other)

    pub advanced-later : (run paid : ℕ) → joined_later run paid a ≡ account_advanced year run paid a
    unfolding account_advanced
    advanced-later run paid = rw (ne_eqb year a.open_year other)
