-- What a user of a sound book has: at most 87 closed years, and sums whose conserved sum fits.
use Rattle.std.proofs.Common.{◌≡◌, ℕ, ◌-◌, ◌≤◌, true, List, sym, subst, arith}
use Rattle.account_steps.specs.declared.Account.{Account}
use Rattle.book_rules.specs.Book.{length_fits, sound, is_user, account_at}
use Rattle.book_rules.proofs.Faultless.{Faultless, sound-faultless}
use Rattle.chains.specs.Statements.{statement_at}
use Rattle.chains.proofs.Ranges.{YearsFit, user-years}
use Rattle.chains.proofs.Fit.{sums-small}
use Rattle.statements.specs.declared.Sums.{Sums}
use Rattle.statements.specs.InnerWalk.{sums_of}
use Rattle.units.specs.Limits.{most_years, last_open_year}
use Rattle.account_conserved.specs.Conservation.{Small}
use Rattle.account_conserved.proofs.Sizes.{small-sums}

module _ (b : List ℕ) (long : length_fits b ≡ true) (good : sound b ≡ true) (i : ℕ) (user : is_user b i ≡ true) where
  faultless : Faultless b
  faultless = sound-faultless b long good

  module _ (a : Account) (read : a ≡ account_at b i) where
    years : YearsFit a
    years = rw read (user-years b faultless i user)

    pub years_closed : (a.details.year ≤ a.open_year) × (a.open_year - a.details.year ≤ most_years)
    years_closed = (years.ordered, omega (arith, years.activation, years.latest))

    pub year_fits : a.open_year ≤ last_open_year
    year_fits = years.latest

  pub sums-fit : (s : Sums) → s ≡ sums_of (statement_at b i) → Small s
  sums-fit s e = subst Small (sym e) (small-sums (statement_at b i) (sums-small b faultless long i user))
