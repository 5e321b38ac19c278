-- What a function works out, and the most that it comes to.
use Rattle.std.specs.Prelude.{ℕ, ◌≤◌, ◌≡◌}
use Rattle.units.specs.declared.Kwh.{Kwh}
use Rattle.units.specs.declared.Rate.{Rate}
use Rattle.units.specs.declared.Ticks.{Ticks}
use Rattle.units.specs.Units.{kwh, rate, ticks}

pub record NumberWithin (n limit r : ℕ) : Type 0 where
  pub is : r ≡ n
  pub most : r ≤ limit

pub record KwhWithin (n limit : ℕ) (r : Kwh) : Type 0 where
  pub is : r ≡ kwh n
  pub most : r.0 ≤ limit

pub record RateWithin (n limit : ℕ) (r : Rate) : Type 0 where
  pub is : r ≡ rate n
  pub most : r.0 ≤ limit

pub record TicksWithin (n limit : ℕ) (r : Ticks) : Type 0 where
  pub is : r ≡ ticks n
  pub most : r.0 ≤ limit
