-- The share that a half has in a run's amount.
use Rattle.std.specs.Prelude.{ℕ, ◌*◌, ◌≤◌, ◌≡◌, Bool, cond}
use Rattle.units.specs.Limits.{max_half_ticks}

-- the product of a half that is paid, which is small
pub record ShareOf (paid : Bool) (energy price r : ℕ) : Type 0 where
  pub amount : r ≡ cond paid (energy * price) 0
  pub small : r ≤ max_half_ticks
  pub most : r ≤ max_half_ticks * cond paid 1 0
