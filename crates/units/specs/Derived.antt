-- Which limits follow from which: each is the most that the sentences before it allow.
use Rattle.std.specs.Prelude.{◌+◌, ◌*◌, suc, ◌≡◌}
use Rattle.units.specs.Limits.{max_kwh, max_price, max_tier_rate, max_year_ticks, max_flat_rate, max_contribution, max_half_ticks}
use Rattle.units.specs.Limits.{max_half_kwh}
use Rattle.units.specs.Limits.{last_activation, last_open_year}

pub record DerivedLimits : Type 0 where
  -- a net rate and a system rate
  pub tier_rate : max_tier_rate ≡ max_price + max_price
  -- six months of three bands
  pub half : max_half_kwh ≡ 6 * 3 * max_kwh
  -- twelve months of three bands, at the highest price and at the highest tier rate
  pub year : max_year_ticks ≡ 12 * 3 * max_kwh * max_price
  pub flat_rate : max_flat_rate ≡ 12 * 3 * max_kwh * max_tier_rate
  -- "min(O, C) + max(0, min(K, O − C)) + F" is at most O and F
  pub contribution : max_contribution ≡ max_year_ticks + max_flat_rate
  -- an advance: a half at the highest rate
  pub half_ticks : max_half_ticks ≡ max_half_kwh * max_price
  -- the year after the last one that can be closed
  pub open_year : last_open_year ≡ suc last_activation
