-- The limits that follow from others, by computation.
use mathlib.Core.Path.{refl}
use Rattle.units.specs.Derived.{DerivedLimits}

pub derived-limits : DerivedLimits
derived-limits =
    record { tier_rate = refl; half = refl; year = refl; flat_rate = refl; contribution = refl; half_ticks = refl; open_year = refl }
