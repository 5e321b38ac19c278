-- The sum and what the tiers to come are worth make the flat-rate part.
use Rattle.std.proofs.Common.{◌≡◌, ◌+◌}
use Rattle.tariff.proofs.FlatRate.{flat_rate, worth}
use Rattle.tariff.proofs.flat_rate_of.Given as goal

abbrev pub invariant-loop-energy : goal.invariant-loop-energy
invariant-loop-energy l =
    l.sum.0 + worth l.energy-iterator.a.rest.now l.energy-iterator.b.rest.now ≡ flat_rate l.fn.energies l.fn.rates
