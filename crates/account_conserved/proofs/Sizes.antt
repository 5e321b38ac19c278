-- The sums of a statement that is small, and their conserved sum.
use mathlib.Core.Path.{◌≡◌, refl}
use Rattle.ledger.specs.Ledger.{Statement}
use Rattle.ledger.specs.Accounting.{conserved}
use Rattle.chains.proofs.Fit.{SumsSmall}
use Rattle.statements.specs.InnerWalk.{sums_of}
use Rattle.account_conserved.specs.Conservation.{conserved_in, Small}

pub small-sums : (t : Statement) → SumsSmall t → Small (sums_of t)
unfolding sums_of
small-sums t h =
    record {
      credit = h.credit;
      value = h.value;
      flat_rate = h.flat_rate;
      liquidation = h.liquidation;
      lapsed = h.lapsed;
      balance = h.balance;
      closed_advances = h.closed_advances;
    }

pub conserved-is : (t : Statement) → SumsSmall t → conserved_in (sums_of t) ≡ conserved t
unfolding conserved_in sums_of conserved
conserved-is t h = refl
