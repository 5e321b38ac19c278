-- A settlement, and an account after a closing, are what document 01 says once their parts are.
use Rattle.std.proofs.Common.{◌≡◌, ◌+◌, ap, ◌∙◌}
use Rattle.units.specs.Units.{ticks}
use Rattle.units.specs.declared.Ticks.{Ticks}
use Rattle.sheet_values.specs.declared.YearValues.{YearValues}
use Rattle.account_steps.specs.declared.Account.{Account}
use Rattle.account_steps.specs.declared.Settlement.{Settlement}
use Rattle.account_steps.specs.Account.{credit_in, settlement_of, account_closed, closed_of}
use Rattle.account_steps.proofs.Outcomes.{outcome-credit}

module _ (v : YearValues) (a : Account) where
  abbrev after : Ticks → Account
  after credit =
      record a {
        open_year = a.open_year + 1;
        runs = a.later_runs;
        later_runs = 0;
        credit = credit;
        advances = a.later_advances;
        later_advances = ticks 0;
        half1 = v.half1;
        half2 = v.half2;
        charge = record { made = 0; rest = a.charge.rest };
      }

  pub closed_of_parts : (settlement : Settlement) (credit : Ticks)
      → settlement ≡ settlement_of a.option a.credit.0 a.advances.0 v.value.0 v.cost.0 v.flat_rate.0
      → credit.0 ≡ credit_in settlement.outcome
      → record { account = after credit; settlement = settlement } ≡ closed_of v a
  unfolding closed_of account_closed settlement_of
  closed_of_parts settlement credit p q =
      let credited = q ∙ ap (λ s. credit_in s.outcome) p ∙ outcome-credit a.option a.credit.0 v.value.0 v.cost.0 in
      λ i. record { account = after (ticks (credited i)); settlement = p i }
