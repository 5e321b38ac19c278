-- The ten figures, by computing the definitions.
use mathlib.Core.Path.{refl}
use Rattle.units.specs.Folds.{sum_below}
use Rattle.tariff.specs.Table1.{table1, rows_of_kind, reaches, first_reaching, table_euro_per_mwh}
use Rattle.tariff.specs.Tariff.{domestic, between, above, tiers, annual_tiers, flat_rate_of, mean_rate, limit, tier_rate}
use Rattle.calendar.specs.ElectionAndAdvances.{paid_of}
use Rattle.account_steps.specs.Closing.{contribution_of, liquidation_of, lapsed_of, credit_after}
use Rattle.figures.specs.Figures.{Figures}

pub figures : Figures
unfolding sum_below table1 rows_of_kind reaches first_reaching table_euro_per_mwh domestic between above tiers annual_tiers flat_rate_of mean_rate limit tier_rate paid_of contribution_of
    liquidation_of lapsed_of credit_after
figures =
    record {
      figure1 = refl;
      figure2 = refl;
      figure3 = refl;
      figure4 = refl;
      figure5 = refl;
      figure6 = refl;
      figure7 = refl;
      figure8 = refl;
      figure9 = refl;
      figure10 = refl;
    }
