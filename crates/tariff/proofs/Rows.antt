-- "All 52 rows are kept": counted in `table1`.
use mathlib.Core.Path.{◌≡◌, refl}
use lib.ListN.{length}
use Rattle.tariff.specs.Table1.{table1}

pub all-rows : length table1 ≡ 52
unfolding table1
all-rows = refl
