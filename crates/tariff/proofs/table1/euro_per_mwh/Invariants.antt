-- The search in the rows from the next one on finds what the search in all rows of the kind finds.
use Rattle.std.proofs.Common.{◌≡◌, map, drop}
use Rattle.tariff.specs.Table1.{first_reaching, table_euro_per_mwh}
use Rattle.tariff.specs.InnerParts.{row_of}
use Rattle.tariff.proofs.table1.euro_per_mwh.Given as goal

abbrev pub invariant-loop-power : goal.invariant-loop-power
invariant-loop-power l =
    first_reaching l.watts (map (row_of l.kind) (drop l.power-index l.power-items)) ≡ table_euro_per_mwh l.kind l.watts
