-- A month's energy is one of those that are within the limit.
use Rattle.sheet_values.proofs.MonthlyKwh.at.Goals as goal

pub returns-clause-most : goal.returns-clause-most
returns-clause-most c = rw c.from.ensures (c.args.self.within c.args.month.index c.args.month.of_year)
