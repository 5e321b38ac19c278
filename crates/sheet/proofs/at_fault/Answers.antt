-- Either fault.
use Rattle.sheet.specs.YearSheet.{above_limit, stray_band, at_fault}
use Rattle.sheet.proofs.at_fault.Goals as goal

pub returns : goal.returns
unfolding at_fault above_limit stray_band
returns c = cc
