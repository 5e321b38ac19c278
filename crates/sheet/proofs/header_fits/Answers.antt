-- `header_fits` is held to `header_fits`: the rule, test by test.
use Rattle.sheet.specs.YearSheet.{header_fits}
use Rattle.sheet.proofs.header_fits.Goals as goal

pub returns : goal.returns
unfolding header_fits
returns c = cc
