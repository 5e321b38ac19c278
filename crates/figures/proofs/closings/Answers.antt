-- Each year's sums are within the ranges of a closing.
use Rattle.figures.proofs.Years.{second-in-range, third-in-range}
use Rattle.figures.proofs.closings.Goals as goal

pub closed-second-requires : goal.closed-second-requires
closed-second-requires c =
    rw (c.year_with-2.ensures, c.closed-first.ensures, c.year_with.ensures, c.opened.ensures) second-in-range

pub closed-third-requires : goal.closed-third-requires
closed-third-requires c =
    let first = c.year_with.ensures in
    let opened = c.opened.ensures in
    rw (
      c.year_with-3.ensures,
      c.elected.ensures,
      c.closed-second.ensures,
      c.year_with-2.ensures,
      c.closed-first.ensures,
      first,
      opened,
    ) third-in-range
