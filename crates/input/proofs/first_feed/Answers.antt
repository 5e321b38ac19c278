-- A line feed behind what was searched is the first one, since none is among what was searched.
use Rattle.std.proofs.Common.{ℕ, ◌-◌, ◌≡◌, List, length, take, drop, take_all, length-drop, arith}
use Rattle.input.proofs.FeedLemmas.{unfed_behind, feed_behind}
use Rattle.input.proofs.first_feed.Goals as goal

-- the search is of all that stands behind a place
all_behind : (bytes : List ℕ) (n : ℕ) → take (length bytes - n) (drop n bytes) ≡ drop n bytes
all_behind bytes n = let long = length-drop n bytes in take_all (length bytes - n) (drop n bytes) (omega arith)

pub returns-in_err-at : goal.returns-in_err-at
returns-in_err-at c =
    let bytes = c.args.bytes.now in
    rw c.from_residual.ensures
    (unfed_behind bytes c.args.searched c.requires.within c.requires.none (rw (all_behind bytes c.args.searched) at c.in_err-at.ensures))

pub returns : goal.returns
returns c =
    let bytes = c.args.bytes.now in
    feed_behind bytes c.args.searched c.requires.within c.requires.none c.in_ok-at.at (rw (all_behind bytes c.args.searched) at c.in_ok-at.ensures)
