-- A byte fits, or the row is full.
use mathlib.Core.Path.{◌≡◌}
use lib.ListN.{length}
use Rattle.output.specs.InnerRows.{row_room}
use Rattle.output.proofs.Joins.{full, added}
use Rattle.std.proofs.Common.{rules}
use Rattle.output.proofs.Row.put.Goals as goal

pub returns-then-at-ge-ROOM : goal.returns-then-at-ge-ROOM
returns-then-at-ge-ROOM c =
    let a = c.args in
    let size : length a.self.now.bytes ≡ row_room = search rules in
    full a.self.now.bytes a.self.now.count a.byte size c.if-at-ge-ROOM.true

pub returns : goal.returns
returns c =
    let a = c.args in
    let size : length a.self.now.bytes ≡ row_room = search rules in
    added a.self.now.bytes a.self.now.count a.byte size c.if-at-ge-ROOM.false
