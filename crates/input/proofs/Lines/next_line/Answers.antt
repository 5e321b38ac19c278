-- Where there is no memory, the lines stay as they were.
use Rattle.std.proofs.Common.{rules, ◌≡◌, Err, length, drop, slice_range, ap, ◌∙◌, take_at}
use Rattle.input.proofs.LinesFound.{finds_again, finds_failed, finds_no_room}
use Rattle.input.proofs.Lines.next_line.Goals as goal

pub returns-in_err-make_room : goal.returns-in_err-make_room
returns-in_err-make_room g c =
    let is : c.from_residual.result ≡ Err c.in_err-make_room.field-0.0 = search rules in
    let step = c.make_room.ensures in
    (finds_no_room _ _ _ _ _ _ _ is step.held step.left c.in_err-make_room.ensures.failed (search rules), step.room)

pub returns-in_err-from : goal.returns-in_err-from
returns-in_err-from g c =
    let is : c.from_residual-in_err-from.result ≡ Err c.in_err-from.field-0.0 = search rules in
    let now = c.find_line.new.bytes in
    let size : length c.find_line.new.bytes ≡ c.make_room.new.self.bytes.len = search rules in
    let whole = take_at now (drop (length now) c.make_room.new.self.bytes.items) c.make_room.new.self.bytes.len size in
    let again = ap (λ l. slice_range l c.find_line.new.held.next c.find_line.new.held.filled) whole in (
      finds_failed _ _ _ _ _ _ _ _ _ _ _ _ _ (search rules) (search rules) (search rules) c.find_line.ensures (search rules) is again,
      search rules,
    )

pub returns-in_err-hand_out-in-Some-Whole : goal.returns-in_err-hand_out-in-Some-Whole
returns-in_err-hand_out-in-Some-Whole g c =
    let is : c.from_residual-in_err-hand_out-in-Some-Whole.result ≡ Err c.in_err-hand_out-in-Some-Whole.field-0.0 = search rules in
    let step = c.in_err-hand_out-in-Some-Whole.ensures in
    let now = c.find_line.new.bytes in
    let size : length c.find_line.new.bytes ≡ c.make_room.new.self.bytes.len = search rules in
    let whole = take_at now (drop (length now) c.make_room.new.self.bytes.items) c.make_room.new.self.bytes.len size in
    let again = step.again ∙ ap (λ l. slice_range l c.in-Some-Whole.from c.find_line.new.held.filled) whole in (
      finds_again _ _ _ _ _ _ _ _ _ c.in-Some-Whole.from c.in-Some-Whole.to _ _ _ _ (search rules) (search rules) (search rules) c.find_line.ensures
          c.hand_out.ensures.left is again step.failed (search rules),
      search rules,
    )
