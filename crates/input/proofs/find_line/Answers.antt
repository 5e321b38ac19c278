-- A line that stands in what is held.
use Rattle.std.proofs.Common.{refl, arith, length-drop, length-take-le, ◌-◌, drop}
use Rattle.input.proofs.LentFound.{line_stands, found_held}
use Rattle.input.proofs.find_line.Goals as goal

pub returns-in-Some : goal.returns-in-Some
returns-in-Some g c =
    let held = c.args.held.now in
    let bytes = c.args.bytes.now in
    let f = c.in-Some.ensures in
    let long = length-drop held.next bytes in
    let whole = length-take-le (held.filled - held.next) (drop held.next bytes) (omega (arith, c.requires.filled)) in
    found_held _ _ _ _ _ _ (record { next = omega (arith, f.within, c.requires.next); filled = c.requires.filled })
    (line_stands _ _ _ c.in-Some.at _ _ refl c.requires.filled f refl refl)
