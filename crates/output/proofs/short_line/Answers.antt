-- What the line holds after the writes is all that they wrote: nothing was cut.
use Rattle.std.proofs.lemmas.Option.{IfSome_then}
use Rattle.std.specs.Fmt.{with_newline}
use Rattle.output.proofs.Short.{all_written}
use Rattle.output.proofs.short_line.Goals as goal

pub returns-in-Ok : goal.returns-in-Ok
returns-in-Ok g c =
    let new = c.new-line in
    IfSome_then (with_newline (g.D.Display.output c.args.text)) c.in-Ok.ensures.writes
    (λ bytes wrote. all_written new.result bytes c.writeln.new.self new.ensures.intact new.ensures.text wrote)
