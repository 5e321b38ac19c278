-- Both ends of the part are cut at the end of the book.
use Prim.Native.Nat.{ℕ, ◌-◌}
use mathlib.Core.Path.{ap, ap₂, ◌∙◌}
use mathlib.Core.List.{List}
use lib.ListN.{take, drop}
use Rattle.units.specs.Limits.{record_length}
use Rattle.codec.specs.Bytes.{part}
use Rattle.book_layout.specs.Fields.{record_at}
use Rattle.book_layout.proofs.Places.{part-clipped}
use Rattle.book_layout.proofs.record.Goals as goal

pub returns : goal.returns
unfolding record_at
returns c =
    let b : List ℕ = c.args.book.now in
    ap₂ (λ (to from : ℕ). take (to - from) (drop from b)) c.min-to.ensures c.min-from.ensures
    ∙ part-clipped record_length c.start_of-start.result b
    ∙ ap (λ (at : ℕ). part record_length at b) c.start_of-start.ensures
