-- So many blanks were put as turns were taken.
use Prim.Native.Nat.{ℕ}
use mathlib.Core.Path.{◌≡◌, ap, ◌∙◌}
use mathlib.Core.List.{List, [], ◌∷◌}
use native.Mathlib.Omega.{arith}
use lib.ListN.{length, length-take}
use Rattle.output.specs.InnerRows.{row_room, text_of, joined, blanks}
use Rattle.output.proofs.Joins.{nothing-joined, one-blank-more}
use Rattle.std.proofs.Common.{rules}
use Rattle.output.proofs.Row.put_blanks.Goals as goal

pub loop-k-init : goal.loop-k-init
unfolding blanks
loop-k-init c =
    let row = c.args.self.now in
    let size : length row.bytes ≡ row_room = search rules in
    (search rules, nothing-joined (text_of row) (simp length-take (omega arith)))

pub loop-k-preserved : goal.loop-k-preserved
loop-k-preserved c =
    let l = c.loop-k in
    (search rules, c.put.ensures ∙ ap (λ (s : List ℕ). joined s (32 ∷ [])) l.invariant.1 ∙ one-blank-more _ l.k)
