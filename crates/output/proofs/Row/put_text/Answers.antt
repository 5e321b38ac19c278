-- What was put is the text's beginning.
use Prim.Native.Nat.{ℕ}
use mathlib.Core.Path.{◌≡◌, ap, ◌∙◌}
use mathlib.Core.List.{List, [], ◌∷◌}
use native.Mathlib.Omega.{arith}
use lib.ListN.{length, get_or, length-take}
use Rattle.output.specs.InnerRows.{row_room, text_of, joined}
use Rattle.output.proofs.Joins.{nothing-joined, one_more}
use Rattle.std.proofs.Common.{rules}
use Rattle.output.proofs.Row.put_text.Goals as goal

pub loop-k-init : goal.loop-k-init
loop-k-init c =
    let row = c.args.self.now in
    let size : length row.bytes ≡ row_room = search rules in
    (search rules, nothing-joined (text_of row) (simp length-take (omega arith)))

pub loop-k-preserved : goal.loop-k-preserved
loop-k-preserved c =
    let l = c.loop-k in
    let text = c.args.text.now in (
      search rules,
      c.put.ensures ∙ ap (λ (s : List ℕ). joined s (get_or text l.k 0 ∷ [])) l.invariant.1 ∙ one_more _ text
          l.k (omega arith),
    )
