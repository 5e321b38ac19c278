-- A refused book prints its number.
use Rattle.std.proofs.Common.{◌∙◌}
use Rattle.std.proofs.lemmas.Result.{IfOk-weaker}
use Rattle.listing_text.proofs.Lines.{refusal_printed}
use Rattle.listing_text.proofs.listing.Goals as goal

pub returns-in-Err : goal.returns-in-Err
returns-in-Err c =
    IfOk-weaker c.format.result _ _
    (λ text e. e ∙ (rw c.number-number.ensures (refusal_printed c.args.book.now c.in-Err.refusal c.in-Err.ensures)))
    c.format.ensures.ok
