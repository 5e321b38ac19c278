-- Eight stores, then the number with a line feed.
use Rattle.listing_text.proofs.Texts.{refusal-written}
use Rattle.listing_text.proofs.refusal_of.Goals as goal

pub returns : goal.returns
returns c =
    let f = c.field_at in
    refusal-written c.args.n f.result c.args.out.now f.new.out c.requires f.ensures.end f.ensures.stands
