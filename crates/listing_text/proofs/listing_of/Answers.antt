-- Where there is room for the longest text, the book's own fits.
use native.Mathlib.Omega.{arith}
use Rattle.listing_text.proofs.Texts.{all-written}
use Rattle.listing_text.proofs.listing_of.Goals as goal

pub returns : goal.returns
returns c =
    let a = c.args in
    let t = c.text_of in
    all-written a.book.now a.out.now t.new.out t.result (omega arith) t.ensures.end t.ensures.stands
