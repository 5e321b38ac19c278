-- Three fields one after the other: none is longer than `longest_field`, so each leaves room for the next.
use Rattle.std.proofs.Common.{◌≡◌, ◌+◌, length, ap, ◌∙◌, rules}
use Rattle.codec.specs.Bytes.{stored}
use Rattle.listing_text.specs.Listing.{blank}
use Rattle.listing_text.specs.InnerWritten.{field}
use Rattle.listing_text.proofs.Fields.{line-written}
use Rattle.listing_text.proofs.line_at.Goals as goal

pub returns : goal.returns
returns c =
    let h = c.field_at in
    let g = c.field_at-third in
    let f = c.field_at-second in
    let a = c.args in
    let number : c.from-number.result ≡ a.account.number.0 = search rules in
    let year : c.from-open_year.result ≡ a.account.open_year = search rules in
    line-written a.at a.account a.out.now f.result g.result h.result f.new.out g.new.out h.new.out c.requires
    (f.ensures.end ∙ ap (λ n. a.at + length (field n blank)) number) (f.ensures.stands ∙ ap (λ n. stored a.at (field n blank) a.out.now) number)
    (g.ensures.end ∙ ap (λ n. f.result + length (field n blank)) year) (g.ensures.stands ∙ ap (λ n. stored f.result (field n blank) f.new.out) year)
    h.ensures.end h.ensures.stands
