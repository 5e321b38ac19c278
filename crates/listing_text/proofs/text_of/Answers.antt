-- By what the check says of the book: one of three texts.
use Rattle.std.proofs.Common.{◌∙◌, ap, sym, rules}
use Rattle.book_rules.specs.Chains.{users_of}
use Rattle.listing_text.specs.Listing.{user_lines, refused}
use Rattle.listing_text.proofs.Texts.{listed, refused-listed, answered}
use Rattle.listing_text.proofs.text_of.Goals as goal

pub returns-in-Ok : goal.returns-in-Ok
returns-in-Ok c =
    let a = c.args in
    let k = c.in-Ok.ensures in
    let w = c.write_lines in
    answered a.book.now _ a.out.now w.new.out w.result
    (listed a.book.now k.1 ∙ ap (λ b. user_lines b (users_of b)) (sym k.0)) w.ensures

pub returns-in-Err : goal.returns-in-Err
returns-in-Err c =
    let a = c.args in
    let w = c.refusal_of in
    answered a.book.now _ a.out.now w.new.out w.result
    (refused-listed a.book.now c.in-Err.refusal c.in-Err.ensures ∙ ap refused (sym (search rules))) w.ensures
