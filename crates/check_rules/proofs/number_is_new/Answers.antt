-- The test of some smaller index.
use Rattle.std.proofs.Common.{ℕ, Bool, not, ◌&&◌, eqb, refl, ap, ◌∙◌, arith, rules, tests}
use Rattle.std.proofs.lemmas.Iterator.{YieldsList-from_range}
use Rattle.std.proofs.lemmas.Iterator.Search.{any_from_yields_List}
use Rattle.book_rules.specs.Book.{is_user, number_of, number_is_new}
use Rattle.check_rules.proofs.AnyBelow.{list_any_range}
use Rattle.check_rules.proofs.number_is_new.Goals as goal

pub returns : goal.returns
unfolding number_is_new
returns c =
    let b = c.args.book.now in
    let i = c.args.index.0 in
    let holder : ℕ → Bool = λ j. is_user b j && eqb (number_of b j) (number_of b i) in
    let found = any_from_yields_List holder _ _ c.any.result c.any.ensures.ran (YieldsList-from_range 0 i i refl (omega arith)) (λ x r q k. search (rules, tests)) in
    ap not (found ∙ list_any_range holder i)
