-- By the look at the book, the user found, then the rules of an election.
use Rattle.std.proofs.Common.{rules, refl, ◌∙◌}
use Rattle.call_rules.specs.Calls as calls
use Rattle.call_answers.proofs.Answers.{damaged, objected}
use Rattle.call_answers.proofs.Named.{Named, found-named, unknown}
use Rattle.call_answers.proofs.Rooms.{user-stands}
use Rattle.call_elect.proofs.Electing.{elect-order, elect-past-6, elect-booked}
use Rattle.call_elect.proofs.elect.Goals as goal
use Rattle.call_elect.proofs.elect.Goals.{After-account-account}

-- the user that the book shows
named : (c : goal.After-account-account) → Named c.args.book.now c.args.number.0 c.in_ok-user.user
named c =
    let look = c.in_ok-_book.ensures in
    found-named c.args.book.now c.args.number.0 look.1.0 _ look.1.1 _ c.in_ok-user.ensures.ok_part

pub returns-in_err-_book : goal.returns-in_err-_book
returns-in_err-_book c =
    let a = c.args in
    let h = damaged a.book.now (calls.elect a.number.0 a.option a.year a.month a.day) 0 _ c.in_err-_book.ensures in
    search rules

pub returns-in_err-user : goal.returns-in_err-user
unfolding calls.named_by
returns-in_err-user c =
    let a = c.args in
    let look = c.in_ok-_book.ensures in
    let order = elect-order a.book.now a.number.0 a.option a.year a.month a.day in
    let gone = c.in_err-user.ensures in
    let h = unknown a.book.now (calls.elect a.number.0 a.option a.year a.month a.day) refl _ order look.1.0 _ look.1.1 gone.ok_part _ gone.value 0 in
    search rules

pub returns-in_err-may_elect : goal.returns-in_err-may_elect
returns-in_err-may_elect c =
    let a = c.args in
    let k = named (goal.at.returns-in_err-may_elect c).After-account-account in
    let by-rule = elect-past-6 a.book.now a.number.0 a.option a.year a.month a.day k c.account-account.ensures in
    let h = objected a.book.now (calls.elect a.number.0 a.option a.year a.month a.day) k.sound 0 _ (by-rule ∙ c.in_err-may_elect.ensures) in
    search rules

pub write_account-requires : goal.write_account-requires
write_account-requires c = user-stands _ _ _ (named (goal.at.write_account-requires c).After-account-account)

pub returns : goal.returns
returns c =
    let a = c.args in
    let k = named (goal.at.returns c).After-account-account in
    elect-booked a.book.now a.number.0 a.option a.year a.month a.day k c.account-account.ensures c.in_ok-may_elect.ensures
    c.elected.ensures c.write_account.ensures
