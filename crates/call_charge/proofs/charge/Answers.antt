-- By the look at the book, the user found, then the rule of a charge.
use Rattle.std.proofs.Common.{rules, refl, ◌∙◌}
use Rattle.book_rules.specs.Find.{find_user}
use Rattle.call_rules.specs.Calls as calls
use Rattle.call_answers.proofs.Answers.{damaged, objected}
use Rattle.call_answers.proofs.Named.{Named, found-named, unknown}
use Rattle.call_answers.proofs.Rooms.{user-stands}
use Rattle.call_charge.proofs.Charging.{charge-order, charge-past-6, rest-room, charge-booked}
use Rattle.call_charge.proofs.charge.Goals as goal
use Rattle.call_charge.proofs.charge.Goals.{After-account-account}

-- the user that the book shows
named : (c : goal.After-account-account) → Named c.args.book.now c.args.number.0 c.in_ok-user.user
named c =
    let look = c.in_ok-_book.ensures in
    found-named c.args.book.now c.args.number.0 look.1.0 _ look.1.1 _ c.in_ok-user.ensures.ok_part

pub returns-in_err-_book : goal.returns-in_err-_book
returns-in_err-_book c =
    let a = c.args in
    let h = damaged a.book.now (calls.charge a.number.0) (find_user a.book.now a.number.0) _ c.in_err-_book.ensures in
    search rules

pub returns-in_err-user : goal.returns-in_err-user
unfolding calls.named_by
returns-in_err-user c =
    let a = c.args in
    let look = c.in_ok-_book.ensures in
    let gone = c.in_err-user.ensures in
    let h = unknown a.book.now (calls.charge a.number.0) refl _ (charge-order a.book.now a.number.0) look.1.0 _ look.1.1 gone.ok_part _ gone.value
    (find_user a.book.now a.number.0) in
    search rules

pub returns-in_err-may_charge : goal.returns-in_err-may_charge
returns-in_err-may_charge c =
    let a = c.args in
    let k = named (goal.at.returns-in_err-may_charge c).After-account-account in
    let by-rule = charge-past-6 a.book.now a.number.0 k c.account-account.ensures in
    let h = objected a.book.now (calls.charge a.number.0) k.sound (find_user a.book.now a.number.0) _ (by-rule ∙ c.in_err-may_charge.ensures) in
    search rules

pub charged-charged-requires : goal.charged-charged-requires
charged-charged-requires c =
    rest-room c.args.book.now c.args.number.0 (named (goal.at.charged-charged-requires c).After-account-account) c.account-account.ensures

pub write_account-requires : goal.write_account-requires
write_account-requires c = user-stands _ _ _ (named (goal.at.write_account-requires c).After-account-account)

pub returns : goal.returns
returns c =
    let k = named (goal.at.returns c).After-account-account in
    charge-booked c.args.book.now c.args.number.0 k c.account-account.ensures c.in_ok-may_charge.ensures
    c.charged-charged.ensures c.write_account.ensures
