-- By the look at the book, the user found, then the rules of an advance.
use Rattle.std.proofs.Common.{rules, refl, ◌∙◌}
use Rattle.call_rules.specs.Calls as calls
use Rattle.call_answers.proofs.Answers.{damaged, objected}
use Rattle.call_answers.proofs.Named.{Named, found-named, unknown}
use Rattle.call_advance.proofs.Advancing.{advance-order, advance-past-6, halves-fit, order-fits, run_fits, paid-is, advance-booked}
use Rattle.call_advance.proofs.advance.Goals as goal
use Rattle.call_advance.proofs.advance.Goals.{After-account-account}

-- the user that the book shows
named : (c : goal.After-account-account) → Named c.args.book.now c.args.number.0 c.in_ok-user.user
named c =
    let look = c.in_ok-_book.ensures in
    found-named c.args.book.now c.args.number.0 look.1.0 _ look.1.1 _ c.in_ok-user.ensures.ok_part

pub returns-in_err-_book-clause-reply : goal.returns-in_err-_book-clause-reply
returns-in_err-_book-clause-reply c =
    let a = c.args in
    let h = damaged a.book.now (calls.advance a.number.0 a.year a.run a.price.0 a.estimate1.0 a.estimate2.0) 0 _ c.in_err-_book.ensures in
    search rules

pub returns-in_err-user-clause-reply : goal.returns-in_err-user-clause-reply
unfolding calls.named_by
returns-in_err-user-clause-reply c =
    let a = c.args in
    let look = c.in_ok-_book.ensures in
    let gone = c.in_err-user.ensures in
    let order = advance-order a.book.now a.number.0 a.year a.run a.price.0 a.estimate1.0 a.estimate2.0 in
    let h = unknown a.book.now (calls.advance a.number.0 a.year a.run a.price.0 a.estimate1.0 a.estimate2.0) refl _ order look.1.0 _ look.1.1
    gone.ok_part _ gone.value 0 in
    search rules

pub returns-in_err-may_advance-clause-reply : goal.returns-in_err-may_advance-clause-reply
returns-in_err-may_advance-clause-reply c =
    let a = c.args in
    let k = named (goal.at.returns-in_err-may_advance-clause-reply c).After-account-account in
    let by-rule = advance-past-6 a.book.now a.number.0 a.year a.run a.price.0 a.estimate1.0 a.estimate2.0 k c.account-account.ensures c.has_room-room.ensures in
    let h = objected a.book.now (calls.advance a.number.0 a.year a.run a.price.0 a.estimate1.0 a.estimate2.0) k.sound 0 _ (by-rule ∙ c.in_err-may_advance.ensures) in
    search rules

pub run_amount-paid-requires : goal.run_amount-paid-requires
run_amount-paid-requires c =
    let a = c.args in
    let k = named (goal.at.run_amount-paid-requires c).After-account-account in
    let read = c.account-account.ensures in
    let left = c.has_room-room.ensures in
    let none = c.in_ok-may_advance.ensures in
    record {
      year_bound = halves-fit a.book.now a.number.0 a.year a.run a.price.0 a.estimate1.0 a.estimate2.0 k read left none;
      order = order-fits a.book.now a.number.0 a.year a.run a.price.0 a.estimate1.0 a.estimate2.0 k read left none;
    }

pub book_run-requires : goal.book_run-requires
book_run-requires c =
    let a = c.args in
    let k = named (goal.at.book_run-requires c).After-account-account in
    run_fits a.book.now a.number.0 a.year a.run a.price.0 a.estimate1.0 a.estimate2.0 k c.account-account.ensures c.has_room-room.ensures
    c.in_ok-may_advance.ensures c.run_amount-paid.ensures

pub returns : goal.returns
returns c =
    let a = c.args in
    let k = named (goal.at.returns c).After-account-account in
    let read = c.account-account.ensures in
    let left = c.has_room-room.ensures in
    let none = c.in_ok-may_advance.ensures in
    let paid = c.run_amount-paid.ensures in
    record {
      reply = advance-booked a.book.now a.number.0 a.year a.run a.price.0 a.estimate1.0 a.estimate2.0 k read left none paid c.book_run.ensures;
      ticks = paid-is a.book.now a.number.0 a.year a.run a.price.0 a.estimate1.0 a.estimate2.0 k read left none paid;
    }
