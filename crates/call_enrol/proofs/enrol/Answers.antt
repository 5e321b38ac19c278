-- By the look at the book, then the rules of an enrolment.
use Rattle.std.proofs.Common.{rules, ◌∙◌}
use Rattle.call_rules.specs.Calls as calls
use Rattle.book_rules.specs.Book.{used}
use Rattle.call_answers.proofs.Answers.{damaged, objected}
use Rattle.call_enrol.proofs.Enrolling.{enrol-order, enrol-room, enrol-booked}
use Rattle.call_enrol.proofs.enrol.Goals as goal

pub returns-in_err-_book : goal.returns-in_err-_book
returns-in_err-_book c =
    let a = c.args in
    let h = damaged a.book.now (calls.enrol a.number.0 a.details a.option) (used a.book.now) _ c.in_err-_book.ensures in
    search rules

pub returns-in_err-may_enrol : goal.returns-in_err-may_enrol
returns-in_err-may_enrol c =
    let a = c.args in
    let look = c.in_ok-_book.ensures in
    let order = enrol-order a.book.now a.number.0 a.details a.option look.1.0 _ look.1.1 c.is_some-taken.ensures c.has_room-room.ensures in
    let h = objected a.book.now (calls.enrol a.number.0 a.details a.option) look.1.0 (used a.book.now) _ (order ∙ c.in_err-may_enrol.ensures) in
    search rules

pub write_user-requires : goal.write_user-requires
write_user-requires c =
    let a = c.args in
    let look = c.in_ok-_book.ensures in
    let all = enrol-room a.book.now a.number.0 a.details a.option look.1.0 _ look.1.1 c.is_some-taken.ensures c.has_room-room.ensures c.in_ok-may_enrol.ensures in
    record { new_record_in_book = all.0; records_bound = all.1 }

pub returns : goal.returns
returns c =
    let a = c.args in
    let look = c.in_ok-_book.ensures in
    enrol-booked a.book.now a.number.0 a.details a.option look.1.0 _ look.1.1 c.is_some-taken.ensures c.has_room-room.ensures c.in_ok-may_enrol.ensures
    c.used.ensures c.new_account.ensures c.write_user.ensures
