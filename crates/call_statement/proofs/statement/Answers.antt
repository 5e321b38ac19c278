-- By the look at the book, then by the user found.
use Rattle.std.proofs.Common.{rules, refl}
use Rattle.call_rules.specs.Calls as calls
use Rattle.call_answers.proofs.Answers.{damaged}
use Rattle.call_answers.proofs.Named.{found-named, unknown}
use Rattle.call_statement.proofs.Stating.{statement-order, stated, sums-stated}
use Rattle.call_statement.proofs.statement.Goals as goal

pub returns-in_err-_book-clause-reply : goal.returns-in_err-_book-clause-reply
returns-in_err-_book-clause-reply c =
    let h = damaged c.args.book.now (calls.statement c.args.number.0) 0 _ c.in_err-_book.ensures in
    search rules

pub returns-in_err-user-clause-reply : goal.returns-in_err-user-clause-reply
unfolding calls.named_by
returns-in_err-user-clause-reply c =
    let a = c.args in
    let look = c.in_ok-_book.ensures in
    let gone = c.in_err-user.ensures in
    let h = unknown a.book.now (calls.statement a.number.0) refl _ (statement-order a.book.now a.number.0) look.1.0 _ look.1.1 gone.ok_part _ gone.value 0 in
    search rules

pub returns : goal.returns
returns c =
    let a = c.args in
    let look = c.in_ok-_book.ensures in
    let k = found-named a.book.now a.number.0 look.1.0 _ look.1.1 _ c.in_ok-user.ensures.ok_part in
    record { reply = stated a.book.now a.number.0 k; sums = sums-stated a.book.now a.number.0 k c.statement_of.ensures }
