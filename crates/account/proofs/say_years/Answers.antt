-- The years from the activation to the open year are at most 87.
use Rattle.std.proofs.Common.{rules}
use Rattle.account.proofs.Users.{years_closed}
use Rattle.account.proofs.say_years.Goals as goal

pub overflow_sub-n-end : goal.overflow_sub-n-end
overflow_sub-n-end c =
    let u = c.args.user in
    (years_closed u.book.bytes.now u.book.length u.book.no_fault u.index.0 u.user_record c.account-account.result c.account-account.ensures).0

pub loop-n-init : goal.loop-n-init
loop-n-init c =
    let u = c.args.user in
    let closed = years_closed u.book.bytes.now u.book.length u.book.no_fault u.index.0 u.user_record c.account-account.result c.account-account.ensures in
    (search rules, closed.1)
