-- The open year is 2100 at the latest.
use Rattle.std.proofs.Common.{arith}
use Rattle.account.proofs.Users.{year_fits}
use Rattle.account.proofs.say_open_payments.Goals as goal

pub overflow_add-later : goal.overflow_add-later
overflow_add-later c =
    let u = c.args.user in
    omega (arith, year_fits u.book.bytes.now u.book.length u.book.no_fault u.index.0 u.user_record c.account-open.result c.account-open.ensures)
