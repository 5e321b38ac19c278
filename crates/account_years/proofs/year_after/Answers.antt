-- The activation year is the account's.
use Rattle.std.proofs.Common.{◌+◌, ap}
use Rattle.book_records.specs.Records.{account_in}
use Rattle.book_rules.specs.Book.{activation_of}
use Rattle.account_years.proofs.Years.{year_room}
use Rattle.account_years.proofs.year_after.Goals as goal

pub overflow_add-result : goal.overflow_add-result
overflow_add-result c =
    let u = c.args.user in
    record { fits = year_room u.book.bytes.now u.index.0 c.args.n c.account.result c.account.ensures u.book.length u.book.no_fault u.user_record c.requires }

pub returns : goal.returns
unfolding activation_of account_in
returns c = ap (λ a. a.details.year + c.args.n) c.account.ensures
