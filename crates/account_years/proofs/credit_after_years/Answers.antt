-- Year after year.
use Rattle.std.proofs.Common.{rules}
use Rattle.account_years.proofs.Years.{credit_begins, credit_on}
use Rattle.account_years.proofs.credit_after_years.Goals as goal

pub loop-n-init : goal.loop-n-init
loop-n-init c = (search rules, credit_begins c.args.user.book.bytes.now c.args.user.index.0)

pub loop-n-preserved : goal.loop-n-preserved
loop-n-preserved c =
    let u = c.args.user in
    let l = c.loop-n in (
      search rules,
      credit_on u.book.bytes.now u.index.0 l.n l.credit.0 l.invariant.1 c.closing_after.result c.closing_after.ensures.is c.next_credit-credit.result.0
          c.next_credit-credit.ensures,
    )
