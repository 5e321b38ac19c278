-- The sums of a sound book are small.
use Rattle.account.proofs.Users.{sums-fit}
use Rattle.account.proofs.say_account.Goals as goal

pub say_rest-requires : goal.say_rest-requires
say_rest-requires c =
    let sums = c.statement_of-sums in
    sums-fit c.args.user.book.bytes.now c.args.user.book.length c.args.user.book.no_fault c.args.user.index.0 c.args.user.user_record sums.result sums.ensures
