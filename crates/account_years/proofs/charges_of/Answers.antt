-- What was withheld and what rests, and what they tell of the years.
use Rattle.account_years.proofs.Charged.{in_order, open-most, made-room, charges-are}
use Rattle.account_years.proofs.charges_of.Goals as goal

pub add-made-requires : goal.add-made-requires
add-made-requires c =
    let u = c.args.user in
    (made-room u.book.bytes.now u.index.0 u.book.length u.book.no_fault u.user_record c.account-account.result c.account-account.ensures
    c.payments_of.result c.payments_of.ensures).fits

pub overflow_sub-account : goal.overflow_sub-account
overflow_sub-account c =
    let u = c.args.user in
    in_order u.book.bytes.now u.index.0 u.book.length u.book.no_fault u.user_record c.account-account.result c.account-account.ensures

pub charge_of_each-each-requires : goal.charge_of_each-each-requires
charge_of_each-each-requires c =
    let yearly = c.charge_of-yearly in
    (rw c.charge_of_open-open.ensures (open-most _ yearly.result.0 yearly.ensures.most), yearly.ensures.most)

pub returns : goal.returns
returns c =
    let u = c.args.user in
    let yearly = c.charge_of-yearly in
    let ofOpen = c.charge_of_open-open in
    rw c.add-made.ensures (charges-are u.book.bytes.now u.index.0 u.book.length u.book.no_fault u.user_record c.account-account.result c.account-account.ensures
    c.payments_of.result c.payments_of.ensures yearly.result ofOpen.result yearly.ensures.is ofOpen.ensures c.charge_of_each-each.result
    (rw c.add-made.ensures at c.charge_of_each-each.ensures))
