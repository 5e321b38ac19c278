-- `find_user` is held to `found_user`: from the last record down.
use native.Mathlib.Omega.{arith}
use Rattle.check_lookup.proofs.Search.{search-begins, found_here, search-on, found_nowhere}
use Rattle.check_lookup.proofs.find_user.Goals as goal

pub loop-i-init : goal.loop-i-init
loop-i-init c =
    let a = c.args in
    search-begins a.book.now a.number.0 c.used-i.result c.used-i.ensures

pub returns-then-has_number : goal.returns-then-has_number
returns-then-has_number c =
    let a = c.args in
    let l = c.loop-i in
    found_here a.book.now a.number.0 l.i l.invariant (omega arith) c.has_number.result c.has_number.ensures c.if-has_number.true

pub loop-i-preserved : goal.loop-i-preserved
loop-i-preserved c =
    let a = c.args in
    let l = c.loop-i in
    search-on a.book.now a.number.0 l.i l.invariant (omega arith) c.has_number.result c.has_number.ensures c.if-has_number.false

pub returns : goal.returns
returns c =
    let a = c.args in
    let l = c.loop-i in
    found_nowhere a.book.now a.number.0 l.i l.invariant (omega arith)
