-- Where no run of a year is made, what fits is nothing; and where nothing is paid or charged, all of it fits.
use Prim.Native.Nat.{◌+◌, ◌*◌}
use mathlib.Core.Path.{◌≡◌, sym, ◌∙◌}
use mathlib.Core.Bool.{true, ◌&&◌}
use native.Mathlib.Omega.{arith}
use borrow.Author.Tests.{eqb-true, le-leb}
use lib.Dec.{eqb}
use Rattle.units.specs.Limits.{max_charge}
use Rattle.units.proofs.Bools.{and_left, and_right}
use Rattle.account_steps.specs.declared.Account.{Account}
use Rattle.book_rules.specs.Book.{is_made, due_if_made, runs_fit, halves_made, advances_fit, later_half, later_fits, span_of, charge_fits, payments_fit}
use Rattle.book_rules.proofs.Guards.{none_is_zero}

pub unpaid : (a : Account) → a.runs ≡ 0 → eqb a.advances.0 0 ≡ (runs_fit a && advances_fit a)
unfolding is_made due_if_made runs_fit halves_made advances_fit
unpaid a e = rw e (none_is_zero a.advances.0)

pub later_unpaid : (a : Account) → a.later_runs ≡ 0 → eqb a.later_advances.0 0 ≡ later_fits a
unfolding is_made later_half later_fits
later_unpaid a e = rw e (none_is_zero a.later_advances.0)

pub uncharged : (a : Account) → a.charge.made ≡ 0 → a.charge.rest.0 ≡ 0 → charge_fits a ≡ true
unfolding charge_fits
uncharged a made rest = rw (made, rest) (le-leb 0 (max_charge * (span_of a a.open_year + 0)) (omega arith))

pub nothing_fits : (a : Account) → ((eqb a.runs 0 && eqb a.later_runs 0) && eqb a.charge.made 0) ≡ true
    → ((eqb a.advances.0 0 && eqb a.later_advances.0 0) && eqb a.charge.rest.0 0) ≡ true → payments_fit a ≡ true
nothing_fits a none nothing =
    let runs = and_left (eqb a.runs 0 && eqb a.later_runs 0) (eqb a.charge.made 0) none in
    let amounts = and_left (eqb a.advances.0 0 && eqb a.later_advances.0 0) (eqb a.charge.rest.0 0) nothing in
    let paid = sym (unpaid a (eqb-true a.runs 0 (and_left (eqb a.runs 0) (eqb a.later_runs 0) runs)))
    ∙ and_left (eqb a.advances.0 0) (eqb a.later_advances.0 0) amounts in
    let later = sym (later_unpaid a (eqb-true a.later_runs 0 (and_right (eqb a.runs 0) (eqb a.later_runs 0) runs)))
    ∙ and_right (eqb a.advances.0 0) (eqb a.later_advances.0 0) amounts in
    let charged = uncharged a (eqb-true a.charge.made 0 (and_right (eqb a.runs 0 && eqb a.later_runs 0) (eqb a.charge.made 0) none))
    (eqb-true a.charge.rest.0 0 (and_right (eqb a.advances.0 0 && eqb a.later_advances.0 0) (eqb a.charge.rest.0 0) nothing)) in
    rw (paid, later, charged)
