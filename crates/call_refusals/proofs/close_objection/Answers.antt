-- By the rules of a closing in their order, as its tests decide them.
use Rattle.std.proofs.Common.{sym, ap, ◌∙◌, refl, rules, Bool, cond}
use Rattle.sheet.proofs.Faults.{untold}
use Rattle.call_rules.specs.Refusals.{year_open}
use Rattle.call_refusals.proofs.Closings.{year-shut, by-fault, by-excess, by-room}
use Rattle.call_refusals.proofs.close_objection.Goals as goal

pub returns-then-not-year_open : goal.returns-then-not-year_open
returns-then-not-year_open c =
    let a = c.args in
    let shut = ap (year_open a.a) (sym c.year.ensures) ∙ sym c.year_open.ensures ∙ c.if-not-year_open.true in
    (year-shut a.a a.s.now a.room shut, untold a.s.now 12 refl)

pub returns-in_err-first_fault : goal.returns-in_err-first_fault
returns-in_err-first_fault c =
    let a = c.args in
    let is_open = ap (year_open a.a) (sym c.year.ensures) ∙ sym c.year_open.ensures ∙ c.if-not-year_open.false in
    let fault = c.in_err-first_fault.ensures in
    let by-rule = by-fault a.a a.s.now a.room is_open _ fault in
    let told = fault.tells in
    search rules

pub returns-then-domestic_excess : goal.returns-then-domestic_excess
returns-then-domestic_excess c =
    let a = c.args in
    let is_open = ap (year_open a.a) (sym c.year.ensures) ∙ sym c.year_open.ensures ∙ c.if-not-year_open.false in
    let excess = sym c.domestic_excess.ensures ∙ c.if-domestic_excess.true in
    (by-excess a.a a.s.now a.room is_open c.in_ok-first_fault.ensures excess, untold a.s.now 14 refl)

pub returns-then-not-room : goal.returns-then-not-room
returns-then-not-room c =
    let a = c.args in
    let is_open = ap (year_open a.a) (sym c.year.ensures) ∙ sym c.year_open.ensures ∙ c.if-not-year_open.false in
    let excess = sym c.domestic_excess.ensures ∙ c.if-domestic_excess.false in
    let rest = by-room a.a a.s.now a.room is_open c.in_ok-first_fault.ensures excess in
    (rest ∙ ap (λ (t : Bool). cond t 0 3) c.if-not-room.true, untold a.s.now 3 refl)

pub returns : goal.returns
returns c =
    let a = c.args in
    let is_open = ap (year_open a.a) (sym c.year.ensures) ∙ sym c.year_open.ensures ∙ c.if-not-year_open.false in
    let excess = sym c.domestic_excess.ensures ∙ c.if-domestic_excess.false in
    let rest = by-room a.a a.s.now a.room is_open c.in_ok-first_fault.ensures excess in
    rest ∙ ap (λ (t : Bool). cond t 0 3) c.if-not-room.false
