-- What is found in what is held after each read.
use Rattle.std.proofs.Common.{rules, ◌≡◌, Err, refl, sym, ◌∙◌, arith, length-take-le}
use Rattle.std.proofs.KnownBytes.{Consumes-more}
use Rattle.std.proofs.Transfers.{starts_with_trans}
use Rattle.input.proofs.LentFound.{front_is, front_held, line_stands, unfed_still, found_in, failed_at, found_last, found_behind}
use Rattle.input.proofs.read_line.Goals as goal

pub returns-in_err-read_behind : goal.returns-in_err-read_behind
returns-in_err-read_behind g c =
    let before = c.loop-held.invariant in
    let step = c.in_err-read_behind.ensures in
    let is : c.from_residual.result ≡ Err c.in_err-read_behind.field-0.0 = search rules in
    let now = length-take-le c.read_behind.new.filled c.read_behind.new.bytes step.within in
    let held = length-take-le c.loop-held.held.filled c.loop-held.bytes before.within in
    failed_at _ _ _ _ (starts_with_trans _ _ _ step.appends before.appends) (Consumes-more _ _ _ _ _ _ before.appends step.appends before.taken step.taken)
    _ _ _ _ is (record { next = omega (arith, before.next); filled = step.within })
    (unfed_still _ _ (omega (arith, now, held, step.failed)) step.appends before.none)
    (sym (front_held _ _ before.next)) step.retried c.requires.none

pub returns-then-branch-eq0 : goal.returns-then-branch-eq0
returns-then-branch-eq0 g c =
    let before = c.loop-held.invariant in
    let step = c.in_ok-read_behind.ensures in
    let now = length-take-le c.read_behind.new.filled c.read_behind.new.bytes step.within in
    let held = length-take-le c.loop-held.held.filled c.loop-held.bytes before.within in
    found_last _ _ _ _ (starts_with_trans _ _ _ step.appends before.appends) (Consumes-more _ _ _ _ _ _ before.appends step.appends before.taken step.taken)
    _ _ _ _ c.last.ensures.found (sym now) c.last.ensures.held
    (unfed_still _ _ (omega (arith, now, held, step.count, c.if-branch-eq0.true)) step.appends before.none)
    (step.end c.if-branch-eq0.true (search rules))

pub returns-in-Some : goal.returns-in-Some
returns-in-Some g c =
    let before = c.loop-held.invariant in
    let step = c.in_ok-read_behind.ensures in
    let to = c.in-Some.to in
    let feed = c.in-Some.ensures in
    let now = length-take-le c.read_behind.new.filled c.read_behind.new.bytes step.within in
    found_in _ _ _ _ (starts_with_trans _ _ _ step.appends before.appends) (Consumes-more _ _ _ _ _ _ before.appends step.appends before.taken step.taken)
    _ _ _ (record { next = omega (arith, feed.within, now); filled = step.within })
    (line_stands _ _ 0 to to _ (sym (front_is _ _)) step.within feed (omega arith) refl) tt tt

pub loop-held-preserved : goal.loop-held-preserved
loop-held-preserved g c =
    let before = c.loop-held.invariant in
    let step = c.in_ok-read_behind.ensures in
    record {
      next = before.next;
      within = step.within;
      same = step.same ∙ before.same;
      none = c.in_default.ensures;
      appends = starts_with_trans _ _ _ step.appends before.appends;
      taken = Consumes-more _ _ _ _ _ _ before.appends step.appends before.taken step.taken;
    }

pub returns : goal.returns
returns g c =
    let before = c.loop-held.invariant in
    found_behind _ _ _ _ before.appends before.taken _ _ _ _ c.requires.none c.pass_over.ensures
