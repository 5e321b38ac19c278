-- What is passed over has no line feed until one is found.
use Rattle.std.proofs.Common.{rules, ◌≡◌, [], refl, sym, subst, arith, append-nil, length-take-le}
use Rattle.std.proofs.KnownBytes.{Consumes-nil}
use Rattle.input.specs.Input.{Unfed}
use Rattle.input.proofs.LentFound.{front_is, front_held, none_in_front, nothing_front, behind_feed, feed_before}
use Rattle.input.proofs.PassedOver.{passed_more, passed_line, passed_end, passed_failed, passed_given_up}
use Rattle.input.proofs.pass_over.Goals as goal

pub loop-init : goal.loop-init
loop-init g c =
    let long = length-take-le c.args.held.now.filled c.args.bytes.now (omega (arith, c.requires.full)) in
    record {
      room = omega (arith, c.requires.full, long);
      next = c.requires.front;
      within = omega (arith, c.requires.full);
      passed = record { given = []; taken = Consumes-nil _; unfed = subst Unfed (sym (append-nil _)) c.requires.none; lost = []; parts = append-nil _ };
    }

pub returns-in_err-read_behind : goal.returns-in_err-read_behind
returns-in_err-read_behind g c =
    let step = c.read_behind.ensures in
    passed_failed _ _ _ _ _ c.loop.invariant.passed _ step.taken _ _ (record { next = omega arith; filled = step.within }) _ (search rules)
    c.requires.none (nothing_front _ _ c.in_err-read_behind.ensures.failed) (front_is _ _)

pub returns-then-branch-eq0 : goal.returns-then-branch-eq0
returns-then-branch-eq0 g c =
    let step = c.in_ok-read_behind.ensures in
    let none : c.read_behind.new.filled ≡ 0 = omega (arith, step.count, c.if-branch-eq0.true) in
    passed_end _ _ _ _ _ c.loop.invariant.passed _ step.taken _ _ (record { next = omega arith; filled = step.within })
    (omega (arith, step.same, c.loop.invariant.room)) (none_in_front _ none) (nothing_front _ _ none)
    (λ some. step.end c.if-branch-eq0.true (omega (arith, some, step.same)))

pub returns-in-Some : goal.returns-in-Some
returns-in-Some g c =
    let step = c.in_ok-read_behind.ensures in
    let at = c.in-Some.at in
    let feed = c.in-Some.ensures in
    let long = length-take-le c.read_behind.new.filled c.read_behind.new.bytes step.within in
    passed_line _ _ _ _ _ c.loop.invariant.passed _ step.taken _ _ (record { next = omega (arith, feed.within, long); filled = step.within })
    at (omega (arith, step.same, c.loop.invariant.room)) feed (behind_feed _ at _)
    (feed_before c.read_behind.new.filled at c.read_behind.new.bytes step.within feed)

pub loop-preserved : goal.loop-preserved
loop-preserved g c =
    let step = c.in_ok-read_behind.ensures in
    let unfed = c.in_default.ensures in
    record {
      room = omega (arith, step.same, c.loop.invariant.room);
      next = refl;
      within = step.within;
      passed = passed_more _ _ _ _ _ c.loop.invariant.passed _ step.taken unfed;
    }

pub returns : goal.returns
returns g c =
    let inv = c.loop.invariant in
    passed_given_up _ _ _ _ _ _ _ inv.passed (sym (front_held _ _ inv.next)) (record { next = omega (arith, inv.next); filled = inv.within })
    c.requires.none (search rules)
