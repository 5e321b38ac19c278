-- From the last record down, as the chains lead.
use Rattle.std.proofs.Common.{◌≡◌, ◌-◌, Some, ap, ◌∙◌, arith}
use Rattle.units.specs.declared.RecordIndex.{RecordIndex}
use Rattle.std.proofs.lemmas.Option.{MatchOption-at_some}
use Rattle.check_pass.specs.declared.Kept.TheVariants.{User, Entry}
use Rattle.check_pass.proofs.Following.{first, user-passed, entry-passed, joined}
use Rattle.check_pass.proofs.follow_chains.Goals as goal

pub loop-i-init : goal.loop-i-init
loop-i-init c =
    first c.args.book.used.bytes.now c.args.wanted.0 c.args.book.used.counted c.requires c.used-i.ensures
    (ap (λ (i : RecordIndex). i.0) c.first_user-expected.ensures)

pub loop-i-preserved-in-User : goal.loop-i-preserved-in-User
loop-i-preserved-in-User c =
    let b = c.args.book.used.bytes.now in
    let was : c.kept_at.result ≡ Some (User c.in-User.r) = cc (c.in_ok-r.ensures.ok_part) in
    let met = MatchOption-at_some _ _ _ was c.kept_at.ensures in
    rw c.last_met-found.ensures
    (user-passed b c.loop-i.invariant (c.loop-i.i - 1) (omega arith) (omega arith) met.own met.is (rw c.first.ensures at c.unwrap_or-due.ensures) (c.user_leads.ensures c.if-not-user_leads.false)
    c.field-number.ensures (c.insert.ensures.size ∙ c.loop-i.invariant.seen_size)
    (c.insert.ensures.inserted c.if-not-insert.false) c.field-expected.ensures)

pub loop-i-preserved : goal.loop-i-preserved
loop-i-preserved c =
    let b = c.args.book.used.bytes.now in
    let was : c.kept_at.result ≡ Some (Entry c.in-Entry.r c.in-Entry.home c.in-Entry.owner) = cc (c.in_ok-r.ensures.ok_part) in
    let met = MatchOption-at_some _ _ _ was c.kept_at.ensures in
    rw c.behind.ensures
    (entry-passed b c.loop-i.invariant (c.loop-i.i - 1) (omega arith) (omega arith) met.own c.requires.room met.is
    (rw c.first-in-Entry.ensures at c.unwrap_or-due-in-Entry.ensures) (c.entry_leads.ensures c.if-not-entry_leads.false))

pub returns-then-expected-eq0 : goal.returns-then-expected-eq0
returns-then-expected-eq0 c =
    joined c.args.book.used.bytes.now c.loop-i.invariant (omega arith) c.args.book.used.counted c.args.book.head c.if-expected-eq0.true
