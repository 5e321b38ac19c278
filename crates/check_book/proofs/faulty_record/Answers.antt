-- Every index before this one has had its turn: what it has seen is good, or not before `bad`.
use Rattle.std.proofs.Common.{◌≡◌, ℕ, ◌<◌, true, Option, Some, None, unwrap_or, refl, sym, ap, ◌∙◌, rules, arith}
use Rattle.units.specs.declared.RecordIndex.{RecordIndex}
use Rattle.units.specs.declared.UserNumber.{UserNumber}
use Rattle.units.specs.Units.{record_index}
use Rattle.book_rules.specs.Book.{used}
use Rattle.book_rules.proofs.RecordKinds.{entry-no-user}
use Rattle.check_pass.specs.InnerSteps.{index_or}
use Rattle.check_book.specs.Verdicts.{RecordsJudged}
use Rattle.book_rules.proofs.Faults.{used-counted}
use Rattle.check_book.proofs.Homes.{EntriesMet, homes-sooner, bad-first, bad-here, entry_here, entry_place, entries-left, entries-all, entry-after, ahead-less, stray-bad, judged}
use Rattle.check_book.proofs.SeenNumbers.{has-number, seen_none, seen-new}
use Rattle.check_book.proofs.Turns.{user-turn, other-turn, searched}
use Rattle.check_book.proofs.faulty_record.Goals as goal
use Rattle.check_book.proofs.faulty_record.Goals.{In-Some, then-is_user+else-not-good_record+in-Some+then-bad-e}
use Rattle.check_book.proofs.faulty_record.Goals.{then-is_user+else-not-good_record+in-Some+else-bad-e+then-not-good_record-2}
use Rattle.check_book.proofs.faulty_record.Goals.{then-is_user+else-not-good_record+in_default, else-is_user+else-not-owned}
use Rattle.check_book.proofs.faulty_record.Goals.{else-users-test, then-users-test+then-i-bad}
use Rattle.check_book.proofs.faulty_record.Goals.{then-users-test+else-i-bad+then-is_user+then-not-good_record, then-users-test+else-i-bad+else-is_user+then-not-owned}

-- by the way that the users were left; said first, so that a search that is left too soon is refused here
pub returns : goal.returns
returns c =
    let b = c.args.book.used.bytes.now in
    let i = c.users.i in
    let s = c.users.invariant in
    let to = s.is.to in
    let before = s.before in
    let records = c.used-records.ensures in
    let end : RecordsJudged b c.users-test.bad = elim c.users-test.branch [
      | else-users-test w ↦ rw w.bad-is (judged b c.users.bad i (omega arith) (omega (arith, w.users-test.false)) s.is s.homes)
      | then-users-test+then-i-bad w ↦ rw w.bad-is (judged b c.users.bad i (omega arith) (omega (arith, w.if-i-bad.true)) s.is s.homes)
      | then-users-test+else-i-bad+then-is_user+then-not-good_record w ↦
          let at : i < used b = omega (arith, w.users-test.true) in
          rw w.bad-is (judged b i i (omega arith) (omega arith) (bad-here b i s.from at (sym w.good_record.ensures ∙ w.if-not-good_record.true)) (homes-sooner b c.users.bad i i before s.homes))
      | then-users-test+else-i-bad+else-is_user+then-not-owned w ↦
          let at : i < used b = omega (arith, w.users-test.true) in
          let stray = stray-bad b i s.from at (sym w.is_user.ensures ∙ w.if-is_user.false) (sym w.owned.ensures ∙ w.if-not-owned.true) in
          rw w.bad-is (judged b i i (omega arith) (omega arith) (bad-here b i s.from at stray) (homes-sooner b c.users.bad i i before s.homes))
    ] in
    rw c.then_some.ensures (searched b c.users-test.bad records end)

-- where no record breaks a rule by itself, the search goes to the end
unwrapped : (n : ℕ) (o : Option RecordIndex) → (unwrap_or o (record_index n)).0 ≡ index_or n o
unwrapped n None = refl
unwrapped n (Some i) = refl

pub users-init : goal.users-init
users-init c =
    let b = c.args.book.used.bytes.now in
    let p = c.requires in
    let same : c.unwrap_or-bad.result.0 ≡ index_or (used b) c.args.broken =
    ap (λ (k : RecordIndex). k.0) c.unwrap_or-bad.ensures ∙ unwrapped c.used-records.result c.args.broken ∙ ap (λ (n : ℕ). index_or n c.args.broken) c.used-records.ensures in
    rw same (record {
      from = search rules;
      before = p.from;
      own = p.own;
      is = bad-first b _ p;
      long = refl;
      seen = λ _. seen_none b _;
      homes = λ j q h. absurd (omega arith);
    })

pub insert-all_seen-requires-clause-number_nonzero : goal.insert-all_seen-requires-clause-number_nonzero
insert-all_seen-requires-clause-number_nonzero c =
    let s = c.users.invariant in
    let own = s.own c.users.i s.from (omega (arith, s.before, c.if-i-bad.false)) in
    omega (
      arith,
      has-number c.args.book.used.bytes.now c.users.i (sym c.is_user.ensures ∙ c.if-is_user.true) own,
      ap (λ (n : UserNumber). n.0) c.number_of.ensures,
    )

pub is_new-new-requires : goal.is_new-new-requires
is_new-new-requires c =
    seen-new c.args.book.used.bytes.now c.users.i c.users.all_seen c.insert-all_seen.result c.users.invariant.seen (ap (λ (n : UserNumber). n.0) c.number_of.ensures)
    c.insert-all_seen.ensures.inserted

-- the entry that is met
met-here : (c : goal.In-Some) → EntriesMet c.args.book.used.bytes.now c.users.bad c.users.i (Some c.in-Some.field-0)
met-here c = rw c.in-Some.is at c.entries.invariant.1

pub good_record-requires-in-Some : goal.good_record-requires-in-Some
good_record-requires-in-Some c =
    let b = c.args.book.used.bytes.now in
    let e = c.in-Some.field-0.0 in
    let met = met-here (goal.at.good_record-requires-in-Some c).In-Some in
    let at = entry_place b c.users.bad c.users.i e met in
    record {
      pointer_count = c.counts-counts.ensures e at.0 (omega (arith, at.1, used-counted b c.args.book.used.counted c.args.book.length));
      new_number = λ user. absurd (entry-no-user b e (entry_here b c.users.bad c.users.i e met) user);
      own_rules = c.users.invariant.own e at.0 (omega (arith, c.if-bad-e.false, c.entries.invariant.0));
      index_bound = at.1;
    }

pub entries-smaller : goal.entries-smaller
entries-smaller c =
    let b = c.args.book.used.bytes.now in
    let e = c.in-Some.field-0.0 in
    let met = met-here (goal.at.entries-smaller c).In-Some in
    let inside : c.users.i < used b = omega (arith, c.users-test.true, c.used-records.ensures) in
    rw c.in-Some.is (ahead-less b c.users.i _ e _ c.used-records.ensures (entry_place b c.users.bad c.users.i e met).1 (c.by_owner-entries.ensures.later c.users.i e inside met.here))

pub users-preserved : goal.users-preserved
users-preserved c =
    let b = c.args.book.used.bytes.now in
    let i = c.users.i in
    let bad = c.users.bad in
    let s = c.users.invariant in
    let below : i < bad = omega (arith, s.before, c.if-i-bad.false) in
    let user = sym c.is_user.ensures in
    elim c.if-is_user.branch [
      | then-is_user+else-not-good_record+in-Some+then-bad-e w ↦
          let e = w.in-Some.field-0.0 in
          let met : EntriesMet b bad i (Some w.in-Some.field-0) = rw w.in-Some.is at w.entries.invariant.1 in
          rw (w.seen-is, w.all_seen-is, w.bad-is, w.entries.invariant.0)
          (user-turn b s (user ∙ w.if-is_user.true) (sym w.good_record.ensures ∙ w.if-not-good_record.false)
          (ap (λ (n : UserNumber). n.0) w.number_of.ensures) w.insert-all_seen.result w.insert-all_seen.ensures
          bad (omega arith) below s.is (entries-left b bad i e met bad (omega arith) (omega (arith, w.if-bad-e.true, w.entries.invariant.0))))
      | then-is_user+else-not-good_record+in-Some+else-bad-e+then-not-good_record-2 w ↦
          let e = w.in-Some.field-0.0 in
          let met : EntriesMet b bad i (Some w.in-Some.field-0) = rw w.in-Some.is at w.entries.invariant.1 in
          let at = entry_place b bad i e met in
          rw (w.seen-is, w.all_seen-is, w.bad-is)
          (user-turn b s (user ∙ w.if-is_user.true) (sym w.good_record.ensures ∙ w.if-not-good_record.false)
          (ap (λ (n : UserNumber). n.0) w.number_of.ensures) w.insert-all_seen.result w.insert-all_seen.ensures
          e (omega (arith, w.if-bad-e.false, w.entries.invariant.0)) (entry-after b bad i e s.homes (user ∙ w.if-is_user.true) met.here)
          (bad-here b e at.0 at.1 (sym w.good_record-in-Some.ensures ∙ w.if-not-good_record-2.true))
          (entries-left b bad i e met e (omega (arith, w.if-bad-e.false, w.entries.invariant.0)) (omega arith)))
      | then-is_user+else-not-good_record+in_default w ↦
          let none : w.entries.next ≡ None = search rules in
          rw (w.seen-is, w.all_seen-is, w.bad-is, w.entries.invariant.0)
          (user-turn b s (user ∙ w.if-is_user.true) (sym w.good_record.ensures ∙ w.if-not-good_record.false)
          (ap (λ (n : UserNumber). n.0) w.number_of.ensures) w.insert-all_seen.result w.insert-all_seen.ensures
          bad (omega arith) below s.is (entries-all b bad i (rw none at w.entries.invariant.1)))
      | else-is_user+else-not-owned w ↦
          rw (w.seen-is, w.all_seen-is, w.bad-is) (other-turn b s (user ∙ w.if-is_user.false) (sym w.owned.ensures ∙ w.if-not-owned.false) below)
    ]
