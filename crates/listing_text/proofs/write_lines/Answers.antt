-- The walk of `Walk`: it begins with all lines ahead, and each turn writes one.
use Rattle.std.proofs.Common.{sym, ap, ◌∙◌, subst}
use Rattle.book_rules.specs.Book.{account_at}
use Rattle.book_rules.specs.Chains.{users_of}
use Rattle.listing_text.specs.Listing.{user_lines}
use Rattle.listing_text.specs.InnerWritten.{TextFirst}
use Rattle.listing_text.proofs.Walk.{Walking, begins, goes_on, ends}
use Rattle.listing_text.proofs.write_lines.Goals as goal

pub loop-user-init : goal.loop-user-init
loop-user-init c =
    let k = c.args.book in
    let s = c.args.out.now in
    let of = c.of-user-items.ensures in
    let same = c.into_iter-user-iterator.ensures.into_iter_gives in
    let book = ap (λ s. s.book) same ∙ of.0 in (
      tt,
      tt,
      book,
      subst (λ x. Walking x.bytes.now s s 0 c.into_iter-user-iterator.result.at.0) (sym book)
          (subst (Walking k.bytes.now s s 0) (sym (ap (λ s. s.at.0) same ∙ ap (λ x. x.0) of.1)) (begins k.bytes.now k.length k.no_fault s c.requires)),
    )

pub loop-user-preserved : goal.loop-user-preserved
loop-user-preserved c =
    let l = c.loop-user in
    let k = l.user-iterator.book in
    let s = c.args.out.now in
    let step = c.in-Some.ensures.steps in
    let user = c.in-Some.user in
    let t = c.line_at-end in
    let next = c.next.new.self in
    let read = c.account.ensures ∙ ap (λ x. account_at x.bytes.now user.index.0) step.1.1 ∙ ap (λ x. account_at k.bytes.now x.0) step.1.2 in (
      tt,
      tt,
      step.0 ∙ l.invariant.2,
      subst (λ x. Walking x.bytes.now s t.new.out t.result next.at.0) (sym step.0)
          (goes_on k.bytes.now s l.out l.end l.user-iterator.at.0 l.invariant.3 step.1.0 c.account.result t.new.out t.result next.at.0
          read t.ensures.end t.ensures.stands (ap (λ x. x.0) step.1.3)),
    )

pub returns : goal.returns
returns c =
    let l = c.loop-user in
    let k = l.user-iterator.book in
    let s = c.args.out.now in
    subst (λ x. TextFirst (user_lines x.bytes.now (users_of x.bytes.now)) s l.out l.end) l.invariant.2
    (ends k.bytes.now s l.out l.end (subst (Walking k.bytes.now s l.out l.end) c.in-None.ensures.steps.1.0 l.invariant.3))
