-- The walk of `Walk`: it begins with all entries ahead, each turn adds one, and at the end none is ahead.
use Rattle.std.proofs.Common.{sym, ap, ◌∙◌, subst, subst₂}
use Rattle.chains.specs.Statements.{statement_at}
use Rattle.statements.specs.InnerWalk.{sums_of, sums_before, entry_added, EntryRoom}
use Rattle.statements.proofs.Walk.{Walking, starts, entry_room, turned, ends}
use Rattle.statements.proofs.statement_of.Goals as goal

pub loop-entry-init : goal.loop-entry-init
loop-entry-init c =
    let u = c.args.user in
    let of = c.of-entry-items.ensures in
    let same = c.into_iter-entry-iterator.ensures.into_iter_gives in
    let book = ap (λ s. s.book) same ∙ of.0 in (
      tt,
      tt,
      book,
      subst (λ k. Walking k.bytes.now u.index.0 c.sums_before-sums.result c.into_iter-entry-iterator.result.at.0) (sym book)
          (subst₂ (Walking u.book.bytes.now u.index.0) (sym (c.sums_before-sums.ensures ∙ ap sums_before c.account.ensures))
          (sym (ap (λ s. s.at.0) same ∙ ap (λ k. k.0) of.1))
          (starts u.book.bytes.now u.index.0 u.book.length u.book.no_fault u.user_record)),
    )

pub with-sums-requires : goal.with-sums-requires
with-sums-requires c =
    let l = c.loop-entry in
    let step = c.in-Some.ensures.steps in
    subst (λ e. EntryRoom e l.sums) (sym step.1.1)
    (entry_room l.entry-iterator.book.bytes.now c.args.user.index.0 l.sums l.entry-iterator.at.0 l.invariant.3 step.1.0)

pub loop-entry-preserved : goal.loop-entry-preserved
loop-entry-preserved c =
    let l = c.loop-entry in
    let i = c.args.user.index.0 in
    let step = c.in-Some.ensures.steps in (
      tt,
      tt,
      step.0 ∙ l.invariant.2,
      subst (λ k. Walking k.bytes.now i c.with-sums.result c.next.new.self.at.0) (sym step.0)
          (subst₂ (Walking l.entry-iterator.book.bytes.now i) (sym (c.with-sums.ensures ∙ ap (λ e. entry_added e l.sums) step.1.1)) (sym (ap (λ k. k.0) step.1.2))
          (turned l.entry-iterator.book.bytes.now i l.sums l.entry-iterator.at.0 l.invariant.3 step.1.0)),
    )

pub returns : goal.returns
returns c =
    let l = c.loop-entry in
    let b = l.entry-iterator.book.bytes.now in
    let i = c.args.user.index.0 in
    ends b i l.sums (subst (Walking b i l.sums) c.in-None.ensures.steps.1.0 l.invariant.3)
    ∙ ap (λ k. sums_of (statement_at k.bytes.now i)) l.invariant.2
