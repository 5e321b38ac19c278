-- The walk of `Walk`: it begins with all entries ahead, and an entry that is not the closing of the year is left behind.
use Rattle.std.proofs.Common.{sym, ap, ◌∙◌, subst}
use Rattle.account_years.specs.History.{closing_of}
use Rattle.account_years.specs.InnerEntries.{closing_in_year}
use Rattle.account_years.proofs.Walk.{Seeking, seek, seek_on, found, nowhere}
use Rattle.account_years.proofs.closing_of_year.Goals as goal

pub loop-entry-init : goal.loop-entry-init
loop-entry-init c =
    let u = c.args.user in
    let of = c.of-entry-items.ensures in
    let same = c.into_iter-entry-iterator.ensures.into_iter_gives in
    let book = ap (λ s. s.book) same ∙ of.0 in (
      tt,
      tt,
      book,
      subst (λ k. Seeking k.bytes.now u.index.0 c.args.year c.into_iter-entry-iterator.result.at.0) (sym book)
          (subst (Seeking u.book.bytes.now u.index.0 c.args.year) (sym (ap (λ s. s.at.0) same ∙ ap (λ k. k.0) of.1))
          (seek u.book.bytes.now u.index.0 c.args.year u.book.length u.book.no_fault u.user_record)),
    )

pub returns-in-Some-closing_in_year : goal.returns-in-Some-closing_in_year
returns-in-Some-closing_in_year c =
    let l = c.loop-entry in
    let i = c.args.user.index.0 in
    let step = c.in-Some.ensures.steps in
    found l.entry-iterator.book.bytes.now i c.args.year l.entry-iterator.at.0 l.invariant.3 step.1.0 _
    (ap (closing_in_year c.args.year) (sym step.1.1) ∙ sym c.closing_in_year.ensures ∙ c.in-Some-closing_in_year.is)
    ∙ ap (λ k. closing_of k.bytes.now i c.args.year) l.invariant.2

pub loop-entry-preserved : goal.loop-entry-preserved
loop-entry-preserved c =
    let l = c.loop-entry in
    let i = c.args.user.index.0 in
    let step = c.in-Some.ensures.steps in (
      tt,
      tt,
      step.0 ∙ l.invariant.2,
      subst (λ k. Seeking k.bytes.now i c.args.year c.next.new.self.at.0) (sym step.0)
          (subst (Seeking l.entry-iterator.book.bytes.now i c.args.year) (sym (ap (λ k. k.0) step.1.2))
          (seek_on l.entry-iterator.book.bytes.now i c.args.year l.entry-iterator.at.0 l.invariant.3 step.1.0
          (ap (closing_in_year c.args.year) (sym step.1.1) ∙ sym c.closing_in_year.ensures ∙ c.in_default.is))),
    )

pub returns : goal.returns
returns c =
    let l = c.loop-entry in
    let i = c.args.user.index.0 in
    nowhere l.entry-iterator.book.bytes.now i c.args.year l.entry-iterator.at.0 l.invariant.3 c.in-None.ensures.steps.1.0
    ∙ ap (λ k. closing_of k.bytes.now i c.args.year) l.invariant.2
