-- The walk of `PaidOut`: it begins with all entries ahead, and each turn adds what an entry pays.
use Rattle.std.proofs.Common.{sym, ap, ◌∙◌, subst, subst₂}
use Rattle.book_rules.proofs.Faultless.{sound-faultless}
use Rattle.account_years.specs.History.{payments_of}
use Rattle.account_years.specs.InnerEntries.{entry_payments, payments_added, EntryFits, PaymentsRoom}
use Rattle.account_years.proofs.Years.{entry_fits}
use Rattle.account_years.proofs.PaidOut.{Paying, pay_begins, pay_room, pay_on, paid_all}
use Rattle.account_years.proofs.payments_of.Goals as goal

pub loop-entry-init : goal.loop-entry-init
loop-entry-init c =
    let a = c.args in
    let u = a.user in
    let of = c.of-entry-items.ensures in
    let same = c.into_iter-entry-iterator.ensures.into_iter_gives in
    let book = ap (λ s. s.book) same ∙ of.0 in (
      tt,
      tt,
      book,
      subst (λ k. Paying k.bytes.now u.index.0 a.first a.last _ c.into_iter-entry-iterator.result.at.0) (sym book)
          (subst (Paying u.book.bytes.now u.index.0 a.first a.last _) (sym (ap (λ s. s.at.0) same ∙ ap (λ k. k.0) of.1))
          (pay_begins u.book.bytes.now u.index.0 a.first a.last u.book.length u.book.no_fault u.user_record)),
    )

pub payments_by-requires : goal.payments_by-requires
payments_by-requires c =
    let k = c.loop-entry.entry-iterator.book in
    let step = c.in-Some.ensures.steps in
    subst EntryFits (sym step.1.1) (entry_fits k.bytes.now (sound-faultless k.bytes.now k.length k.no_fault) c.loop-entry.entry-iterator.at.0 step.1.0)

pub with-payments-requires : goal.with-payments-requires
with-payments-requires c =
    let a = c.args in
    let l = c.loop-entry in
    let step = c.in-Some.ensures.steps in
    subst (λ p. PaymentsRoom p l.payments) (sym (c.payments_by.ensures ∙ ap (entry_payments a.first a.last) step.1.1))
    (pay_room l.entry-iterator.book.bytes.now a.user.index.0 a.first a.last l.payments l.entry-iterator.at.0 l.invariant.3 step.1.0)

pub loop-entry-preserved : goal.loop-entry-preserved
loop-entry-preserved c =
    let a = c.args in
    let i = a.user.index.0 in
    let l = c.loop-entry in
    let step = c.in-Some.ensures.steps in
    let part = c.payments_by.ensures ∙ ap (entry_payments a.first a.last) step.1.1 in (
      tt,
      tt,
      step.0 ∙ l.invariant.2,
      subst (λ k. Paying k.bytes.now i a.first a.last c.with-payments.result c.next.new.self.at.0) (sym step.0)
          (subst₂ (Paying l.entry-iterator.book.bytes.now i a.first a.last) (sym (c.with-payments.ensures ∙ ap (λ p. payments_added p l.payments) part))
          (sym (ap (λ k. k.0) step.1.2))
          (pay_on l.entry-iterator.book.bytes.now i a.first a.last l.payments l.entry-iterator.at.0 l.invariant.3 step.1.0)),
    )

pub returns : goal.returns
returns c =
    let a = c.args in
    let i = a.user.index.0 in
    let l = c.loop-entry in
    paid_all l.entry-iterator.book.bytes.now i a.first a.last l.payments l.entry-iterator.at.0 l.invariant.3 c.in-None.ensures.steps.1.0
    ∙ ap (λ k. payments_of k.bytes.now i a.first a.last) l.invariant.2
