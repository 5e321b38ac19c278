-- What is written and the lines of the users ahead are those of all users.
use Rattle.std.proofs.Common.{sym, ap, ◌∙◌, subst, subst₂, ◌++◌, rules}
use Rattle.std.specs.String.{string_bytes}
use Rattle.book_rules.specs.Book.{account_at}
use Rattle.book_rules.specs.Chains.{users_of}
use Rattle.listing_text.specs.Listing.{user_lines}
use Rattle.listing_text.proofs.Lines.{Listing, begins, goes_on, ends, account_printed}
use Rattle.listing_text.proofs.lines_of.Goals as goal

pub loop-user-init : goal.loop-user-init
loop-user-init c =
    let k = c.args.book in
    let of = c.of-user-items.ensures in
    let same = c.into_iter-user-iterator.ensures.into_iter_gives in
    let book = ap (λ s. s.book) same ∙ of.0 in (
      tt,
      tt,
      book,
      subst (λ x. Listing x.bytes.now (string_bytes c.new-text.result) c.into_iter-user-iterator.result.at.0) (sym book)
          (subst₂ (Listing k.bytes.now) (sym c.new-text.ensures.bytes) (sym (ap (λ s. s.at.0) same ∙ ap (λ x. x.0) of.1)) (begins k.bytes.now)),
    )

pub loop-user-preserved : goal.loop-user-preserved
loop-user-preserved c =
    let l = c.loop-user in
    let k = l.user-iterator.book in
    let step = c.in-Some.ensures.steps in
    let written = c.in_ok-writeln.ensures.bytes in
    let a = c.account-account in (
      tt,
      tt,
      step.0 ∙ l.invariant.2,
      subst (λ x. Listing x.bytes.now (string_bytes c.writeln.new.self) c.next.new.self.at.0) (sym step.0)
          (subst (Listing k.bytes.now (string_bytes c.writeln.new.self)) (sym (ap (λ x. x.0) step.1.3))
          (goes_on k.bytes.now k.length k.no_fault l.user-iterator.at.0 (l.user-iterator.ahead step.1.0) step.1.0 (string_bytes l.text) (string_bytes c.writeln.new.self) a.result l.invariant.3
          (a.ensures ∙ ap (λ x. account_at x.bytes.now c.in-Some.user.index.0) step.1.1 ∙ ap (λ x. account_at k.bytes.now x.0) step.1.2)
          (written ∙ ap (λ x. string_bytes l.text ++ x) (account_printed a.result (search rules) (search rules) (search rules))))),
    )

pub returns : goal.returns
returns c =
    let l = c.loop-user in
    let k = l.user-iterator.book in
    ends k.bytes.now (string_bytes l.text) l.user-iterator.at.0 l.invariant.3 c.in-None.ensures.steps.1.0
    ∙ ap (λ x. user_lines x.bytes.now (users_of x.bytes.now)) l.invariant.2
