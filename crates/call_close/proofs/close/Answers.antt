-- By the look at the book, the sheet's form, the user found, then the other rules of a closing.
use Rattle.std.proofs.Common.{rules, refl, subst, ap, ℕ, List, ◌≡◌, ◌∙◌, Bool}
use Rattle.units.specs.declared.UserNumber.{UserNumber}
use Rattle.refusals.specs.Refusals.{number_of, position_of}
use Rattle.refusals.specs.declared.Refusal.{Refusal}
use Rattle.refusals.specs.declared.Refusal.TheVariants.{SheetForm, UnknownUser}
use Rattle.sheet.specs.YearSheet.{sheet_user, Tells}
use Rattle.sheet.proofs.Faults.{untold}
use Rattle.account_steps.specs.declared.Account.{Account}
use Rattle.sheet_values.specs.InnerArrays.{ValuesWorked}
use Rattle.call_rules.specs.Calls as calls
use Rattle.call_rules.specs.Rules.{refused_by}
use Rattle.call_refusals.specs.Orders.{close_rules}
use Rattle.call_refusals.proofs.Refused.{told-nowhere}
use Rattle.call_answers.proofs.Answers.{damaged, untold-damaged, objected}
use Rattle.call_answers.proofs.Named.{Named, found-named, told-unknown, unknown}
use Rattle.call_close.proofs.Closing.{unformed, close-order, close-past-6, year-fits, close-booked, sums-settled}
use Rattle.call_close.proofs.close.Goals as goal
use Rattle.call_close.proofs.close.Goals.{After-account-account}

pub returns-in_err-_book-clause-reply : goal.returns-in_err-_book-clause-reply
returns-in_err-_book-clause-reply c =
    let h = damaged c.args.book.now (calls.close c.args.sheet.now) 0 _ c.in_err-_book.ensures in
    search rules

pub returns-in_err-_book-clause-position : goal.returns-in_err-_book-clause-position
returns-in_err-_book-clause-position c =
    let h = untold-damaged c.args.book.now c.args.sheet.now _ c.in_err-_book.ensures in
    search rules

pub returns-in_err-formed-clause-reply : goal.returns-in_err-formed-clause-reply
returns-in_err-formed-clause-reply c =
    let a = c.args in
    let look = c.in_ok-_book.ensures in
    let wrong = c.in_err-formed.ensures in
    let h = objected a.book.now (calls.close a.sheet.now) look.1.0 0 SheetForm (unformed a.book.now a.sheet.now wrong.0) in
    let is = wrong.1 in
    search rules

pub returns-in_err-formed-clause-position : goal.returns-in_err-formed-clause-position
returns-in_err-formed-clause-position c =
    let h = told-nowhere c.args.sheet.now SheetForm refl in
    let is = c.in_err-formed.ensures.1 in
    search rules

pub returns-in_err-user-clause-reply : goal.returns-in_err-user-clause-reply
unfolding calls.named_by
returns-in_err-user-clause-reply c =
    let a = c.args in
    let look = c.in_ok-_book.ensures in
    let gone = c.in_err-user.ensures in
    let h = unknown a.book.now (calls.close a.sheet.now) (ap (λ (n : UserNumber). n.0) c.user.ensures) _ (close-order a.book.now a.sheet.now c.in_ok-formed.ensures.0)
    look.1.0 _ look.1.1 gone.ok_part _ gone.value 0 in
    search rules

pub returns-in_err-user-clause-position : goal.returns-in_err-user-clause-position
returns-in_err-user-clause-position c =
    let gone = c.in_err-user.ensures in
    let is = told-unknown _ _ gone.value gone.ok_part in
    let h = told-nowhere c.args.sheet.now UnknownUser refl in
    search rules

-- the user that the book shows
named : (c : goal.After-account-account) → Named c.args.book.now (sheet_user c.args.sheet.now) c.in_ok-user.user
named c =
    let look = c.in_ok-_book.ensures in
    let k = found-named c.args.book.now _ look.1.0 _ look.1.1 _ c.in_ok-user.ensures.ok_part in
    subst (λ (x : UserNumber). Named c.args.book.now x.0 c.in_ok-user.user) c.user.ensures k

-- what the sheet's rules and the account's answer, of the sheet as it was given
by-rules : {s t : List ℕ} → t ≡ s → (a : Account) (room : Bool) (e : Refusal)
    → (refused_by (close_rules a t room) ≡ number_of e) × Tells t (number_of e) (position_of e)
    → (refused_by (close_rules a s room) ≡ number_of e) × Tells s (number_of e) (position_of e)
by-rules same a room e said = rw same at said

pub returns-in_err-passed-clause-reply : goal.returns-in_err-passed-clause-reply
returns-in_err-passed-clause-reply c =
    let a = c.args in
    let k = named (goal.at.returns-in_err-passed-clause-reply c).After-account-account in
    let formed = c.in_ok-formed.ensures in
    let said = by-rules formed.1 _ _ _ c.in_err-passed.ensures in
    let order = close-past-6 a.book.now a.sheet.now formed.0 k c.account-account.ensures c.has_room-room.ensures in
    let h = objected a.book.now (calls.close a.sheet.now) k.sound 0 _ (order ∙ said.0) in
    search rules

pub returns-in_err-passed-clause-position : goal.returns-in_err-passed-clause-position
returns-in_err-passed-clause-position c =
    let said = by-rules c.in_ok-formed.ensures.1 _ _ _ c.in_err-passed.ensures in
    let h = said.1 in
    search rules

-- the rules are met, of the sheet as it was given
met : {s t u : List ℕ} → t ≡ s → (a : Account) (room : Bool) → (u ≡ t) × (refused_by (close_rules a t room) ≡ 0) → (u ≡ s) × (refused_by (close_rules a s room) ≡ 0)
met same a room said = rw same at said

pub book_year-requires : goal.book_year-requires
book_year-requires c =
    let a = c.args in
    let k = named (goal.at.book_year-requires c).After-account-account in
    let formed = c.in_ok-formed.ensures in
    let all = met formed.1 _ _ c.in_ok-passed.ensures in
    let worked = subst (λ (x : List ℕ). ValuesWorked x c.account-account.result.details c.of-values.result) all.0 c.of-values.ensures in
    year-fits a.book.now a.sheet.now formed.0 k c.account-account.ensures c.has_room-room.ensures all.1 worked

pub returns : goal.returns
returns c =
    let a = c.args in
    let k = named (goal.at.returns c).After-account-account in
    let formed = c.in_ok-formed.ensures in
    let all = met formed.1 _ _ c.in_ok-passed.ensures in
    let worked = subst (λ (x : List ℕ). ValuesWorked x c.account-account.result.details c.of-values.result) all.0 c.of-values.ensures in
    let read = c.account-account.ensures in
    let left = c.has_room-room.ensures in
    record {
      reply = close-booked a.book.now a.sheet.now formed.0 k read left all.1 worked c.book_year.ensures.book;
      position = untold a.sheet.now 0 refl;
      sums = sums-settled a.book.now a.sheet.now formed.0 k read left all.1 worked c.book_year.ensures.sums;
    }
