-- By the look at the book, the sheet's form, the user found, the sheet's numbers and the field asked for.
use Rattle.std.proofs.Common.{rules, refl, subst, sym, ap, ℕ, List, ◌≡◌, ◌∙◌}
use Rattle.units.specs.declared.UserNumber.{UserNumber}
use Rattle.refusals.specs.declared.Refusal.TheVariants.{SheetForm, UnknownUser, NoSuchField}
use Rattle.sheet.specs.YearSheet.{sheet_user, Past13}
use Rattle.sheet.specs.Objections.{Faulted}
use Rattle.sheet.proofs.Faults.{untold}
use Rattle.book_rules.specs.Find.{find_user}
use Rattle.call_refusals.proofs.Refused.{told-nowhere}
use Rattle.call_answers.proofs.Answers.{untold-damaged}
use Rattle.call_answers.proofs.Named.{Named, found-named, found-none, told-unknown, named-some, account-is}
use Rattle.call_more_sun.specs.Asked.{has_field}
use Rattle.call_more_sun.proofs.Asking.{damaged, objected, unformed, absent, by-fault, no-field, answered}
use Rattle.call_more_sun.proofs.Fields.{has, field-stands}
use Rattle.call_more_sun.proofs.more_sun.Goals as goal
use Rattle.call_more_sun.proofs.more_sun.Goals.{After-passed, After-has_field}

pub returns-in_err-_book-clause-reply : goal.returns-in_err-_book-clause-reply
returns-in_err-_book-clause-reply c =
    let a = c.args in
    let h = damaged a.book.now a.sheet.now a.month a.band _ c.in_err-_book.ensures in
    search rules

pub returns-in_err-_book-clause-position : goal.returns-in_err-_book-clause-position
returns-in_err-_book-clause-position c =
    let h = untold-damaged c.args.book.now c.args.sheet.now _ c.in_err-_book.ensures in
    search rules

pub returns-in_err-formed-clause-reply : goal.returns-in_err-formed-clause-reply
returns-in_err-formed-clause-reply c =
    let a = c.args in
    let wrong = c.in_err-formed.ensures in
    let is = wrong.1 in
    let h = objected a.book.now a.sheet.now a.month a.band c.in_ok-_book.ensures.1.0 SheetForm (unformed a.book.now a.sheet.now a.month a.band wrong.0) in
    search rules

pub returns-in_err-formed-clause-position : goal.returns-in_err-formed-clause-position
returns-in_err-formed-clause-position c =
    let h = told-nowhere c.args.sheet.now SheetForm refl in
    let is = c.in_err-formed.ensures.1 in
    search rules

pub returns-in_err-user-clause-reply : goal.returns-in_err-user-clause-reply
returns-in_err-user-clause-reply c =
    let a = c.args in
    let look = c.in_ok-_book.ensures in
    let gone = c.in_err-user.ensures in
    let is = told-unknown _ _ gone.value gone.ok_part in
    let none = subst (λ (x : UserNumber). find_user a.book.now x.0 ≡ 0) c.user.ensures (found-none a.book.now _ _ look.1.1 gone.ok_part) in
    let h = objected a.book.now a.sheet.now a.month a.band look.1.0 UnknownUser (absent a.book.now a.sheet.now a.month a.band c.in_ok-formed.ensures.0 none) in
    search rules

pub returns-in_err-user-clause-position : goal.returns-in_err-user-clause-position
returns-in_err-user-clause-position c =
    let gone = c.in_err-user.ensures in
    let is = told-unknown _ _ gone.value gone.ok_part in
    let h = told-nowhere c.args.sheet.now UnknownUser refl in
    search rules

-- the user that the book shows
named : (c : goal.After-passed) → Named c.args.book.now (sheet_user c.args.sheet.now) c.in_ok-user.user
named c =
    let look = c.in_ok-_book.ensures in
    let k = found-named c.args.book.now _ look.1.0 _ look.1.1 _ c.in_ok-user.ensures.ok_part in
    subst (λ (x : UserNumber). Named c.args.book.now x.0 c.in_ok-user.user) c.user.ensures k

pub returns-in_err-passed-clause-reply : goal.returns-in_err-passed-clause-reply
returns-in_err-passed-clause-reply c =
    let a = c.args in
    let k = named (goal.at.returns-in_err-passed-clause-reply c).After-passed in
    let formed = c.in_ok-formed.ensures in
    let fault = subst (λ (x : List ℕ). Faulted x c.in_err-passed.field-0.0) formed.1 c.in_err-passed.ensures in
    let h = objected a.book.now a.sheet.now a.month a.band k.sound _
    (by-fault a.book.now a.sheet.now a.month a.band formed.0 (named-some a.book.now _ _ k) _ fault) in
    search rules

pub returns-in_err-passed-clause-position : goal.returns-in_err-passed-clause-position
returns-in_err-passed-clause-position c =
    let fault = subst (λ (x : List ℕ). Faulted x c.in_err-passed.field-0.0) c.in_ok-formed.ensures.1 c.in_err-passed.ensures in
    let h = fault.tells in
    search rules

-- the sheet that passed is the one that was given
same : (c : goal.After-has_field) → c.in_ok-passed.passed.bytes.now ≡ c.args.sheet.now
same c = c.in_ok-passed.ensures ∙ c.in_ok-formed.ensures.1

past : (c : goal.After-has_field) → Past13 c.args.sheet.now
past c = subst Past13 (same c) c.in_ok-passed.passed.passed.past13

pub returns-then-not-has_field : goal.returns-then-not-has_field
returns-then-not-has_field c =
    let a = c.args in
    let here = (goal.at.returns-then-not-has_field c).After-has_field in
    let k = named (goal.at.returns-then-not-has_field c).After-passed in
    let gone = ap (λ (s : List ℕ). has_field s a.month a.band) (sym (same here)) ∙ sym c.has_field.ensures ∙ c.if-not-has_field.true in
    record {
      reply = objected a.book.now a.sheet.now a.month a.band k.sound NoSuchField
          (no-field a.book.now a.sheet.now a.month a.band c.in_ok-formed.ensures.0 (named-some a.book.now _ _ k) (past here) gone);
      position = told-nowhere a.sheet.now NoSuchField refl;
      addition = tt;
    }

pub overflow_sub-month : goal.overflow_sub-month
overflow_sub-month c =
    let a = c.args in
    (has c.in_ok-passed.passed.bytes.now a.month a.band (sym c.has_field.ensures ∙ c.if-not-has_field.false)).month-from

pub overflow_sub-band : goal.overflow_sub-band
overflow_sub-band c =
    let a = c.args in
    (has c.in_ok-passed.passed.bytes.now a.month a.band (sym c.has_field.ensures ∙ c.if-not-has_field.false)).band-from

pub least_addition-requires : goal.least_addition-requires
least_addition-requires c =
    let a = c.args in
    record { field_stands = field-stands c.in_ok-passed.passed.bytes.now a.month a.band (sym c.has_field.ensures ∙ c.if-not-has_field.false) }

pub returns : goal.returns
returns c =
    let a = c.args in
    let here = (goal.at.returns c).After-has_field in
    let k = named (goal.at.returns c).After-passed in
    let stands = ap (λ (s : List ℕ). has_field s a.month a.band) (sym (same here)) ∙ sym c.has_field.ensures ∙ c.if-not-has_field.false in
    let read = account-is a.book.now _ _ k _ c.account-account.ensures in
    record {
      reply = answered a.book.now a.sheet.now a.month a.band c.in_ok-formed.ensures.0 (named-some a.book.now _ _ k) (past here) k.sound stands;
      position = untold a.sheet.now 0 refl;
      addition = c.least_addition.ensures ∙ rw (same here, read);
    }
