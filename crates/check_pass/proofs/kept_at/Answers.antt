-- A user by its own rules, an entry by its owner's record too.
use Rattle.std.proofs.Common.{◌≡◌, refl, sym, ◌∙◌, arith}
use borrow.Author.Tests.{eqb-true, eqb-false}
use Rattle.book_rules.specs.Book.{own_rules_fit}
use Rattle.book_rules.proofs.Faults.{own-bad}
use Rattle.check_pass.proofs.OwnRules.{number-some, user-own, entry-own, owner-bad}
use Rattle.check_pass.proofs.kept_at.Goals as goal
use Rattle.check_pass.proofs.kept_at.Goals.{After-user_record_fits, After-entry_record_fits, then-home-eq0-via-then-home-eq0, then-home-eq0-via-else-home-eq0+then-le}

-- the own rules, as tested
user-rules : (c : goal.After-user_record_fits) → own_rules_fit c.args.book.bytes.now c.args.index.0 ≡ c.user_record_fits.result
user-rules c =
    user-own c.args.book.bytes.now c.args.index.0 c.whole-r.ensures refl (eqb-true _ _ (sym c.is_of.ensures ∙ c.if-is_of.true)) ∙ sym c.user_record_fits.ensures

entry-rules : (c : goal.After-entry_record_fits) → own_rules_fit c.args.book.bytes.now c.args.index.0 ≡ c.entry_record_fits.result
entry-rules c =
    entry-own c.args.book.bytes.now c.args.index.0 c.whole-r.ensures refl (eqb-false _ _ (sym c.is_of.ensures ∙ c.if-is_of.false))
    c.field-home.ensures c.whole-owner.ensures ∙ sym c.entry_record_fits.ensures

pub returns-then-not-user_record_fits : goal.returns-then-not-user_record_fits
returns-then-not-user_record_fits c =
    own-bad c.args.book.bytes.now c.args.index.0 (user-rules (goal.at.returns-then-not-user_record_fits c).After-user_record_fits ∙ c.if-not-user_record_fits.true)

pub returns-then-is_of : goal.returns-then-is_of
returns-then-is_of c =
    record {
      own = user-rules (goal.at.returns-then-is_of c).After-user_record_fits ∙ c.if-not-user_record_fits.false;
      is = record {
        bytes = c.whole-r.ensures;
        user = eqb-true _ _ (sym c.is_of.ensures ∙ c.if-is_of.true);
        numbered = number-some c.whole-r.result.now (sym c.user_record_fits.ensures ∙ c.if-not-user_record_fits.false);
      };
    }

pub returns-then-home-eq0 : goal.returns-then-home-eq0
returns-then-home-eq0 c =
    owner-bad c.args.book.bytes.now c.args.index.0 c.whole-r.ensures refl (eqb-false _ _ (sym c.is_of.ensures ∙ c.if-is_of.false))
    c.field-home.ensures
    (λ lo hi. elim c.then-home-eq0.branch [
      | then-home-eq0-via-then-home-eq0 w ↦ omega (arith, lo)
      | then-home-eq0-via-else-home-eq0+then-le w ↦ grind (arith, hi)
    ])

pub returns-then-not-entry_record_fits : goal.returns-then-not-entry_record_fits
returns-then-not-entry_record_fits c =
    own-bad c.args.book.bytes.now c.args.index.0 (entry-rules (goal.at.returns-then-not-entry_record_fits c).After-entry_record_fits ∙ c.if-not-entry_record_fits.true)

pub returns : goal.returns
returns c =
    record {
      own = entry-rules (goal.at.returns c).After-entry_record_fits ∙ c.if-not-entry_record_fits.false;
      is = record {
        bytes = c.whole-r.ensures;
        other = eqb-false _ _ (sym c.is_of.ensures ∙ c.if-is_of.false);
        owned = c.field-home.ensures;
        from = grind arith;
        below = grind arith;
        owner-bytes = c.whole-owner.ensures;
      };
    }
