-- The own rules of a record, as the pass tests them: a user by itself, an entry by its owner's record too; and that a record whose
-- owner is not before it is not good.
use Prim.Native.Nat.{ℕ, ◌≤◌, ◌<◌}
use mathlib.Core.Path.{◌≡◌, sym, ap, ◌∙◌}
use mathlib.Core.Bool.{true, false, not, ◌&&◌, and-false}
use mathlib.Core.List.{List}
use native.Mathlib.Decide.{dec_lt}
use native.Mathlib.Omega.{arith}
use borrow.Author.Tests.{ne_eqb, eqb-false, le-ltb, not-true}
use lib.Dec.{eqb}
use Rattle.units.proofs.Bools.{and_left}
use Rattle.book_layout.specs.Fields.{get, all_zero, unnamed_of_user, record_at, kind_field, number_field, owner_field, user_kind}
use Rattle.book_records.specs.Records.{account_in}
use Rattle.book_rules.specs.Book.{kind_at, has_kind, is_user, owner_of, owner_fits, account_fits, entry_ranges, ranges_fit, unnamed_of, zero_bytes_fit, own_rules_fit, good_record, details_fit}
use Rattle.book_rules.specs.Book.{open_year_fits}
use Rattle.book_rules.specs.Book.{payments_fit, credit_fits, halves_fit}
use Rattle.book_rules.proofs.Faults.{ownerless-bad}

-- a user that keeps its rules has a number
pub number-some : (r : List ℕ) → (account_fits (account_in r) && all_zero unnamed_of_user r) ≡ true → 0 < get number_field r
unfolding account_fits account_in
number-some r own =
    let a = account_in r in
    let fits = and_left (account_fits a) (all_zero unnamed_of_user r) own in
    let known : (not (eqb (get number_field r) 0) && (details_fit a.details a.option && open_year_fits a)) ≡ true =
    and_left (not (eqb (get number_field r) 0) && (details_fit a.details a.option && open_year_fits a))
    (payments_fit a && (credit_fits a && halves_fit a)) fits in
    let some = eqb-false (get number_field r) 0 (not-true (eqb (get number_field r) 0) (and_left (not (eqb (get number_field r) 0)) (details_fit a.details a.option && open_year_fits a) known)) in
    omega (arith, some)

module _ (b : List ℕ) (index : ℕ) {r : List ℕ} (bytes : r ≡ record_at b index) {kind : ℕ} (k : kind ≡ get kind_field r) where
  kind-here : kind_at b index ≡ kind
  unfolding kind_at
  kind-here = rw (k, bytes)

  pub user-own : kind ≡ user_kind → own_rules_fit b index ≡ (account_fits (account_in r) && all_zero unnamed_of_user r)
  unfolding ranges_fit zero_bytes_fit unnamed_of
  user-own e = let here : kind_at b index ≡ user_kind = kind-here ∙ e in rw (bytes, here)

  module _ (other : kind ≡ user_kind → ⊥) {home : ℕ} (h : home ≡ get owner_field r) where
    owner_here : owner_of b index ≡ home
    unfolding owner_of
    owner_here = sym (h ∙ ap (get owner_field) bytes)

    pub entry-own : {owner : List ℕ} → owner ≡ record_at b home → own_rules_fit b index ≡ (entry_ranges (account_in owner) r && all_zero (unnamed_of (get kind_field r)) r)
    unfolding ranges_fit zero_bytes_fit kind_at
    entry-own o = let no-user = ne_eqb (kind_at b index) user_kind (λ e. other (sym kind-here ∙ e)) in rw (o, owner_here, bytes, no-user)

    -- the head is no user
    unowned : (1 ≤ home → home < index → ⊥) → owner_fits b index ≡ false
    unfolding owner_fits has_kind
    unowned past = by_order (dec_lt 0 home)
      where
        by_order : Dec (0 < home) → owner_fits b index ≡ false
        by_order (yes h) = rw (owner_here, le-ltb home index (omega (arith, past h)), and-false (is_user b home))
        by_order (no h) = rw (owner_here, le-ltb 0 home (omega (arith, h)))

    pub owner-bad : (1 ≤ home → home < index → ⊥) → good_record b index ≡ false
    owner-bad past = ownerless-bad b index (λ e. other (sym kind-here ∙ e)) (unowned past)
