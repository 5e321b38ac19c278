-- The numbers of the users before an index stand in a table. One that the table takes in is new.
use Prim.Native.Nat.{ℕ, ◌+◌, ◌<◌}
use mathlib.Core.Path.{◌≡◌, refl, sym, ◌∙◌, subst}
use mathlib.Core.Bool.{Bool, true, false, ◌&&◌, true≢false}
use mathlib.Core.List.{List}
use native.Mathlib.Omega.{arith}
use borrow.Author.Count.{below_more}
use borrow.Author.Tests.{eqb-true}
use lib.Dec.{eqb}
use Rattle.units.proofs.Bools.{and_left, and_right}
use Rattle.units.proofs.Folds.{none_of}
use Rattle.book_layout.specs.Fields.{get, record_at, kind_field, user_kind}
use Rattle.book_rules.specs.Book.{kind_at, is_user, number_of, own_rules_fit, number_is_new}
use Rattle.book_rules.proofs.RecordKinds.{kind-is, kind-from-one}
use Rattle.check_pass.proofs.OwnRules.{number-some, user-own}
use Rattle.check_numbers.specs.InnerHeld.{Held, Inserted}

-- the table holds the number of each user below n
pub record Seen (b : List ℕ) (n : ℕ) (table : List ℕ) : Type 0 where
  pub each : (j : ℕ) → j < n → is_user b j ≡ true → Held table (number_of b j)

-- the head is no user
pub seen_none : (b table : List ℕ) → Seen b 1 table
seen_none b table = record { each = λ j h u. let z : ⊥ = omega (arith, kind-from-one b user_kind j u) in absurd z }

pub seen_other : (b : List ℕ) (i : ℕ) {table : List ℕ} → is_user b i ≡ false → Seen b i table → Seen b (i + 1) table
seen_other b i {table} n seen =
    record {
      each = below_more (λ j. is_user b j ≡ true → Held table (number_of b j)) i seen.each (λ u. absurd (true≢false (sym u ∙ n)));
    }

-- a user that keeps its own rules has a number
pub has-number : (b : List ℕ) (i : ℕ) → is_user b i ≡ true → own_rules_fit b i ≡ true → 0 < number_of b i
unfolding number_of kind_at
has-number b i user own =
    let kind : get kind_field (record_at b i) ≡ user_kind = kind-is b user_kind i user in
    number-some (record_at b i) (sym (user-own b i refl refl kind) ∙ own)

-- a user's number is put into the table, which held those before it if `all` says so
module _ (b : List ℕ) (i : ℕ) {number : ℕ} {table after : List ℕ} (all put : Bool) (seen : all ≡ true → Seen b i table)
    (n : number ≡ number_of b i) (ins : put ≡ true → Inserted table number after) (both : (all && put) ≡ true) where
  before : Seen b i table
  before = seen (and_left all put both)

  inserted : Inserted table number after
  inserted = ins (and_right all put both)

  not_taken : (j : ℕ) → j < i → (is_user b j && eqb (number_of b j) (number_of b i)) ≡ false
  not_taken j h = by-test (is_user b j && eqb (number_of b j) (number_of b i)) refl
    where
      by-test : (t : Bool) → (is_user b j && eqb (number_of b j) (number_of b i)) ≡ t → (is_user b j && eqb (number_of b j) (number_of b i)) ≡ false
      by-test false q = q
      by-test true q =
          let user = and_left (is_user b j) (eqb (number_of b j) (number_of b i)) q in
          let same = eqb-true (number_of b j) (number_of b i) (and_right (is_user b j) (eqb (number_of b j) (number_of b i)) q) in
          absurd (inserted.fresh (subst (Held table) (same ∙ sym n) (before.each j h user)))

  pub seen-new : number_is_new b i ≡ true
  unfolding number_is_new
  seen-new = rw (none_of i (λ j. is_user b j && eqb (number_of b j) (number_of b i)) not_taken)

  pub seen_next : Seen b (i + 1) after
  seen_next =
      record {
        each =
            below_more (λ j. is_user b j ≡ true → Held after (number_of b j)) i (λ j h u. inserted.kept (number_of b j) (before.each j h u))
            (λ _. subst (Held after) n inserted.held);
      }
