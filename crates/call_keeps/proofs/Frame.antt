-- What every booking leaves of the records that stood in the book: one frame for the three ways of writing.
use Prim.Native.Nat.{ℕ, ◌≤◌, ◌<◌}
use mathlib.Core.Path.{◌≡◌, sym, ap, subst, ◌∙◌}
use mathlib.Core.Bool.{true}
use mathlib.Core.List.{List}
use native.Mathlib.Nat.{le_of_eq}
use native.Mathlib.Decide.{ℕ_discrete}
use native.Mathlib.Omega.{arith}
use lib.ListN.{length}
use Rattle.account_steps.specs.declared.Account.{Account}
use Rattle.book_layout.specs.Fields.{get, record_at, user_kind, kind_field, next_field, number_field, open_year_field}
use Rattle.book_records.specs.declared.UserRecord.{UserRecord}
use Rattle.book_records.specs.Records.{account_in}
use Rattle.book_rules.specs.Book.{used, kind_at, is_user, is_entry, next_of, number_of, account_at, open_year_of}
use Rattle.book_rules.proofs.RecordKinds.{kind-is, kind-index, entry-index, entry-no-user}
use Rattle.call_keeps.proofs.Records.{UserAt}

-- The book b' after a booking for the user i; of an enrolment i is the new index. No record goes, kinds and nexts stay,
-- entries stay whole, users keep their number and details and no open year falls; of the users only i is touched.
pub record Frame (b b' : List ℕ) (i : ℕ) : Type 0 where
  pub length-same : length b' ≡ length b
  pub grows : used b ≤ used b'
  pub kind : (j : ℕ) → 1 ≤ j → j < used b → kind_at b' j ≡ kind_at b j
  pub next : (j : ℕ) → 1 ≤ j → j < used b → next_of b' j ≡ next_of b j
  pub number : (j : ℕ) → is_user b j ≡ true → number_of b' j ≡ number_of b j
  pub details : (j : ℕ) → is_user b j ≡ true → (account_at b' j).details ≡ (account_at b j).details
  pub open_year : (j : ℕ) → is_user b j ≡ true → open_year_of b j ≤ open_year_of b' j
  pub entry : (j : ℕ) → is_entry b j ≡ true → record_at b' j ≡ record_at b j
  pub others : (j : ℕ) → 1 ≤ j → j < used b → (j ≡ i → ⊥) → record_at b' j ≡ record_at b j

-- the same user later: number and details stay, the open year does not fall
pub record SameUser (before after : Account) : Type 0 where
  pub number : after.number ≡ before.number
  pub details : after.details ≡ before.details
  pub open_year : before.open_year ≤ after.open_year

-- the frame of a booking that leaves every old record
pub frame-of-old : (b b' : List ℕ) (i : ℕ) → length b' ≡ length b → used b ≤ used b'
    → ((j : ℕ) → 1 ≤ j → j < used b → record_at b' j ≡ record_at b j) → Frame b b' i
unfolding kind_at next_of number_of open_year_of
frame-of-old b b' i l u same =
    let user : (j : ℕ) → is_user b j ≡ true → record_at b' j ≡ record_at b j
    = λ j h. let p = kind-index b user_kind j h in same j p.0 p.1.0 in
    record {
      length-same = l;
      grows = u;
      kind = λ j lo hi. ap (get kind_field) (same j lo hi);
      next = λ j lo hi. ap (get next_field) (same j lo hi);
      number = λ j h. ap (get number_field) (user j h);
      details = λ j h. ap (λ (r : List ℕ). (account_in r).details) (user j h);
      open_year = λ j h. le_of_eq (sym (ap (get open_year_field) (user j h)));
      entry = λ j h. let p = entry-index b j h in same j p.0 p.1;
      others = λ j lo hi n. same j lo hi;
    }

-- the frame of a booking that writes the user i anew
module _ (b b' : List ℕ) (i : ℕ) (u : UserRecord) (h : is_user b i ≡ true) (at : UserAt b' i u) (next : u.next.0 ≡ next_of b i)
    (same : SameUser (account_at b i) u.account) (others : (j : ℕ) → 1 ≤ j → j < used b → (j ≡ i → ⊥) → record_at b' j ≡ record_at b j) where
  -- at i by what is written, elsewhere by the old record
  at-index : (P : ℕ → Type 0) → P i → ((j : ℕ) → 1 ≤ j → j < used b → record_at b' j ≡ record_at b j → P j) → (j : ℕ) → 1 ≤ j → j < used b → P j
  at-index P here else j lo hi = by_place (ℕ_discrete j i)
    where
      by_place : Dec (j ≡ i) → P j
      by_place (yes e) = subst P (sym e) here
      by_place (no n) = else j lo hi (others j lo hi n)

  at-user : (P : ℕ → Type 0) → P i → ((j : ℕ) → record_at b' j ≡ record_at b j → P j) → (j : ℕ) → is_user b j ≡ true → P j
  at-user P here else j k = let p = kind-index b user_kind j k in at-index P here (λ m lo hi. else m) j p.0 p.1.0

  pub frame-of-user : length b' ≡ length b → used b ≤ used b' → Frame b b' i
  unfolding kind_at next_of number_of open_year_of account_in
  frame-of-user l grows =
      record {
        length-same = l;
        grows = grows;
        kind = at-index (λ j. kind_at b' j ≡ kind_at b j) (at.kind ∙ sym (kind-index b user_kind i h).1.1) (λ j lo hi e. ap (get kind_field) e);
        next = at-index (λ j. next_of b' j ≡ next_of b j) (at.next ∙ next) (λ j lo hi e. ap (get next_field) e);
        number = at-user (λ j. number_of b' j ≡ number_of b j) (at.number ∙ ap (λ n. n.0) same.number) (λ j e. ap (get number_field) e);
        details = at-user (λ j. (account_at b' j).details ≡ (account_at b j).details) (ap (λ (a : Account). a.details) at.account ∙ same.details)
            (λ j e. ap (λ (r : List ℕ). (account_in r).details) e);
        open_year = at-user (λ j. open_year_of b j ≤ open_year_of b' j) (omega (arith, at.open_year, same.open_year)) (λ j e. le_of_eq (sym (ap (get open_year_field) e)));
        entry = λ j k. let p = entry-index b j k in others j p.0 p.1 (λ e. entry-no-user b j k (subst (λ m. kind_at b m ≡ user_kind) (sym e) (kind-is b user_kind i h)));
        others = others;
      }
