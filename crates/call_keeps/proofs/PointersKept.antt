-- The pointers to each record after the three ways of writing: one more to the new record, and no other change.
use Prim.Native.Nat.{ℕ, ◌+◌, ◌≤◌, ◌<◌}
use mathlib.Core.Path.{◌≡◌, refl, ap, ◌∙◌}
use mathlib.Core.Bool.{true}
use mathlib.Core.List.{List}
use native.Mathlib.Decide.{dec_lt, ℕ_discrete}
use native.Mathlib.Omega.{arith}
use borrow.Author.Tests.{eq-eqb}
use Rattle.account_steps.specs.declared.Account.{Account}
use Rattle.book_layout.specs.Fields.{get, record_at, user_kind, used_field, first_user_field}
use Rattle.book_records.specs.declared.UserRecord.{UserRecord}
use Rattle.units.proofs.Folds.{sum-cong, sum_moved}
use Rattle.book_rules.specs.Book.{used, first_user, is_user, first_entry_of, hits, pointers_from, pointers_to, pointed_once}
use Rattle.book_rules.proofs.Faults.{used-within}
use Rattle.book_rules.proofs.Hits.{hits-same, hits-other}
use Rattle.book_rules.proofs.RecordKinds.{kind-index}
use Rattle.book_rules.proofs.Faultless.{Faultless}
use Rattle.call_keeps.proofs.Records.{UserAt}
use Rattle.call_keeps.proofs.Written.{UserEnrolled, AccountSet, EntryAdded, user_with}
use Rattle.call_keeps.proofs.Pointers.{from-head, from-user, from-same}
use Rattle.call_keeps.proofs.Links.{none-points}

-- the old records of b are pointed to in b' as often as before, and so the record at u once
abbrev pub OldPointers : List ℕ → List ℕ → Type 0
OldPointers b b' = (k : ℕ) → 1 ≤ k → k < used b → pointers_to b' k ≡ pointers_to b k

abbrev pub OneMore : List ℕ → List ℕ → Type 0
OneMore b b' = (k : ℕ) → 1 ≤ k → pointers_to b' k ≡ pointers_to b k + hits (used b) k

pub old-pointers : (b b' : List ℕ) → OneMore b b' → OldPointers b b'
old-pointers b b' more k lo hi = omega (arith, more k lo, hits-other (used b) k (omega arith))

pub new-pointed : (b b' : List ℕ) → Faultless b → OneMore b b' → pointed_once b' (used b) ≡ true
unfolding pointed_once
new-pointed b b' g more =
    let some = (used-within b g.used-fits).0 in
    eq-eqb (pointers_to b' (used b)) 1 (omega (arith, more (used b) some, none-points b g (used b) (omega arith), hits-same (used b) (used b) refl))

pub pointed-kept : (b b' : List ℕ) → OldPointers b b' → (k : ℕ) → 1 ≤ k → k < used b → pointed_once b k ≡ true → pointed_once b' k ≡ true
unfolding pointed_once
pointed-kept b b' same k lo hi h = rw (same k lo hi) h

-- a user enrolled: the head points to it, and it points to the first user before
module _ (b b' : List ℕ) (u : UserRecord) (g : Faultless b) (e : UserEnrolled b b' u) (at : UserAt b' (used b) u) where
  pub enrolled-pointers : u.next.0 ≡ first_user b → u.first.0 ≡ 0 → OneMore b b'
  unfolding pointers_to
  enrolled-pointers next first k lo =
      let some = (used-within b g.used-fits).0 in
      rw e.head.used-is
      (sum_moved (used b) 0 (pointers_from b k) (pointers_from b' k) (hits (used b) k) (hits (first_user b) k) some
      (λ j hi n. from-same b b' k j (omega arith) (e.others j (omega arith) (omega arith)))
      (rw (from-head b' k, from-head b k, e.head.first-is) (omega arith))
      (from-user b' k (used b) some at.kind ∙ rw (at.next, at.first, next, first) (omega (arith, hits-other 0 k (omega arith)))))

-- another account: nothing moves
module _ (b b' : List ℕ) (i : ℕ) (a : Account) (h : is_user b i ≡ true) (s : AccountSet b b' i a)
    (at : UserAt b' i (user_with b i (first_entry_of b i) a)) where
  pub set-head : record_at b' 0 ≡ record_at b 0
  set-head = s.others 0 (omega (arith, (kind-index b user_kind i h).0))

  pub set-used : used b' ≡ used b
  unfolding used
  set-used = ap (get used_field) set-head

  pub set-first-user : first_user b' ≡ first_user b
  unfolding first_user
  set-first-user = ap (get first_user_field) set-head

  from-set : (k j : ℕ) → pointers_from b' k j ≡ pointers_from b k j
  from-set k j = by_place (dec_lt 0 j) (ℕ_discrete j i)
    where
      by_place : Dec (0 < j) → Dec (j ≡ i) → pointers_from b' k j ≡ pointers_from b k j
      by_place (no n) d = let head : j ≡ 0 = omega (arith, n) in rw (head, from-head b' k, from-head b k, set-first-user)
      by_place (yes lo) (no n) = from-same b b' k j lo (s.others j n)
      by_place (yes lo) (yes e) =
          let place = kind-index b user_kind i h in
          rw (e, from-user b' k i place.0 at.kind, from-user b k i place.0 place.1.1, at.next, at.first)

  pub set-pointers : (k : ℕ) → pointers_to b' k ≡ pointers_to b k
  unfolding pointers_to
  set-pointers k = rw set-used (sum-cong (used b) (pointers_from b' k) (pointers_from b k) (λ j hi. from-set k j))

-- an entry added: its user points to it, and it points to the first entry before
module _ (b b' : List ℕ) (i : ℕ) (a : Account) (entry : List ℕ) (g : Faultless b) (h : is_user b i ≡ true) (e : EntryAdded b b' i a entry)
    (at : UserAt b' i (user_with b i (used b) a)) where
  from-added : (k j : ℕ) → j < used b → (j ≡ i → ⊥) → pointers_from b' k j ≡ pointers_from b k j
  from-added k j hi n = by_place (dec_lt 0 j)
    where
      by_place : Dec (0 < j) → pointers_from b' k j ≡ pointers_from b k j
      by_place (yes lo) = from-same b b' k j lo (e.others j lo n (omega arith))
      by_place (no m) = let head : j ≡ 0 = omega (arith, m) in rw (head, from-head b' k, from-head b k, e.head.first-is)

  pub added-pointers : ((k : ℕ) → pointers_from b' k (used b) ≡ hits (first_entry_of b i) k) → OneMore b b'
  unfolding pointers_to
  added-pointers new k lo =
      let place = kind-index b user_kind i h in
      rw e.head.used-is
      (sum_moved (used b) i (pointers_from b k) (pointers_from b' k) (hits (used b) k) (hits (first_entry_of b i) k) place.1.0
      (λ j hi n. from-added k j hi n)
      (rw (from-user b' k i place.0 at.kind, from-user b k i place.0 place.1.1, at.next, at.first) (omega arith))
      (new k))
