-- "Each record but the head is pointed to exactly once": a record that is met takes the pointer that is due at it and holds
-- the one that is due next, so what is due and what the records still to be met hold lead to each of these once.
use Prim.Native.Nat.{ℕ, zero, suc, ◌+◌, ◌-◌, ◌≤◌, ◌<◌}
use mathlib.Core.Path.{◌≡◌, refl, sym, ap, ◌∙◌, subst}
use mathlib.Core.Bool.{Bool, true, false, cond, and-true}
use mathlib.Core.Logic.{◌⊎◌, inl, inr}
use mathlib.Core.List.{List}
use native.Mathlib.Decide.{dec_lt}
use native.Mathlib.Omega.{arith}
use borrow.Author.Tests.{eq-eqb, ne_eqb, lt-ltb}
use lib.Dec.{ltb}
use Rattle.units.specs.Folds.{sum_below}
use Rattle.units.proofs.Folds.{sum-cong, sum-none, sum-plus, sum-changed}
use Rattle.book_layout.specs.Fields.{user_kind}
use Rattle.book_rules.specs.Book.{used, first_user, kind_at, has_kind, is_user, is_entry, owner_of, next_of, hits, pointers_to, pointed_once}
use Rattle.book_rules.proofs.RecordKinds.{kind-from-one, kind-below, kind-is, entry-kind, entry-index, entry-no-user}
use Rattle.check_pointers.specs.InnerPointers.{next_pointer, first_pointer}
use Rattle.book_rules.proofs.Hits.{hits-same, hits-other}
use Rattle.check_pointers.proofs.Tallies.{tally-all}
use Rattle.check_descent.specs.InnerDescent.{met, due_user, due_entry, MetUser, MetEntry, AllMet}
use Rattle.check_descent.proofs.Steps.{met_at, user-moves, user-keeps-entry, entry-keeps-user, entry-moves, entry-keeps-other}
use Rattle.check_descent.proofs.Entries.{entry-ended}

-- of the numbers below n one is k
sum-hits : (n k : ℕ) → k < n → sum_below n (λ j. hits j k) ≡ 1
sum-hits n k l =
    let alone = sum-changed n k (λ j. hits j k) (λ j. 0) l (λ j m apart. hits-other j k apart) in
    omega (arith, alone, hits-same k k refl, sum-none n (λ j. 0) (λ j m. refl))

-- WHAT A RECORD HOLDS
next-of-user : (b : List ℕ) (i : ℕ) → is_user b i ≡ true → next_pointer b i ≡ next_of b i
unfolding next_pointer
next-of-user b i u = let lo = kind-from-one b user_kind i u in rw (ne_eqb i 0 (omega arith), kind-is b user_kind i u)

next-of-entry : (b : List ℕ) (i : ℕ) → is_entry b i ≡ true → next_pointer b i ≡ next_of b i
unfolding next_pointer
next-of-entry b i h =
    let lo = (entry-index b i h).0 in
    rw (ne_eqb i 0 (omega arith), ne_eqb (kind_at b i) user_kind (entry-no-user b i h), entry-kind b i h)

-- how often the next of record j, and what is due of the user o once d records are met, lead to record k
abbrev held : List ℕ → ℕ → ℕ → ℕ
held b k j = hits (next_pointer b j) k

abbrev pending : List ℕ → ℕ → ℕ → ℕ → ℕ
pending b k d o = hits (cond (is_user b o) (due_entry b o d) 0) k

-- how often all that is due leads to record k
abbrev due_at : List ℕ → ℕ → ℕ → ℕ
due_at b k d = hits (due_user b d) k + sum_below (used b) (pending b k d)

pending-of-user : (b : List ℕ) (k d o : ℕ) → is_user b o ≡ true → pending b k d o ≡ hits (due_entry b o d) k
pending-of-user b k d o u = rw u

pending-kept : (b : List ℕ) (k d o : ℕ) → due_entry b o (suc d) ≡ due_entry b o d → pending b k (suc d) o ≡ pending b k d o
pending-kept b k d o e = rw e

pending-first : (b : List ℕ) (k o : ℕ) → o < used b → pending b k 0 o ≡ hits (first_pointer b o) k
unfolding first_pointer has_kind due_entry
pending-first b k o l = rw (lt-ltb o (used b) l, and-true (ltb 0 o))

module _ (b : List ℕ) (p : AllMet b) (k : ℕ) (lo : 1 ≤ k) where
  -- the record n is met after d others
  taken : (n d : ℕ) → n + suc d ≡ used b → 1 ≤ n → due_at b k d + held b k n ≡ due_at b k (suc d) + hits n k
  taken n d e lo' = by-record (p.each d (omega arith))
    where
      here : met b d ≡ n
      here = met_at b n d e

      by-record : MetUser b d ⊎ MetEntry b d → due_at b k d + held b k n ≡ due_at b k (suc d) + hits n k
      by-record (inl m) =
          let user : is_user b n ≡ true = subst (λ i. is_user b i ≡ true) here m.user in
          let before : hits (due_user b d) k ≡ hits n k = ap (λ i. hits i k) (m.due ∙ here) in
          let next : due_user b (suc d) ≡ next_pointer b n = user-moves b d m ∙ ap (next_of b) here ∙ sym (next-of-user b n user) in
          let after : hits (due_user b (suc d)) k ≡ held b k n = ap (λ i. hits i k) next in
          let entries = sum-cong (used b) (pending b k (suc d)) (pending b k d) (λ o l. pending-kept b k d o (user-keeps-entry b d m o)) in
          omega arith
      by-record (inr m) =
          let o = owner_of b (met b d) in
          let entry : is_entry b n ≡ true = subst (λ i. is_entry b i ≡ true) here m.entry in
          let users : hits (due_user b (suc d)) k ≡ hits (due_user b d) k = ap (λ i. hits i k) (entry-keeps-user b d m) in
          let before : pending b k d o ≡ hits n k = pending-of-user b k d o m.owner ∙ ap (λ i. hits i k) (m.due ∙ here) in
          let next : due_entry b o (suc d) ≡ next_pointer b n = entry-moves b d m ∙ ap (next_of b) here ∙ sym (next-of-entry b n entry) in
          let after : pending b k (suc d) o ≡ held b k n = pending-of-user b k (suc d) o m.owner ∙ ap (λ i. hits i k) next in
          let moved = sum-changed (used b) o (pending b k d) (pending b k (suc d)) (kind-below b user_kind o m.owner)
          (λ j l apart. sym (pending-kept b k d j (entry-keeps-other b d m j (λ q. apart (sym q))))) in
          omega arith

  nothing-pending : (d : ℕ) → 1 + d ≡ used b → sum_below (used b) (pending b k d) ≡ 0
  nothing-pending d e = sum-none (used b) (pending b k d) (λ o l. by_kind o (is_user b o) refl)
    where
      none : hits 0 k ≡ 0
      none = hits-other 0 k (omega arith)

      by_kind : (o : ℕ) (t : Bool) → is_user b o ≡ t → pending b k d o ≡ 0
      by_kind o true u = rw (u, entry-ended b p o u d 1 e (omega arith) (kind-from-one b user_kind o u)) none
      by_kind o false u = rw u none

  -- what is due and what the records below n hold
  led-to : (n d : ℕ) → n + d ≡ used b → 1 ≤ n → due_at b k d + sum_below n (held b k) ≡ hits (first_user b) k + sum_below n (λ j. hits j k)
  unfolding sum_below next_pointer
  led-to zero d e l = let z : ⊥ = omega arith in absurd z
  led-to (suc n) d e l = by_place (dec_lt 0 n) (led-to n (suc d) (omega arith))
    where
      by_place : Dec (0 < n)
          → (1 ≤ n → due_at b k (suc d) + sum_below n (held b k) ≡ hits (first_user b) k + sum_below n (λ j. hits j k))
          → due_at b k d + (sum_below n (held b k) + held b k n) ≡ hits (first_user b) k + (sum_below n (λ j. hits j k) + hits n k)
      by_place (yes h) rest = omega (arith, taken n d (omega arith) h, rest h)
      by_place (no h) rest =
          let only : n ≡ 0 = omega (arith, h) in
          let last : used b - 1 ≡ d = omega arith in
          let users : due_user b d ≡ 0 = rw last at p.end in
          rw (only, users) (omega (arith, nothing-pending d (omega arith), hits-other 0 k (omega arith)))

  pub pointed-once : k < used b → pointed_once b k ≡ true
  unfolding pointed_once due_user
  pointed-once hi =
      let all = led-to (used b) 0 (omega arith) (omega arith) in
      let firsts = sum-cong (used b) (pending b k 0) (λ o. hits (first_pointer b o) k) (λ o l. pending-first b k o l) in
      let both = sum-plus (used b) (held b k) (λ o. hits (first_pointer b o) k) in
      eq-eqb (pointers_to b k) 1 (omega (arith, all, firsts, both, tally-all b k lo, sum-hits (used b) k hi))
