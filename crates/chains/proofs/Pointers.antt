-- "Each record but the head is pointed to exactly once": what points to a user is the head or a user, and what points to an
-- entry is its owner's first or the next of an entry of the same owner.
use Prim.Native.Nat.{ℕ, zero, suc, ◌+◌, ◌≤◌, ◌<◌}
use mathlib.Core.Path.{◌≡◌, refl, sym, subst, ◌∙◌, ap}
use mathlib.Core.Bool.{Bool, true, false, cond}
use mathlib.Core.Logic.{◌⊎◌, inl, inr, ⊎_elim, ⊎_map}
use mathlib.Core.List.{List}
use native.Mathlib.Decide.{dec_lt}
use native.Mathlib.Omega.{arith}
use lib.Dec.{eqb}
use borrow.Author.Tests.{eqb-true, eqb-false}
use Rattle.units.specs.Folds.{sum_below}
use Rattle.book_layout.specs.Fields.{user_kind}
use Rattle.book_rules.specs.Book.{used, first_user, kind_at, entry_kind, is_user, is_entry, owner_of, next_of, first_entry_of, hits, pointers_from, pointers_to, pointed_once}
use Rattle.book_rules.proofs.RecordKinds.{has-kind, user-index, entry-of-kind, entry-index, not-both}
use Rattle.book_rules.proofs.Faultless.{Faultless}
use Rattle.chains.proofs.Links.{Owned, first-user, user-next, first_entry, entry-links, entry_next}

-- a sum that is not zero has a term that is not
some-term : (n : ℕ) (f : ℕ → ℕ) → 1 ≤ sum_below n f → (j : ℕ) × ((j < n) × (1 ≤ f j))
unfolding sum_below
some-term zero f h = let z : ⊥ = omega arith in absurd z
some-term (suc n) f h = either (some-term n f) (dec_lt 0 (f n))
  where
    either : (1 ≤ sum_below n f → (j : ℕ) × ((j < n) × (1 ≤ f j))) → Dec (0 < f n) → (j : ℕ) × ((j < suc n) × (1 ≤ f j))
    either below (yes last) = (n, (omega arith, last))
    either below (no m) = let t = below (omega (arith, m)) in (t.0, (omega (arith, t.1), t.1.1))

hit-is : (pointer i : ℕ) → 1 ≤ hits pointer i → pointer ≡ i
unfolding hits
hit-is pointer i h = by-test (eqb pointer i) refl
  where
    by-test : (t : Bool) → eqb pointer i ≡ t → pointer ≡ i
    by-test true e = eqb-true pointer i e
    by-test false e = let z : 1 ≤ 0 = rw e at h in let n : ⊥ = omega arith in absurd n

-- the ways in which record j points to record i
data Points (b : List ℕ) (i j : ℕ) : Type 0 where
  by-head : first_user b ≡ i → Points b i j
  by-user : is_user b j ≡ true → next_of b j ≡ i → Points b i j
  by_first : is_user b j ≡ true → first_entry_of b j ≡ i → Points b i j
  by-entry : is_entry b j ≡ true → next_of b j ≡ i → Points b i j

-- one of two pointers of a user, or the one of an entry
one_of : (p q i : ℕ) → 1 ≤ hits p i + hits q i → (p ≡ i) ⊎ (q ≡ i)
one_of p q i h = either (dec_lt 0 (hits p i))
  where
    either : Dec (0 < hits p i) → (p ≡ i) ⊎ (q ≡ i)
    either (yes t) = inl (hit-is p i t)
    either (no m) = inr (hit-is q i (omega (arith, m)))

module _ (b : List ℕ) (i j : ℕ) (l : j < used b) where
  points-entry : 1 ≤ j → 1 ≤ cond (entry_kind (kind_at b j)) (hits (next_of b j) i) 0 → Points b i j
  points-entry lo h = by-test (entry_kind (kind_at b j)) refl
    where
      by-test : (t : Bool) → (entry_kind (kind_at b j)) ≡ t → Points b i j
      by-test true e = by-entry (entry-of-kind b j lo l e) (hit-is (next_of b j) i (rw e at h))
      by-test false e = let z : 1 ≤ 0 = rw e at h in let n : ⊥ = omega arith in absurd n

  points : 1 ≤ pointers_from b i j → Points b i j
  unfolding pointers_from
  points h = by_index (eqb j 0) refl
    where
      by_kind : 1 ≤ j → (t : Bool) → eqb (kind_at b j) user_kind ≡ t → eqb j 0 ≡ false → Points b i j
      by_kind lo true u e =
          let user = has-kind b user_kind j lo l (eqb-true (kind_at b j) user_kind u) in
          ⊎_elim (λ (n : next_of b j ≡ i). by-user user n) (λ (n : first_entry_of b j ≡ i). by_first user n)
          (one_of (next_of b j) (first_entry_of b j) i (rw (e, u) at h))
      by_kind lo false u e = points-entry lo (rw (e, u) at h)

      by_index : (t : Bool) → eqb j 0 ≡ t → Points b i j
      by_index true e = by-head (hit-is (first_user b) i (rw e at h))
      by_index false e = let apart = eqb-false j 0 e in by_kind (omega arith) (eqb (kind_at b j) user_kind) refl e

pointed : (b : List ℕ) (i : ℕ) → pointed_once b i ≡ true → (j : ℕ) × Points b i j
unfolding pointed_once pointers_to
pointed b i h =
    let once : pointers_to b i ≡ 1 = eqb-true (pointers_to b i) 1 h in
    let t = some-term (used b) (pointers_from b i) (omega arith) in
    (t.0, points b i t.0 t.1.0 t.1.1)

module _ (b : List ℕ) (f : Faultless b) where
  -- the next of an entry is no user, and neither is a user's first entry; the next of a user is no entry
  owned-no-user : (i e k : ℕ) → 1 ≤ k → (e ≡ 0) ⊎ Owned b i e → e ≡ k → is_user b k ≡ true → ⊥
  owned-no-user i e k lo (inl z) p u = omega arith
  owned-no-user i e k lo (inr o) p u = not-both b k u (subst (λ x. is_entry b x ≡ true) p o.entry)

  user-no-end : (u k : ℕ) → 1 ≤ k → (u ≡ 0) ⊎ (is_user b u ≡ true) → u ≡ k → is_entry b k ≡ true → ⊥
  user-no-end u k lo (inl z) p e = omega arith
  user-no-end u k lo (inr t) p e = not-both b k (subst (λ x. is_user b x ≡ true) p t) e

  -- a user is the head's first or the next of a user
  pub user-pointed : (i : ℕ) → is_user b i ≡ true → (first_user b ≡ i) ⊎ ((j : ℕ) × ((is_user b j ≡ true) × (next_of b j ≡ i)))
  user-pointed i u = by_way (pointed b i (f.user i u).pointed).0 (pointed b i (f.user i u).pointed).1
    where
      lo : 1 ≤ i
      lo = (user-index b i u).0

      by_way : (j : ℕ) → Points b i j → (first_user b ≡ i) ⊎ ((j : ℕ) × ((is_user b j ≡ true) × (next_of b j ≡ i)))
      by_way j (by-head p) = inl p
      by_way j (by-user v p) = inr (j, (v, p))
      by_way j (by_first v p) = absurd (owned-no-user j (first_entry_of b j) i lo (first_entry b f j v) p u)
      by_way j (by-entry e p) = absurd (owned-no-user (owner_of b j) (next_of b j) i lo (⊎_map (λ z. z) (λ q. q.0) (entry_next b f j e)) p u)

  -- an entry is its owner's first or the next of an entry of the same owner
  pub entry-pointed : (e : ℕ) → is_entry b e ≡ true → (first_entry_of b (owner_of b e) ≡ e) ⊎ ((j : ℕ) × (Owned b (owner_of b e) j × (next_of b j ≡ e)))
  entry-pointed e h = by_way (pointed b e (entry-links b f e h).pointed).0 (pointed b e (entry-links b f e h).pointed).1
    where
      lo : 1 ≤ e
      lo = (entry-index b e h).0

      -- the owner that the pointer's place shows is the entry's own
      owner-is : (i k : ℕ) → (k ≡ 0) ⊎ Owned b i k → k ≡ e → owner_of b e ≡ i
      owner-is i k (inl z) p = let n : ⊥ = omega (arith, lo) in absurd n
      owner-is i k (inr o) p = subst (λ x. owner_of b x ≡ i) p o.owner

      by_way : (j : ℕ) → Points b e j → (first_entry_of b (owner_of b e) ≡ e) ⊎ ((j : ℕ) × (Owned b (owner_of b e) j × (next_of b j ≡ e)))
      by_way j (by-head p) = absurd (user-no-end (first_user b) e lo (first-user b f) p h)
      by_way j (by-user v p) = absurd (user-no-end (next_of b j) e lo (⊎_map (λ z. z) (λ q. q.0) (user-next b f j v)) p h)
      by_way j (by_first v p) = inl (ap (first_entry_of b) (owner-is j (first_entry_of b j) (first_entry b f j v) p) ∙ p)
      by_way j (by-entry k p) =
          inr (j, (record { entry = k; owner = sym (owner-is (owner_of b j) (next_of b j) (⊎_map (λ z. z) (λ q. q.0) (entry_next b f j k)) p) }, p))
