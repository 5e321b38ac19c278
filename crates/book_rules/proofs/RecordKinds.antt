-- What it means that a record is a user or an entry: an index from 1 to u, and the kind.
use Prim.Native.Nat.{ℕ, ◌≤◌, ◌<◌}
use mathlib.Core.Path.{◌≡◌, refl, sym, ◌∙◌}
use mathlib.Core.Bool.{Bool, true, false, ◌&&◌}
use mathlib.Core.Logic.{◌⊎◌, inl, inr, ⊎_elim}
use mathlib.Core.List.{List}
use native.Mathlib.Omega.{arith}
use borrow.Author.Tests.{ltb-true, lt-ltb, eq-eqb, eqb-true, eqb-false}
use lib.Dec.{ltb, eqb}
use Rattle.units.proofs.Bools.{and_left, and_right, or_cases}
use Rattle.book_layout.specs.Fields.{user_kind, advance_kind, closing_kind}
use Rattle.book_rules.specs.Book.{used, kind_at, has_kind, is_user, is_advance, is_closing, entry_kind, is_entry, keeps_year}

-- of a record below u the kind decides
kind-decides : (b : List ℕ) (kind i : ℕ) → 1 ≤ i → i < used b → has_kind b kind i ≡ eqb (kind_at b i) kind
unfolding has_kind
kind-decides b kind i p h = rw (lt-ltb 0 i p, lt-ltb i (used b) h)

pub has-kind : (b : List ℕ) (kind i : ℕ) → 1 ≤ i → i < used b → kind_at b i ≡ kind → has_kind b kind i ≡ true
has-kind b kind i p h e = kind-decides b kind i p h ∙ eq-eqb (kind_at b i) kind e

module _ (b : List ℕ) (kind i : ℕ) (k : has_kind b kind i ≡ true) where
  in-range : (ltb 0 i && ltb i (used b)) ≡ true
  unfolding has_kind
  in-range = and_left (ltb 0 i && ltb i (used b)) (eqb (kind_at b i) kind) k

  pub kind-from-one : 1 ≤ i
  kind-from-one = ltb-true 0 i (and_left (ltb 0 i) (ltb i (used b)) in-range)

  pub kind-below : i < used b
  kind-below = ltb-true i (used b) (and_right (ltb 0 i) (ltb i (used b)) in-range)

  pub kind-is : kind_at b i ≡ kind
  unfolding has_kind
  kind-is = eqb-true (kind_at b i) kind (and_right (ltb 0 i && ltb i (used b)) (eqb (kind_at b i) kind) k)

  -- the three together
  pub kind-index : (1 ≤ i) × ((i < used b) × (kind_at b i ≡ kind))
  kind-index = (kind-from-one, (kind-below, kind-is))

pub user-index : (b : List ℕ) (i : ℕ) → is_user b i ≡ true → (1 ≤ i) × (i < used b)
user-index b i u = (kind-from-one b user_kind i u, kind-below b user_kind i u)

-- a record has one kind
pub kinds-apart : (b : List ℕ) (k l i : ℕ) → (k ≡ l → ⊥) → has_kind b k i ≡ true → has_kind b l i ≡ false
kinds-apart b k l i apart h = by_value (has_kind b l i) refl
  where
    by_value : (t : Bool) → has_kind b l i ≡ t → has_kind b l i ≡ false
    by_value true q = absurd (apart (sym (kind-is b k i h) ∙ kind-is b l i q))
    by_value false q = q

-- an entry has one of the kinds of entries
module _ (b : List ℕ) (i : ℕ) (e : is_entry b i ≡ true) where
  entry-in-range : (ltb 0 i && ltb i (used b)) ≡ true
  unfolding is_entry
  entry-in-range = and_left (ltb 0 i && ltb i (used b)) (entry_kind (kind_at b i)) e

  pub entry-kind : entry_kind (kind_at b i) ≡ true
  unfolding is_entry
  entry-kind = and_right (ltb 0 i && ltb i (used b)) (entry_kind (kind_at b i)) e

  pub entry-index : (1 ≤ i) × (i < used b)
  entry-index = (ltb-true 0 i (and_left (ltb 0 i) (ltb i (used b)) entry-in-range), ltb-true i (used b) (and_right (ltb 0 i) (ltb i (used b)) entry-in-range))

  pub entry-cases : (is_advance b i ≡ true) ⊎ (is_closing b i ≡ true)
  unfolding entry_kind
  entry-cases =
      let at = entry-index in
      ⊎_elim (λ (a : eqb (kind_at b i) advance_kind ≡ true). inl (has-kind b advance_kind i at.0 at.1 (eqb-true (kind_at b i) advance_kind a)))
      (λ (c : eqb (kind_at b i) closing_kind ≡ true). inr (has-kind b closing_kind i at.0 at.1 (eqb-true (kind_at b i) closing_kind c)))
      (or_cases (eqb (kind_at b i) advance_kind) (eqb (kind_at b i) closing_kind) entry-kind)

pub entry-of-kind : (b : List ℕ) (i : ℕ) → 1 ≤ i → i < used b → entry_kind (kind_at b i) ≡ true → is_entry b i ≡ true
unfolding is_entry
entry-of-kind b i lo hi k = rw (lt-ltb 0 i lo, lt-ltb i (used b) hi) k

pub advance-entry : (b : List ℕ) (i : ℕ) → is_advance b i ≡ true → is_entry b i ≡ true
unfolding entry_kind
advance-entry b i a = entry-of-kind b i (kind-from-one b advance_kind i a) (kind-below b advance_kind i a) (rw (kind-is b advance_kind i a))

pub closing-entry : (b : List ℕ) (i : ℕ) → is_closing b i ≡ true → is_entry b i ≡ true
unfolding entry_kind
closing-entry b i c = entry-of-kind b i (kind-from-one b closing_kind i c) (kind-below b closing_kind i c) (rw (kind-is b closing_kind i c))

-- an entry keeps its year open or ends it
pub year-cases : (b : List ℕ) (i : ℕ) → is_entry b i ≡ true → (keeps_year b i ≡ true) ⊎ (is_closing b i ≡ true)
year-cases b i e = entry-cases b i e

-- an entry is no user
pub entry-no-user : (b : List ℕ) (i : ℕ) → is_entry b i ≡ true → kind_at b i ≡ user_kind → ⊥
entry-no-user b i e u =
    ⊎_elim (λ (a : is_advance b i ≡ true). omega (arith, kind-is b advance_kind i a)) (λ (c : is_closing b i ≡ true). omega (arith, kind-is b closing_kind i c))
    (entry-cases b i e)

pub not-both : (b : List ℕ) (i : ℕ) → is_user b i ≡ true → is_entry b i ≡ true → ⊥
not-both b i u e = entry-no-user b i e (kind-is b user_kind i u)

pub no-user : (b : List ℕ) (i : ℕ) → 1 ≤ i → i < used b → is_user b i ≡ false → kind_at b i ≡ user_kind → ⊥
no-user b i p h n = eqb-false (kind_at b i) user_kind (sym (kind-decides b user_kind i p h) ∙ n)
