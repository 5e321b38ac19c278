-- The pointers of a record by its two fields are those of the rule, for every target but the head.
use Prim.Native.Nat.{ℕ, ◌+◌, ◌≤◌, ◌<◌}
use mathlib.Core.Path.{◌≡◌, refl, ap, ◌∙◌}
use mathlib.Core.Bool.{Bool, true, false, cond, ◌||◌}
use mathlib.Core.List.{List}
use native.Mathlib.Omega.{arith}
use native.Mathlib.Decide.{dec_lt}
use borrow.Author.Tests.{ne_eqb, lt-ltb}
use lib.Dec.{eqb}
use Rattle.units.specs.Folds.{sum_below}
use Rattle.units.proofs.Folds.{sum-cong}
use Rattle.book_layout.specs.Fields.{user_kind}
use Rattle.book_rules.specs.Book.{used, first_user, kind_at, entry_kind, next_of, first_entry_of, hits, pointers_from, pointers_to}
use Rattle.check_pointers.specs.InnerPointers.{next_pointer, first_pointer}
use Rattle.book_rules.proofs.Hits.{hits-other}

-- how often the two fields of record j lead to record m
abbrev pub pointed : List ℕ → ℕ → ℕ → ℕ
pointed b m j = hits (next_pointer b j) m + hits (first_pointer b j) m

-- the rule's cases, for a target that no null pointer leads to
by_tests : (head user entry : Bool) (start next first m : ℕ) → hits 0 m ≡ 0
    → hits (cond head start (cond (user || entry) next 0)) m + hits (cond head 0 (cond user first 0)) m
    ≡ cond head (hits start m) (cond user (hits next m + hits first m) (cond entry (hits next m) 0))
by_tests true user entry start next first m z = omega arith
by_tests false true entry start next first m z = refl
by_tests false false true start next first m z = omega arith
by_tests false false false start next first m z = omega arith

not-head : (b : List ℕ) (j : ℕ) → first_pointer b j ≡ cond (eqb j 0) 0 (cond (eqb (kind_at b j) user_kind) (first_entry_of b j) 0)
unfolding first_pointer
not-head b j = by_index (dec_lt 0 j)
  where
    by_index : Dec (0 < j) → first_pointer b j ≡ cond (eqb j 0) 0 (cond (eqb (kind_at b j) user_kind) (first_entry_of b j) 0)
    by_index (yes h) = let n : j ≡ 0 → ⊥ = omega arith in rw (lt-ltb 0 j h, ne_eqb j 0 n)
    by_index (no h) = let e : j ≡ 0 = omega (arith, h) in rw e

pointed-from : (b : List ℕ) (m j : ℕ) → 1 ≤ m → pointed b m j ≡ pointers_from b m j
unfolding next_pointer pointers_from
pointed-from b m j h =
    let null : hits 0 m ≡ 0 = hits-other 0 m (omega arith) in
    ap (λ (p : ℕ). hits (next_pointer b j) m + hits p m) (not-head b j)
    ∙ by_tests (eqb j 0) (eqb (kind_at b j) user_kind) (entry_kind (kind_at b j))
    (first_user b) (next_of b j) (first_entry_of b j) m null

pub tally-all : (b : List ℕ) (m : ℕ) → 1 ≤ m → sum_below (used b) (pointed b m) ≡ pointers_to b m
unfolding pointers_to
tally-all b m h = sum-cong (used b) (pointed b m) (pointers_from b m) (λ j _. pointed-from b m j h)
