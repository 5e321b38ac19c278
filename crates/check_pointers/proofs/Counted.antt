-- What each record that is passed adds to the count of a target: as often as it points there by the rule.
use Prim.Native.Nat.{ℕ, ◌+◌, ◌*◌, ◌≤◌}
use mathlib.Core.Path.{◌≡◌, sym, ap, ◌∙◌}
use mathlib.Core.Bool.{Bool, true, false}
use mathlib.Core.List.{List}
use native.Mathlib.Omega.{arith}
use borrow.Author.Tests.{eq-eqb, ne_eqb}
use lib.Dec.{eqb}
use Rattle.units.specs.declared.RecordIndex.{RecordIndex}
use Rattle.units.specs.Units.{record_index}
use Rattle.units.specs.Folds.{sum_below}
use Rattle.units.proofs.Bools.{cond-capped}
use Rattle.units.proofs.Folds.{sum-zero, sum_step, sum-capped}
use Rattle.book_layout.specs.Fields.{get, record_at, next_field, kind_field, first_entry_field, user_kind}
use Rattle.book_rules.specs.Book.{first_user, kind_at, entry_kind, next_of, first_entry_of, hits, pointers_from}
use Rattle.book_rules.proofs.Hits.{hits-at-most}

module _ (b : List ℕ) (m : ℕ) where
  from-capped : (j : ℕ) → pointers_from b m j ≤ 2
  unfolding pointers_from
  from-capped j =
      let start = hits-at-most (first_user b) m in
      let next = hits-at-most (next_of b j) m in
      let first = hits-at-most (first_entry_of b j) m in
      cond-capped (eqb j 0) (omega arith) (cond-capped (eqb (kind_at b j) user_kind) (omega arith) (cond-capped (entry_kind (kind_at b j)) (omega arith) (omega arith)))

  pub counted-bound : (j : ℕ) → sum_below j (pointers_from b m) ≤ 2 * j
  counted-bound j = sum-capped j 2 (pointers_from b m) (λ i _. from-capped i)

  -- the head points to the first user
  pub counted-head : {first : RecordIndex} {x y : ℕ} → first ≡ record_index (first_user b) → x ≡ 0 → y ≡ x + hits first.0 m → y ≡ sum_below 1 (pointers_from b m)
  unfolding pointers_from
  counted-head f p q =
      let s : sum_below 1 (pointers_from b m) ≡ sum_below 0 (pointers_from b m) + hits (first_user b) m = sum_step 0 (pointers_from b m) in
      let z = sum-zero (pointers_from b m) in
      let h = ap (λ (k : RecordIndex). hits k.0 m) f in
      omega arith

  -- the record j, whose bytes are r
  module _ (j : ℕ) (lo : 1 ≤ j) {r : List ℕ} {kind x : ℕ} (whole : r ≡ record_at b j) (k : kind ≡ get kind_field r) (before : x ≡ sum_below j (pointers_from b m)) where
    not-head : j ≡ 0 → ⊥
    not-head = omega arith

    kind-here : kind_at b j ≡ kind
    unfolding kind_at
    kind-here = sym (k ∙ ap (get kind_field) whole)

    step : {y : ℕ} → y ≡ x + pointers_from b m j → y ≡ sum_below (j + 1) (pointers_from b m)
    step e = let s = sum_step j (pointers_from b m) in omega arith

    next_here : {next : RecordIndex} → next.0 ≡ get next_field r → hits next.0 m ≡ hits (next_of b j) m
    unfolding next_of
    next_here n = ap (λ (i : ℕ). hits i m) n ∙ ap (λ (l : List ℕ). hits (get next_field l) m) whole

    first-here : {first : RecordIndex} → first.0 ≡ get first_entry_field r → hits first.0 m ≡ hits (first_entry_of b j) m
    unfolding first_entry_of
    first-here f = ap (λ (i : ℕ). hits i m) f ∙ ap (λ (l : List ℕ). hits (get first_entry_field l) m) whole

    of-user : kind ≡ user_kind → pointers_from b m j ≡ hits (next_of b j) m + hits (first_entry_of b j) m
    unfolding pointers_from
    of-user u = rw (ne_eqb j 0 not-head, eq-eqb (kind_at b j) user_kind (kind-here ∙ u))

    of_entry : (kind ≡ user_kind → ⊥) → entry_kind kind ≡ true → pointers_from b m j ≡ hits (next_of b j) m
    unfolding pointers_from
    of_entry u e = rw (ne_eqb j 0 not-head, kind-here, ne_eqb kind user_kind u, e)

    of-unknown : (kind ≡ user_kind → ⊥) → entry_kind kind ≡ false → pointers_from b m j ≡ 0
    unfolding pointers_from
    of-unknown u e = rw (ne_eqb j 0 not-head, kind-here, ne_eqb kind user_kind u, e)

    pub counted-user : {next first : RecordIndex} {y z : ℕ} → kind ≡ user_kind → next.0 ≡ get next_field r → first.0 ≡ get first_entry_field r
        → y ≡ x + hits next.0 m → z ≡ y + hits first.0 m → z ≡ sum_below (j + 1) (pointers_from b m)
    counted-user u n f p q = let a = next_here n in let c = first-here f in let w = of-user u in step (omega arith)

    pub counted-entry : {entry : Bool} {next : RecordIndex} {y : ℕ} → (kind ≡ user_kind → ⊥) → entry ≡ entry_kind kind → entry ≡ true → next.0 ≡ get next_field r
        → y ≡ x + hits next.0 m → y ≡ sum_below (j + 1) (pointers_from b m)
    counted-entry u e t n p = let a = next_here n in let w = of_entry u (sym e ∙ t) in step (omega arith)

    pub counted-unknown : {entry : Bool} → (kind ≡ user_kind → ⊥) → entry ≡ entry_kind kind → entry ≡ false → x ≡ sum_below (j + 1) (pointers_from b m)
    counted-unknown u e t = let w = of-unknown u (sym e ∙ t) in step (omega arith)
