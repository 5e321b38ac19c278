-- The runs of a year by their bits: no year pays more than two halves, and a run that is made joins those made before it.
use Prim.Native.Nat.{ℕ, ◌+◌, ◌/◌, ◌%◌, ◌≤◌, ◌<◌}
use mathlib.Core.Path.{◌≡◌, refl, sym, ap, subst}
use mathlib.Core.Bool.{Bool, true, false, cond, ◌&&◌, true≢false}
use native.Mathlib.Omega.{arith}
use borrow.Author.Tests.{eqb-true, eqb-false, eq-eqb, ne_eqb}
use lib.Dec.{leb, eqb}
use Rattle.units.proofs.Bools.{cond-capped}
use Rattle.calendar.specs.ElectionAndAdvances.{june, october, january, halves, halves_paid, halves_count}
use Rattle.account_steps.specs.declared.Account.{Account}
use Rattle.book_rules.specs.Book.{halves_of, is_made, run_made, halves_made, is_run}

-- the halves of the three runs of a year
two-halves-by : (mid late none : Bool)
    → halves_count (cond mid (halves false false) (cond late (halves false false) (cond none (halves false false) (halves true false))))
    + halves_count (cond mid (halves true true) (cond late (halves false false) (cond none (halves false false) (halves false true))))
    + halves_count (cond mid (halves false false) (cond late (halves true true) (cond none (halves false false) (halves false false))))
    ≤ 2
unfolding halves_count
two-halves-by true late none = omega arith
two-halves-by false true none = omega arith
two-halves-by false false true = omega arith
two-halves-by false false false = omega arith

two-halves : (activation month year : ℕ)
    → halves_count (halves_paid activation month year june) + halves_count (halves_paid activation month year october)
    + halves_count (halves_paid activation month year january)
    ≤ 2
unfolding halves_paid
two-halves activation month year =
    two-halves-by (eqb year activation && (leb 3 month && leb month 8)) (eqb year activation && (leb 9 month && leb month 11)) (eqb year activation && eqb month 12)

-- in a year that is not the activation year June pays the first half, October the second, and January none
pub other-year : (activation month year run : ℕ) → (year ≡ activation → ⊥) → halves_paid activation month year run ≡ halves (eqb run june) (eqb run october)
unfolding halves_paid
other-year activation month year run other = rw (ne_eqb year activation other)

-- a run that is not made pays nothing
made-at-most : (a : Account) (run : ℕ) → halves_made a run ≤ halves_count (halves_of a run)
unfolding halves_made
made-at-most a run = cond-capped (run_made a run) (omega arith) (omega arith)

pub made-two-halves : (a : Account) → halves_made a june + halves_made a october + halves_made a january ≤ 2
unfolding halves_of
made-two-halves a =
    omega (arith, made-at-most a june, made-at-most a october, made-at-most a january, two-halves a.details.year a.details.month a.open_year)

-- the three bits
pub data Run : ℕ → Type 0 where
  June : Run june
  October : Run october
  January : Run january

pub is-run : (run : ℕ) → is_run run ≡ true → Run run
unfolding is_run
is-run run h = by-june (eqb run june) refl
  where
    by-october : (t : Bool) → eqb run october ≡ t → eqb run june ≡ false → Run run
    by-october true e p = subst Run (sym (eqb-true run october e)) October
    by-october false e p = subst Run (sym (eqb-true run january (rw (p, e) at h))) January

    by-june : (t : Bool) → eqb run june ≡ t → Run run
    by-june true e = subst Run (sym (eqb-true run june e)) June
    by-june false e = by-october (eqb run october) refl e

-- the bit of a run in the runs made
abbrev bit : ℕ → ℕ → Bool
bit n run = is_made n run

pub bits_below : {run : ℕ} → Run run → (n : ℕ) → n < 8 → bit n run ≡ false → n + run < 8
unfolding is_made
bits_below June n l h = let out = eqb-false (n / june % 2) 1 h in omega arith
bits_below October n l h = let out = eqb-false (n / october % 2) 1 h in omega arith
bits_below January n l h = let out = eqb-false (n / january % 2) 1 h in omega arith

-- a bit that joins is set, and the others stay
bit-set : {run : ℕ} → Run run → (n : ℕ) → n < 8 → bit n run ≡ false → (n + run) / run % 2 ≡ 1
unfolding is_made
bit-set June n l h = let out = eqb-false (n / june % 2) 1 h in omega arith
bit-set October n l h = let out = eqb-false (n / october % 2) 1 h in omega arith
bit-set January n l h = let out = eqb-false (n / january % 2) 1 h in omega arith

bit-stays : {run other : ℕ} → Run run → Run other → (n : ℕ) → n < 8 → bit n run ≡ false → eqb run other ≡ false → (n + run) / other % 2 ≡ n / other % 2
unfolding is_made
bit-stays June June n l h d = absurd (true≢false d)
bit-stays June October n l h d =
    let out = eqb-false (n / june % 2) 1 h in
    let whole : (n + june) / october ≡ n / october = omega arith in
    ap (λ (k : ℕ). k % 2) whole
bit-stays June January n l h d =
    let out = eqb-false (n / june % 2) 1 h in
    let whole : (n + june) / january ≡ n / january = omega arith in
    ap (λ (k : ℕ). k % 2) whole
bit-stays October June n l h d = let out = eqb-false (n / october % 2) 1 h in omega arith
bit-stays October October n l h d = absurd (true≢false d)
bit-stays October January n l h d =
    let out = eqb-false (n / october % 2) 1 h in
    let whole : (n + october) / january ≡ n / january = omega arith in
    ap (λ (k : ℕ). k % 2) whole
bit-stays January June n l h d = let out = eqb-false (n / january % 2) 1 h in omega arith
bit-stays January October n l h d = let out = eqb-false (n / january % 2) 1 h in omega arith
bit-stays January January n l h d = absurd (true≢false d)

pub bit-joins : {run other : ℕ} → Run run → Run other → (n : ℕ) → n < 8 → bit n run ≡ false → bit (n + run) other ≡ cond (eqb run other) true (bit n other)
unfolding is_made
bit-joins {run} {other} r s n l h = by_value (eqb run other) refl
  where
    by_value : (t : Bool) → eqb run other ≡ t → bit (n + run) other ≡ cond (eqb run other) true (bit n other)
    by_value true e = rw (e, ← eqb-true run other e, eq-eqb ((n + run) / run % 2) 1 (bit-set r n l h))
    by_value false e = rw (e, bit-stays r s n l h e)
