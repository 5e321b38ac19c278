-- Whether a pointer leads to a record, as a number.
use Prim.Native.Nat.{ℕ, ◌≤◌}
use mathlib.Core.Path.{◌≡◌}
use native.Mathlib.Omega.{arith}
use borrow.Author.Tests.{eq-eqb, ne_eqb}
use lib.Dec.{eqb}
use Rattle.units.proofs.Bools.{cond-capped}
use Rattle.book_rules.specs.Book.{hits}

pub hits-same : (p i : ℕ) → p ≡ i → hits p i ≡ 1
unfolding hits
hits-same p i e = rw (eq-eqb p i e)

pub hits-other : (p i : ℕ) → (p ≡ i → ⊥) → hits p i ≡ 0
unfolding hits
hits-other p i n = rw (ne_eqb p i n)

pub hits-at-most : (p i : ℕ) → hits p i ≤ 1
unfolding hits
hits-at-most p i = cond-capped (eqb p i) (omega arith) (omega arith)
