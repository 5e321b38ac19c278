-- The test that a number lies in a range, from the facts that a `match` with ranges leaves: `n < low`, or `low ≤ n` and
-- `n < high + 1`, or `high + 1 ≤ n`.
use Prim.Native.Nat.{ℕ, ◌+◌, ◌≤◌, ◌<◌}
use mathlib.Core.Path.{◌≡◌}
use mathlib.Core.Bool.{true, false, ◌&&◌, and-false}
use native.Mathlib.Omega.{arith}
use lib.Dec.{leb}
use borrow.Author.Tests.{le-leb, lt-leb}

pub within : (low high : ℕ) {n : ℕ} → low ≤ n → n < high + 1 → (leb low n && leb n high) ≡ true
within low high {n} h k = rw (le-leb low n h, le-leb n high (omega arith))

pub under : (low high : ℕ) {n : ℕ} → n < low → (leb low n && leb n high) ≡ false
under low high {n} h = rw (lt-leb low n h)

pub over : (low high : ℕ) {n : ℕ} → high + 1 ≤ n → (leb low n && leb n high) ≡ false
over low high {n} h = rw (lt-leb n high (omega arith), and-false)
