-- The last decimal digit of a number.
use Prim.Native.Nat.{ℕ, ◌+◌, ◌%◌, ◌<◌}
use mathlib.Core.Path.{◌≡◌, refl}
use mathlib.Core.List.{[], ◌∷◌}
use native.Mathlib.Omega.{arith}
use borrow.Author.Tests.{lt-ltb}
use Rattle.io.specs.Digits.{last_digits}

pub last_digit : (n : ℕ) → last_digits 10 1 n ≡ (48 + n % 10) ∷ []
last_digit n = let small : n % 10 < 10 = omega arith in rw (lt-ltb (n % 10) 10 small) refl
