-- "Units" of document 01: "Numbers in the layouts are little-endian and unsigned unless marked; a range "0–3" names bytes."
use Rattle.std.specs.Prelude.{ℕ, zero, suc, ◌+◌, ◌*◌, ◌/◌, ◌%◌, Bool, List, [], ◌∷◌, ◌++◌, eqb}
use lib.ListN.{take, drop, get_or}
use Rattle.units.specs.Folds.{all_below}

-- the number that a list of bytes stands for, and the w bytes that stand for a number
unfoldable pub little_endian : List ℕ → ℕ
little_endian [] = 0
little_endian (b ∷ bs) = b + 256 * little_endian bs

unfoldable pub bytes_of : ℕ → ℕ → List ℕ
bytes_of zero n = []
bytes_of (suc w) n = n % 256 ∷ bytes_of w (n / 256)

-- the w bytes of s from `at` on, those past the end left out, and the number that they stand for
unfoldable pub part : ℕ → ℕ → List ℕ → List ℕ
part w at s = take w (drop at s)

unfoldable pub number : ℕ → ℕ → List ℕ → ℕ
number w at s = little_endian (part w at s)

-- s with the bytes bs from `at` on
unfoldable pub stored : ℕ → List ℕ → List ℕ → List ℕ
stored at bs s = take at s ++ (bs ++ drop (at + lib.ListN.length bs) s)

-- n bytes of s from a place on are zero; one past the end is
unfoldable pub zeros : ℕ → ℕ → List ℕ → Bool
zeros from n s = all_below n (λ i. eqb (get_or s (from + i) 0) 0)
