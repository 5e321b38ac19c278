-- A set of numbers in a table with open addressing: for each number there is an order in which places are tried, and it stands at
-- the first of them that was empty. 0 is an empty place and no number.
use Rattle.std.specs.Prelude.{ℕ, zero, suc, ◌+◌, ◌*◌, ◌/◌, ◌%◌, ◌<◌, min, ◌≡◌, Bool, true, List, length, get_or}

-- places for the numbers of the 800 records that a book can have
abbrev pub places : ℕ
places = 2048

-- 2^32, and its golden section
abbrev pub word_size : ℕ
word_size = 4294967296

abbrev pub golden : ℕ
golden = 2654435769

-- places are tried in runs of 4 neighbours
abbrev pub run_length : ℕ
run_length = 4

unfoldable pub remixed : ℕ → ℕ
remixed m = (m * golden + 1) % word_size

-- the number, mixed r times
unfoldable pub mixed : ℕ → ℕ → ℕ
mixed n zero = n
mixed n (suc r) = remixed (mixed n r)

-- the place as far along the table as a mixed number is along 2^32
unfoldable pub start_of : ℕ → ℕ → ℕ
start_of places m = m * min places word_size / word_size

-- a place of run r, which starts from the number mixed r + 1 times; after the last place of the table comes the first
unfoldable pub place : ℕ → ℕ → ℕ → ℕ → ℕ
place places n r step = (start_of places (mixed n (r + 1)) + step) % places

-- the k-th place that is tried for a number, counted from 0
unfoldable pub probe : ℕ → ℕ → ℕ → ℕ
probe places n k = place places n (k / run_length) (k % run_length)

-- the number stands at its k-th place, and none of the places that are tried before is empty
pub record HeldAt (t : List ℕ) (n k : ℕ) : Type 0 where
  pub some : 0 < n
  pub there : get_or t (probe (length t) n k) 0 ≡ n
  pub full : (j : ℕ) → j < k → get_or t (probe (length t) n j) 0 ≡ 0 → ⊥

-- the table holds the number
pub data Held (t : List ℕ) (n : ℕ) : Type 0 where
  stands : (k : ℕ) → HeldAt t n k → Held t n

-- a number that was not held is held, and what was held still is
pub record Inserted (t : List ℕ) (n : ℕ) (after : List ℕ) : Type 0 where
  pub fresh : Held t n → ⊥
  pub held : Held after n
  pub kept : (m : ℕ) → Held t m → Held after m

-- a place of the table
pub record PlaceIs (n places r : ℕ) : Type 0 where
  pub is : r ≡ n
  pub within : r < places

-- a number that is put into the table, where it is told so
pub record Put (t : List ℕ) (n : ℕ) (after : List ℕ) (r : Bool) : Type 0 where
  pub size : length after ≡ length t
  pub inserted : r ≡ true → Inserted t n after
