-- What holds of the operator's text, its reader and its writer (document 02, ticket 2).
use Rattle.std.specs.Prelude.{ℕ, ◌+◌, ◌*◌, ◌≤◌, ◌<◌, ◌≡◌, true, List, ◌++◌, length, get_or, take}
use Rattle.units.specs.Limits.{max_kwh}
use Rattle.sheet.specs.YearSheet.{sheet_length, word}
use Rattle.sheet_text.specs.Lines.{months, readings, line, year_text, begins_line, kwh_at, behind_line, kwh_in}
use Rattle.sheet_text.specs.Reading.{Within, accepted, text_answer, read_answer, read_after}
use Rattle.sheet_text.specs.Writing.{text_room, text_written, write_answer, buffer_after}

-- the same 72 numbers
abbrev pub Same : (ℕ → ℕ → ℕ) → (ℕ → ℕ → ℕ) → Type 0
Same f g = (m p : ℕ) → m < months → p < readings → f m p ≡ g m p

-- A text begins with a line of the shape and month exactly if it begins with the line that is written for some six numbers, of any
-- size; those are the numbers that are read, and what is left is what stands behind the line.
pub record LineLanguage (month : ℕ) : Type 0 where
  pub shaped : (t : List ℕ) → begins_line month t ≡ true → t ≡ line month (kwh_at t) ++ behind_line t
  pub written : (kwh : ℕ → ℕ) (t : List ℕ) → begins_line month (line month kwh ++ t) ≡ true
  pub numbers : (kwh : ℕ → ℕ) (t : List ℕ) (p : ℕ) → p < readings → kwh_at (line month kwh ++ t) p ≡ kwh p
  pub rest : (kwh : ℕ → ℕ) (t : List ℕ) → behind_line (line month kwh ++ t) ≡ t

-- A text is accepted exactly if it is the twelve lines of some 72 numbers within the limit, and then those are the numbers read.
pub record Language : Type 0 where
  pub shaped : (t : List ℕ) → text_answer t ≡ accepted → t ≡ year_text (kwh_in t)
  pub within : (t : List ℕ) → text_answer t ≡ accepted → Within (kwh_in t)
  pub written : (kwh : ℕ → ℕ → ℕ) → Within kwh → text_answer (year_text kwh) ≡ accepted
  pub numbers : (kwh : ℕ → ℕ → ℕ) → Within kwh → Same (kwh_in (year_text kwh)) kwh

-- The byte k of a sheet is one of the kWh at a place.
abbrev pub InKwh : ℕ → ℕ → ℕ → Type 0
InKwh k m p = (32 + 96 * m + 4 * p ≤ k) × (k < 32 + 96 * m + 4 * p + 4)

-- "fills the kWh of a lent sheet .. and touches no other byte"
pub record Fills : Type 0 where
  pub long : (s t : List ℕ) → length (read_after s t) ≡ length s
  pub numbers : (s t : List ℕ) → read_answer s t ≡ accepted → Same (word (read_after s t)) (kwh_in t)
  pub others : (s t : List ℕ) (k : ℕ) → ((m p : ℕ) → m < months → p < readings → InKwh k m p → ⊥)
      → get_or (read_after s t) k 0 ≡ get_or s k 0

-- "Reading them back restores those kWh", in any sheet
pub record ReadsBack : Type 0 where
  pub answer : (s b u : List ℕ) (n : ℕ) → write_answer s b ≡ text_written n → length u ≡ sheet_length
      → read_answer u (take n (buffer_after s b)) ≡ accepted
  pub numbers : (s b u : List ℕ) (n : ℕ) → write_answer s b ≡ text_written n → length u ≡ sheet_length
      → Same (word (read_after u (take n (buffer_after s b)))) (word s)

-- "in 675 lent bytes": enough for every sheet, and reached by one
pub record Room : Type 0 where
  pub enough : (kwh : ℕ → ℕ → ℕ) → Within kwh → length (year_text kwh) ≤ text_room
  pub reached : length (year_text (λ m p. max_kwh)) ≡ text_room
