-- "Election and advances" of document 01: the day of an election, the runs due in a year, the amount of a run.
use Rattle.std.specs.Prelude.{ℕ, ◌+◌, ◌*◌, ◌%◌, Bool, false, cond, not, ◌&&◌, ◌||◌, leb, ltb, eqb}
use Rattle.calendar.specs.declared.Halves.{Halves}

-- "a Gregorian day (leap rule for every year number)"
unfoldable pub leap : ℕ → Bool
leap y = (eqb (y % 4) 0 && not (eqb (y % 100) 0)) || eqb (y % 400) 0

unfoldable pub days_in : ℕ → ℕ → ℕ
days_in y m = cond (eqb m 2) (cond (leap y) 29 28) (cond (((eqb m 4 || eqb m 6) || eqb m 9) || eqb m 11) 30 31)

unfoldable pub is_day : ℕ → ℕ → ℕ → Bool
is_day y m d = ((leb 1 m && leb m 12) && leb 1 d) && leb d (days_in y m)

-- the first day is not after the second
unfoldable pub not_after : ℕ → ℕ → ℕ → ℕ → ℕ → ℕ → Bool
not_after y m d y' m' d' = ltb y y' || (eqb y y' && (ltb m m' || (eqb m m' && leb d d')))

-- "from 1 January a to 31 January a + 1"
unfoldable pub in_window : ℕ → ℕ → ℕ → ℕ → Bool
in_window a y m d = not_after a 1 1 y m d && not_after y m d (a + 1) 1 31

-- run bits ("Book", user byte 26): "1 June, 2 October, 4 January"
abbrev pub june : ℕ
june = 1

abbrev pub october : ℕ
october = 2

abbrev pub january : ℕ
january = 4

-- "First half (months 1–6) in June, second in October. In the activation year: months 3–8, both in October; 9–11, both
-- in January; 12, none." The halves that a run of `year` pays to a user activated in that month of that year.
abbrev pub halves : Bool → Bool → Halves
halves f s = record { first = f; second = s }

unfoldable pub halves_paid : ℕ → ℕ → ℕ → ℕ → Halves
halves_paid activationYear activationMonth year run =
    cond (eqb year activationYear && (leb 3 activationMonth && leb activationMonth 8))
    (halves (eqb run october) (eqb run october))
    (cond (eqb year activationYear && (leb 9 activationMonth && leb activationMonth 11))
    (halves (eqb run january) (eqb run january))
    (cond (eqb year activationYear && eqb activationMonth 12)
    (halves false false)
    (halves (eqb run june) (eqb run october))))

-- a run is due where it pays a half
unfoldable pub due : Halves → Bool
due h = h.first || h.second

-- how many halves a run pays
unfoldable pub halves_count : Halves → ℕ
halves_count h = cond h.first 1 0 + cond h.second 1 0

-- "A run of 1,500,000 ticks or less pays 0 and is booked as 0"
abbrev pub threshold : ℕ
threshold = 1500000

unfoldable pub paid_of : ℕ → ℕ
paid_of amount = cond (leb amount threshold) 0 amount

-- "The amount is the rate times the last closed year's half ..; a run due for both halves pays their sum."
-- h₁ and h₂ are the kWh of the two halves, by the closed year or by the estimates
unfoldable pub amount_of : Halves → ℕ → ℕ → ℕ → ℕ
amount_of h rate h₁ h₂ = paid_of (cond h.first (h₁ * rate) 0 + cond h.second (h₂ * rate) 0)
