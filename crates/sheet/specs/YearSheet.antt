-- "Year sheet" of document 01: the sheet's fields as numbers of its bytes, and what refusals 11, 13, 14 and 19 look at.
-- Months are counted from 0, bands F1 F2 F3 and tiers 1–4 from 0. A number past the end of the bytes is 0.
use Rattle.std.specs.Prelude.{ℕ, ◌+◌, ◌-◌, ◌*◌, ◌≤◌, ◌≡◌, Bool, true, false, cond, not, ◌&&◌, ◌||◌, List, leb, ltb, eqb, length}
use Rattle.units.specs.Limits.{max_kwh, max_price}
use Rattle.units.specs.Folds.{all_below, any_below}
use Rattle.codec.specs.Bytes.{number, zeros}
use Rattle.tariff.specs.Tariff.{domestic, monthly_threshold}
use Rattle.refusals.specs.declared.Position.{Position}
use Rattle.refusals.specs.Refusals.{nowhere}

-- "1,184 bytes. Header of 32 .. Then twelve months of 24 numbers of 32 bits"
abbrev pub sheet_length : ℕ
sheet_length = 1184

-- "0–3 user number, 4–5 year, 6 withdrawn reading, 7 injected reading (0 single, 1 by bands)"
abbrev pub sheet_user : List ℕ → ℕ
sheet_user s = number 4 0 s

abbrev pub sheet_year : List ℕ → ℕ
sheet_year s = number 2 4 s

unfoldable pub withdrawn_reading : List ℕ → ℕ
withdrawn_reading s = number 1 6 s

unfoldable pub injected_reading : List ℕ → ℕ
injected_reading s = number 1 7 s

abbrev pub by_bands : ℕ → Bool
by_bands reading = eqb reading 1

-- the number at a place of a month
unfoldable pub word : List ℕ → ℕ → ℕ → ℕ
word s month place = number 4 (32 + 96 * month + 4 * place) s

-- "withdrawn F1 F2 F3, injected F1 F2 F3, PUN F1 F2 F3, PUN mean, zone F1 F2 F3, zone mean, zone mean of hours 8–20,
-- net rate of tiers 1–4, system rate of tiers 1–4, zero"
abbrev pub withdrawn : List ℕ → ℕ → ℕ → ℕ
withdrawn s m band = word s m band

abbrev pub injected : List ℕ → ℕ → ℕ → ℕ
injected s m band = word s m (3 + band)

abbrev pub pun : List ℕ → ℕ → ℕ → ℕ
pun s m band = word s m (6 + band)

abbrev pub pun_mean : List ℕ → ℕ → ℕ
pun_mean s m = word s m 9

abbrev pub zone : List ℕ → ℕ → ℕ → ℕ
zone s m band = word s m (10 + band)

abbrev pub zone_mean : List ℕ → ℕ → ℕ
zone_mean s m = word s m 13

-- the zone's mean of hours 8–20
abbrev pub zone_day_mean : List ℕ → ℕ → ℕ
zone_day_mean s m = word s m 14

abbrev pub net : List ℕ → ℕ → ℕ → ℕ
net s m tier = word s m (15 + tier)

abbrev pub system : List ℕ → ℕ → ℕ → ℕ
system s m tier = word s m (19 + tier)

abbrev pub last_word : List ℕ → ℕ → ℕ
last_word s m = word s m 23

-- 11: "sheet length, header or zero word wrong". It has three parts, since some calls pass "any header bytes 8 and 12–15"
-- (ticket 12): the form of the sheet, which is all but these bytes; byte 8; bytes 12–15.
unfoldable pub header_fits : List ℕ → Bool
header_fits s = (leb (withdrawn_reading s) 1 && leb (injected_reading s) 1) && (zeros 9 3 s && zeros 16 16 s)

unfoldable pub last_words_fit : List ℕ → Bool
last_words_fit s = all_below 12 (λ m. eqb (last_word s m) 0)

unfoldable pub form_fits : List ℕ → Bool
form_fits s = eqb (length s) sheet_length && (header_fits s && last_words_fit s)

abbrev pub version_zero : List ℕ → Bool
version_zero s = zeros 8 1 s

abbrev pub point_zero : List ℕ → Bool
point_zero s = zeros 12 4 s

unfoldable pub refused11 : List ℕ → Bool
refused11 s = not (form_fits s && (version_zero s && point_zero s))

-- 13: "number above its limit". Places 0–5 of a month are kWh, 6–22 prices and rates; the last one is the zero word, at which
-- 11 looks.
unfoldable pub limit_at : ℕ → ℕ
limit_at place = cond (ltb place 6) max_kwh max_price

unfoldable pub above_limit : List ℕ → ℕ → ℕ → Bool
above_limit s m place = ltb (limit_at place) (word s m place)

-- 19: "A single reading's filled F2 or F3 becomes a refusal of its own" (ticket 7), each reading by its own type
unfoldable pub unused_band : List ℕ → ℕ → Bool
unused_band s place =
    (not (by_bands (withdrawn_reading s)) && (eqb place 1 || eqb place 2))
    || (not (by_bands (injected_reading s)) && (eqb place 4 || eqb place 5))

unfoldable pub stray_band : List ℕ → ℕ → ℕ → Bool
stray_band s m place = unused_band s place && not (eqb (word s m place) 0)

unfoldable pub at_fault : List ℕ → ℕ → ℕ → Bool
at_fault s m place = above_limit s m place || stray_band s m place

-- "The earliest number at fault": it is at fault, and none before it is, in its month or in a month before
unfoldable pub earliest : List ℕ → ℕ → ℕ → Bool
earliest s m place =
    at_fault s m place
    && (all_below place (λ p. not (at_fault s m p)) && all_below m (λ n. all_below 23 (λ p. not (at_fault s n p))))

-- "The earliest number at fault decides; where one number has both faults, 13 goes first."
unfoldable pub refused13 : List ℕ → Bool
refused13 s = any_below 12 (λ m. any_below 23 (λ place. earliest s m place && above_limit s m place))

unfoldable pub refused19 : List ℕ → Bool
refused19 s = any_below 12 (λ m. any_below 23 (λ place. earliest s m place && not (above_limit s m place)))

-- 14: "class 1 or 2 with a month above 4,000,000 withdrawn"
unfoldable pub month_withdrawn : List ℕ → ℕ → ℕ
month_withdrawn s m = withdrawn s m 0 + withdrawn s m 1 + withdrawn s m 2

unfoldable pub refused14 : ℕ → List ℕ → Bool
refused14 class s = domestic class && any_below 12 (λ m. ltb monthly_threshold (month_withdrawn s m))

-- Where the earliest number at fault stands, "month, 1–12, and place in it, 1–24"
pub record EarliestAt (s : List ℕ) (p : Position) : Type 0 where
  pub month_from1 : 1 ≤ p.month
  pub month_to12 : p.month ≤ 12
  pub place_from1 : 1 ≤ p.place
  pub place_to23 : p.place ≤ 23
  pub here : earliest s (p.month - 1) (p.place - 1) ≡ true

-- a sheet has at most one
abbrev pub OneEarliest : Type 0
OneEarliest = (s : List ℕ) (p q : Position) → EarliestAt s p → EarliestAt s q → p ≡ q

-- "both, in every call that gives them, tell month .. and place in it .. instead of zeros"; every other answer tells zeros there
abbrev pub tells : ℕ → Bool
tells refusal = eqb refusal 13 || eqb refusal 19

pub record Tells (s : List ℕ) (refusal : ℕ) (p : Position) : Type 0 where
  pub position : tells refusal ≡ true → EarliestAt s p
  pub zeros : tells refusal ≡ false → p ≡ nowhere

-- a sheet that has passed 13, and 19 at its place: no number of it is at fault
abbrev pub Past13 : List ℕ → Type 0
Past13 s = (refused13 s ≡ false) × (refused19 s ≡ false)

-- a sheet that has passed 11 and 13
pub record SheetPassed (s : List ℕ) : Type 0 where
  pub past11 : refused11 s ≡ false
  pub past13 : Past13 s
