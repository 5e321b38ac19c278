-- "How much more sun" (document 02, ticket 10) as a call on a book, which it only reads: its order of refusals and its answer.
-- Months are 1–12 and bands 1–3, as callers count them.
use Rattle.std.specs.Prelude.{ℕ, ◌-◌, Bool, not, ◌&&◌, ◌||◌, List, [], ◌∷◌, leb, eqb, Option, None, cond}
use Rattle.sheet.specs.YearSheet.{sheet_user, injected_reading, by_bands, refused11, refused13, refused19}
use Rattle.book_rules.specs.Book.{length_fits, sound}
use Rattle.call_rules.specs.Rules.{Rule, ◌unless◌}
use Rattle.call_rules.specs.Refusals.{Look, look_at, present, user_at}
use Rattle.units.specs.declared.Kwh.{Kwh}
use Rattle.sheet_more_sun.specs.MoreSun.{more_sun}

-- "a month or band that the reading doesn't have": "For a single reading the band must be the first."
unfoldable pub has_field : List ℕ → (month band : ℕ) → Bool
has_field s month band =
    (leb 1 month && leb month 12) && ((leb 1 band && leb band 3) && (by_bands (injected_reading s) || eqb band 1))

-- "Checks run as for a closing, without 12, 14 and 3. It refuses with 23 a month or band that the reading doesn't have, after 13."
-- A closing's order is 1 2 11 6 12 13 19 14 3.
abbrev pub field_rules : List ℕ → (month band : ℕ) → List Rule
field_rules s month band =
    (13 unless not (refused13 s)) ∷ (19 unless not (refused19 s)) ∷ (23 unless has_field s month band) ∷ []

abbrev pub more_sun_rules : Look → List ℕ → (month band : ℕ) → List Rule
more_sun_rules v s month band = (11 unless not (refused11 s)) ∷ (6 unless present v) ∷ field_rules s month band

unfoldable pub more_sun_order : List ℕ → List ℕ → (month band : ℕ) → List Rule
more_sun_order b s month band =
    (1 unless length_fits b) ∷ (2 unless sound b) ∷ more_sun_rules (look_at b (sheet_user s)) s month band

-- the least addition, "priced for the enrolled plant"; none beside a refusal
unfoldable pub addition_answered : List ℕ → List ℕ → (month band refusal : ℕ) → Option Kwh
addition_answered b s month band refusal =
    cond (eqb refusal 0) (more_sun s (user_at b (sheet_user s)).details (month - 1) (band - 1)) None
