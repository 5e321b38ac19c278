-- The prices of a month as they stand in the parts of the sheet that are lent.
use Prim.Native.Nat.{ℕ, ◌+◌, ◌-◌, ◌*◌, ◌≤◌}
use mathlib.Core.Path.{◌≡◌, refl, ap, sym, ◌∙◌}
use mathlib.Core.Bool.{Bool, true, false, true≢false}
use mathlib.Core.Logic.{◌⊎◌, ⊎_elim}
use mathlib.Core.List.{List, [], ◌∷◌}
use native.Mathlib.Omega.{arith}
use lib.ListN.{take, drop}
use Rattle.units.specs.declared.Rate.{Rate}
use Rattle.units.specs.Units.{rate}
use Rattle.codec.specs.Bytes.{part, number}
use Rattle.codec.proofs.Numbers.{number-part}
use Rattle.sheet.specs.YearSheet.{word}
use Rattle.sheet_prices.specs.declared.Series.{Series}
use Rattle.sheet_prices.specs.declared.Series.TheVariants.{PunBands, PunMean, ZoneBands, ZoneMean, ZoneDayMean}
use Rattle.sheet_prices.specs.InnerArrays.{series_part, prices_in}

-- where the month's PUN series (places 6–9) begins, and its zone series (places 10–14)
abbrev pun_from : ℕ → ℕ
pun_from m = 32 + 96 * m + 24

abbrev zone_from : ℕ → ℕ
zone_from m = 32 + 96 * m + 24 + 16

-- the two series, as the program cuts them out of the sheet
abbrev pub pun_part : List ℕ → ℕ → List ℕ
pun_part s m = take (pun_from m + 16 - pun_from m) (drop (pun_from m) s)

abbrev pub zone_part : List ℕ → ℕ → List ℕ
zone_part s m = take (zone_from m + 20 - zone_from m) (drop (zone_from m) s)

cut : (n at : ℕ) (s : List ℕ) → take (at + n - at) (drop at s) ≡ part n at s
unfolding part
cut n at s = let width : at + n - at ≡ n = omega arith in rw width

-- a number of a part of a part of the month is a word of the month
word-in-part : (s : List ℕ) (m place n k at o o' : ℕ) → o' + 4 ≤ k → o + k ≤ n → at + o + o' ≡ 32 + 96 * m + 4 * place
    → number 4 o' (part k o (take (at + n - at) (drop at s))) ≡ word s m place
unfolding word
word-in-part s m place n k at o o' h l e =
    ap (λ (t : List ℕ). number 4 o' (part k o t)) (cut n at s)
    ∙ number-part 4 o' k o (part n at s) h
    ∙ number-part 4 (o + o') n at s (omega arith)
    ∙ ap (λ (i : ℕ). number 4 i s) (let sum : at + (o + o') ≡ 32 + 96 * m + 4 * place = omega arith in sum)

-- the prices of a series, from the part of it that was lent
abbrev SeriesPart : List ℕ → Series → ℕ → List ℕ → Type 0
SeriesPart s series m prices = prices ≡ series_part series (zone_part s m) (pun_part s m)

has_bands : Series → Bool
has_bands PunBands = true
has_bands PunMean = false
has_bands ZoneBands = true
has_bands ZoneMean = false
has_bands ZoneDayMean = false

pub row-by-bands : (s prices : List ℕ) (series : Series) (m : ℕ) (r₀ r₁ r₂ : Rate) → (series ≡ PunBands) ⊎ (series ≡ ZoneBands) → SeriesPart s series m prices
    → r₀ ≡ rate (number 4 (4 * 0) prices) → r₁ ≡ rate (number 4 (4 * 1) prices) → r₂ ≡ rate (number 4 (4 * 2) prices)
    → r₀ ∷ r₁ ∷ r₂ ∷ [] ≡ prices_in s series m
unfolding has_bands
row-by-bands s prices PunBands m r₀ r₁ r₂ is e e₀ e₁ e₂ =
    cc (
      word-in-part s m 6 16 12 (pun_from m) 0 0 (omega arith) (omega arith) (omega arith),
      word-in-part s m 7 16 12 (pun_from m) 0 4 (omega arith) (omega arith) (omega arith),
      word-in-part s m 8 16 12 (pun_from m) 0 8 (omega arith) (omega arith) (omega arith),
    )
row-by-bands s prices ZoneBands m r₀ r₁ r₂ is e e₀ e₁ e₂ =
    cc (
      word-in-part s m 10 20 12 (zone_from m) 0 0 (omega arith) (omega arith) (omega arith),
      word-in-part s m 11 20 12 (zone_from m) 0 4 (omega arith) (omega arith) (omega arith),
      word-in-part s m 12 20 12 (zone_from m) 0 8 (omega arith) (omega arith) (omega arith),
    )
row-by-bands s prices PunMean m r₀ r₁ r₂ is e e₀ e₁ e₂ = absurd (⊎_elim (λ q. true≢false (sym (ap has_bands q))) (λ q. true≢false (sym (ap has_bands q))) is)
row-by-bands s prices ZoneMean m r₀ r₁ r₂ is e e₀ e₁ e₂ = absurd (⊎_elim (λ q. true≢false (sym (ap has_bands q))) (λ q. true≢false (sym (ap has_bands q))) is)
row-by-bands s prices ZoneDayMean m r₀ r₁ r₂ is e e₀ e₁ e₂ = absurd (⊎_elim (λ q. true≢false (sym (ap has_bands q))) (λ q. true≢false (sym (ap has_bands q))) is)

pub row-of-one : (s prices : List ℕ) (series : Series) (m : ℕ) (r : Rate) → (series ≡ PunBands → ⊥) → (series ≡ ZoneBands → ⊥) → SeriesPart s series m prices
    → r ≡ rate (number 4 (4 * 0) prices) → r ∷ rate 0 ∷ rate 0 ∷ [] ≡ prices_in s series m
row-of-one s prices PunBands m r pun zone e e' = absurd (pun refl)
row-of-one s prices ZoneBands m r pun zone e e' = absurd (zone refl)
row-of-one s prices PunMean m r pun zone e e' = cc (word-in-part s m 9 16 4 (pun_from m) 12 0 (omega arith) (omega arith) (omega arith))
row-of-one s prices ZoneMean m r pun zone e e' = cc (word-in-part s m 13 20 4 (zone_from m) 12 0 (omega arith) (omega arith) (omega arith))
row-of-one s prices ZoneDayMean m r pun zone e e' = cc (word-in-part s m 14 20 4 (zone_from m) 16 0 (omega arith) (omega arith) (omega arith))
