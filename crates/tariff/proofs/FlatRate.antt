-- The flat-rate part as what the four energies are worth, at most the highest tier rate for each kWh, and its value for a caller who
-- knows the energies and the rates as numbers.
use Prim.Native.Nat.{ℕ, zero, suc, ◌+◌, ◌*◌, ◌≤◌, ◌<◌, min}
use mathlib.Core.Path.{◌≡◌, refl, ap, ◌∙◌}
use mathlib.Core.List.{List, [], ◌∷◌, map}
use native.Mathlib.Omega.{arith}
use lib.ListN.{length, get_or}
use Rattle.units.specs.declared.Kwh.{Kwh}
use Rattle.units.specs.declared.Rate.{Rate}
use Rattle.units.specs.Units.{kwh, rate}
use Rattle.units.specs.Limits.{max_tier_rate}
use Rattle.units.specs.Folds.{sum_below}
use Rattle.units.proofs.Folds.{sum-cong}
use Rattle.units.proofs.Products.{product-capped}
use Rattle.tariff.specs.Tariff.{numbers, tier_sum, flat_rate_of}
use Rattle.tariff.proofs.Tiers.{numbers-kwh}

abbrev product_at : List Kwh → List Rate → ℕ → ℕ
product_at energies rates t = get_or (numbers energies) t 0 * (get_or rates t (rate 0)).0

abbrev pub flat_rate : List Kwh → List Rate → ℕ
flat_rate energies rates = flat_rate_of (numbers energies) (λ t. (get_or rates t (rate 0)).0)

-- what energies are worth, each at the rate beside it
abbrev pub worth : List Kwh → List Rate → ℕ
worth [] rs = 0
worth (e ∷ es) [] = 0
worth (e ∷ es) (r ∷ rs) = e.0 * r.0 + worth es rs

pub worth_none : (es : List Kwh) (rs : List Rate) → min (length es) (length rs) ≡ 0 → worth es rs ≡ 0
worth_none [] rs h = refl
worth_none (e ∷ es) [] h = refl
worth_none (e ∷ es) (r ∷ rs) h = let z : ⊥ = omega arith in absurd z

sum_first : (n : ℕ) (f : ℕ → ℕ) → sum_below (suc n) f ≡ f 0 + sum_below n (λ i. f (suc i))
unfolding sum_below
sum_first zero f = omega arith
sum_first (suc n) f = let before = sum_first n f in omega arith

worth-products : (es : List Kwh) (rs : List Rate) → length es ≡ length rs → worth es rs ≡ sum_below (length es) (product_at es rs)
unfolding sum_below
worth-products [] rs h = refl
worth-products (e ∷ es) [] h = let z : ⊥ = omega arith in absurd z
worth-products (e ∷ es) (r ∷ rs) h =
    let rest = worth-products es rs (omega arith) in
    omega (arith, rest, sum_first (length es) (product_at (e ∷ es) (r ∷ rs)))

pub worth_all : (energies : List Kwh) (rates : List Rate) → length energies ≡ 4 → length rates ≡ 4 → worth energies rates ≡ flat_rate energies rates
unfolding flat_rate_of
worth_all energies rates h k = rw h at (worth-products energies rates (omega arith))

pub flat_rate_capped :
    (energies : List Kwh) (rates : List Rate) → ((t : ℕ) → t < 4 → (get_or rates t (rate 0)).0 ≤ max_tier_rate) →
    flat_rate energies rates ≤ max_tier_rate * tier_sum (numbers energies)
unfolding flat_rate_of tier_sum sum_below
flat_rate_capped energies rates h =
    let part = λ (t : ℕ) (l : t < 4). product-capped max_tier_rate (get_or (numbers energies) t 0) (get_or rates t (rate 0)).0 (h t l) in
    omega (arith, part 0 (omega arith), part 1 (omega arith), part 2 (omega arith), part 3 (omega arith))

-- what `flat_rate_of` ensures, for energies and rates that are known as numbers
pub flat-rate-of-parts :
    {energies : List Kwh} (rates : List Rate) (parts : List ℕ) (rateOf : ℕ → ℕ) → energies ≡ map kwh parts →
    ((t : ℕ) → t < 4 → get_or rates t (rate 0) ≡ rate (rateOf t)) →
    flat_rate_of (numbers energies) (λ t. (get_or rates t (rate 0)).0) ≡ flat_rate_of parts rateOf
unfolding flat_rate_of
flat-rate-of-parts {energies} rates parts rateOf q h =
    ap (λ (es : List Kwh). sum_below 4 (product_at es rates)) q
    ∙ sum-cong 4 (product_at (map kwh parts) rates) (λ t. get_or parts t 0 * rateOf t) same
  where
    same : (t : ℕ) → t < 4 → product_at (map kwh parts) rates t ≡ get_or parts t 0 * rateOf t
    same t l = rw (numbers-kwh, h t l)
