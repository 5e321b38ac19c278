-- The tier rates of a sheet that has passed 13 are within their limit, and arrays that hold them make its flat-rate part.
use Prim.Native.Nat.{ℕ, ◌+◌, ◌≤◌, ◌<◌}
use mathlib.Core.List.{List}
use native.Mathlib.Omega.{arith}
use lib.ListN.{get_or}
use Rattle.units.specs.declared.Rate.{Rate}
use Rattle.units.specs.Units.{rate}
use Rattle.units.specs.Limits.{max_price, max_tier_rate}
use Rattle.units.specs.Folds.{sum_below}
use Rattle.units.proofs.Folds.{sum-capped}
use Rattle.tariff.specs.Tariff.{mean_rate, tier_rate}
use Rattle.tariff.proofs.Rates.{mean-rate-capped, tier-rate-capped}
use Rattle.sheet.specs.YearSheet.{word, net, system, SheetPassed}
use Rattle.sheet.proofs.Limits.{passed-price}
use Rattle.sheet_values.specs.InnerArrays.{Rates}

pub month-rate-capped : (s : List ℕ) → SheetPassed s → (plant power m t : ℕ) → m < 12 → t < 4 → tier_rate plant power (net s m t) (system s m t) ≤ max_tier_rate
month-rate-capped s h plant power m t hm ht =
    tier-rate-capped plant power max_price (passed-price s h.past13 m (15 + t) hm (omega arith) (omega arith))
    (passed-price s h.past13 m (19 + t) hm (omega arith) (omega arith))

mean-capped : (s : List ℕ) → SheetPassed s → (from n place : ℕ) → 0 < n → from + n ≤ 12 → 6 ≤ place → place < 23
    → mean_rate n (sum_below n (λ i. word s (from + i) place)) ≤ max_price
mean-capped s h from n place hn hf lo hi =
    mean-rate-capped n (sum_below n (λ i. word s (from + i) place)) max_price hn
    (sum-capped n max_price (λ i. word s (from + i) place) (λ i l. passed-price s h.past13 (from + i) place (omega arith) lo hi))

pub annual-rate-capped : (s : List ℕ) → SheetPassed s → (plant power from n t : ℕ) → 0 < n → from + n ≤ 12 → t < 4
    → tier_rate plant power (mean_rate n (sum_below n (λ i. net s (from + i) t))) (mean_rate n (sum_below n (λ i. system s (from + i) t))) ≤ max_tier_rate
annual-rate-capped s h plant power from n t hn hf ht =
    tier-rate-capped plant power max_price (mean-capped s h from n (15 + t) hn hf (omega arith) (omega arith))
    (mean-capped s h from n (19 + t) hn hf (omega arith) (omega arith))

-- an array of capped rates
pub rates-capped : (f : ℕ → ℕ) (a : List Rate) → Rates f a → ((t : ℕ) → t < 4 → f t ≤ max_tier_rate)
    → (t : ℕ) → t < 4 → (get_or a t (rate 0)).0 ≤ max_tier_rate
rates-capped f a h k t l = rw (h t l) (k t l)
