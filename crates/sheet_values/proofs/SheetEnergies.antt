-- The monthly energies of a sheet that has passed 13: within their limits, and as the arrays hold them.
use Prim.Native.Nat.{ℕ, ◌+◌, ◌*◌, ◌≤◌, ◌<◌, min}
use mathlib.Core.Path.{◌≡◌, refl, ap, ap₂, ◌∙◌}
use mathlib.Core.Bool.{true, false}
use mathlib.Core.List.{List, []}
use native.Mathlib.Omega.{arith}
use lib.Dec.{ltb}
use lib.ListN.{get_or, take, drop}
use Rattle.std.proofs.lemmas.List.{get_or-take, get_or-drop}
use Rattle.units.specs.declared.Kwh.{Kwh}
use Rattle.units.specs.Units.{kwh}
use Rattle.units.specs.Limits.{max_kwh}
use Rattle.units.specs.Folds.{sum_below, any_below}
use Rattle.units.proofs.Folds.{sum-cong, any-cong}
use Rattle.tariff.specs.Tariff.{monthly_threshold, monthly_method, monthly_tiers, annual_tiers, flat_rate_of}
use Rattle.sheet.specs.YearSheet.{SheetPassed, month_withdrawn}
use Rattle.sheet_prices.specs.InnerArrays.{energy_at, first_place, energy_row, EnergyRows, EnergiesFit, row_total}
use Rattle.sheet_prices.specs.declared.Reading.{Reading}
use Rattle.sheet_prices.specs.declared.Reading.TheVariants.{Withdrawn, Injected}
use Rattle.sheet_values.specs.InnerArrays.{Months, MonthsFit, month_energy}
use Rattle.sheet_values.proofs.Bounds.{sheets-bounded}
use Rattle.sheet_values.specs.YearsValues.{month_injected, month_exchanged, month_rate, annual_rate, month_flat_rate, annual_flat_rate, flat_rate_over, withdrawn_over, injected_over, exchanged_over}
use Rattle.sheet_values.specs.YearsValues.{some_month_above, half_of}

pub exchanged-within : (s : List ℕ) (m : ℕ) → month_exchanged s m ≤ month_withdrawn s m
unfolding month_exchanged
exchanged-within s m = omega arith

-- a month of a stretch, as its part of the months holds it
pub in-stretch : (months part : List Kwh) (from n i : ℕ) → part ≡ take n (drop from months) → i < n → (get_or part i (kwh 0)).0 ≡ energy_at (from + i) months
in-stretch months part from n i e l =
    ap (λ (p : List Kwh). (get_or p i (kwh 0)).0) e
    ∙ ap (λ (k : Kwh). k.0) (get_or-take n (drop from months) i (kwh 0) l ∙ get_or-drop from months i (kwh 0))

-- sums and tests over the arrays are those over the sheet
sum_over_lem : (f : ℕ → ℕ) (a : List Kwh) → Months f a → (from n : ℕ) → from + n ≤ 12
    → sum_below n (λ i. energy_at (from + i) a) ≡ sum_below n (λ i. f (from + i))
sum_over_lem f a h from n l =
    sum-cong n (λ i. energy_at (from + i) a) (λ i. f (from + i)) (λ i b. ap (λ (k : Kwh). k.0) (h (from + i) (omega arith)))

pub above-over : (s : List ℕ) (a : List Kwh) → Months (month_withdrawn s) a → (from n : ℕ) → from + n ≤ 12
    → any_below n (λ i. ltb monthly_threshold (energy_at (from + i) a)) ≡ some_month_above s from n
unfolding some_month_above
above-over s a h from n l =
    any-cong n (λ i. ltb monthly_threshold (energy_at (from + i) a)) (λ i. ltb monthly_threshold (month_withdrawn s (from + i)))
    (λ i b. ap (λ (k : Kwh). ltb monthly_threshold k.0) (h (from + i) (omega arith)))

-- the smaller of withdrawn and injected, month by month
pub exchanged-months : (s : List ℕ) (w i e : List Kwh) → Months (month_withdrawn s) w → Months (month_injected s) i
    → ((m : ℕ) → m < 12 → get_or e m (kwh 0) ≡ kwh (min (energy_at m w) (energy_at m i))) → Months (month_exchanged s) e
unfolding month_exchanged
exchanged-months s w i e hw hi he m l =
    he m l ∙ ap₂ (λ (x y : Kwh). kwh (min x.0 y.0)) (hw m l) (hi m l)

-- a number of such an array, as it is read
pub held : (f : ℕ → ℕ) (a : List Kwh) → Months f a → (m : ℕ) → m < 12 → (k : Kwh) → k ≡ get_or a m (kwh 0) → k.0 ≡ f m
held f a h m l k e = ap (λ (x : Kwh). x.0) (e ∙ h m l)

pub month-flat : (s : List ℕ) (plant power m x : ℕ) (w e : Kwh) → w.0 ≡ month_withdrawn s m → e.0 ≡ month_exchanged s m
    → x ≡ flat_rate_of (monthly_tiers w.0 e.0) (month_rate s plant power m) → x ≡ month_flat_rate s plant power m
unfolding month_flat_rate
month-flat s plant power m x w e hw he q = q ∙ ap₂ (λ (a b : ℕ). flat_rate_of (monthly_tiers a b) (month_rate s plant power m)) hw he

-- the method decides F
pub flat-monthly : (s : List ℕ) (from n class plant power x : ℕ) → monthly_method class (some_month_above s from n) ≡ true
    → x ≡ sum_below n (λ i. month_flat_rate s plant power (from + i)) → x ≡ flat_rate_over s from n class plant power
unfolding flat_rate_over
flat-monthly s from n class plant power x t q = rw t q

-- a stretch is rated as a whole: the annual F, which is F where the method is not the monthly one
pub flat-annually : (s : List ℕ) (from n class plant power x : ℕ) → monthly_method class (some_month_above s from n) ≡ false
    → x ≡ annual_flat_rate s from n class plant power → x ≡ flat_rate_over s from n class plant power
unfolding flat_rate_over
flat-annually s from n class plant power x t q = rw t q

pub flat-annual : (s : List ℕ) (w i : List Kwh) (from n class plant power x : ℕ) (total injected shared : Kwh)
    → from + n ≤ 12 → Months (month_withdrawn s) w → Months (month_injected s) i
    → total ≡ kwh (sum_below n (λ k. energy_at (from + k) w)) → injected ≡ kwh (sum_below n (λ k. energy_at (from + k) i))
    → shared ≡ kwh (min total.0 injected.0)
    → x ≡ flat_rate_of (annual_tiers class total.0 shared.0) (annual_rate s plant power from n)
    → (x ≡ annual_flat_rate s from n class plant power)
    × (monthly_method class (some_month_above s from n) ≡ false → x ≡ flat_rate_over s from n class plant power)
unfolding annual_flat_rate exchanged_over withdrawn_over injected_over
flat-annual s w i from n class plant power x total injected shared l hw hi et ei es q =
    let total-is : total.0 ≡ sum_below n (λ k. month_withdrawn s (from + k)) = ap (λ (e : Kwh). e.0) et ∙ sum_over_lem (month_withdrawn s) w hw from n l in
    let injected-is : injected.0 ≡ sum_below n (λ k. month_injected s (from + k)) = ap (λ (e : Kwh). e.0) ei ∙ sum_over_lem (month_injected s) i hi from n l in
    let shared-is = ap (λ (e : Kwh). e.0) es ∙ ap₂ min total-is injected-is in
    let annual = q ∙ ap₂ (λ (a b : ℕ). flat_rate_of (annual_tiers class a b) (annual_rate s plant power from n)) total-is shared-is in
    (annual, λ t. flat-annually s from n class plant power x t annual)

-- the exchanged energy of a half year
pub exchanged-capped : (s : List ℕ) → SheetPassed s → (m : ℕ) → m < 12 → month_exchanged s m ≤ 3 * max_kwh
exchanged-capped s h m l = omega (arith, exchanged-within s m, (sheets-bounded s h.past13).month-withdrawn m l)

pub half_is : (s : List ℕ) (e : List Kwh) (half : ℕ) (x : Kwh) → half < 2 → Months (month_exchanged s) e
    → x ≡ kwh (sum_below 6 (λ i. energy_at (6 * half + i) e)) → x ≡ kwh (half_of s half)
unfolding half_of
half_is s e half x l h q = q ∙ ap kwh (sum_over_lem (month_exchanged s) e h (6 * half) 6 (omega arith))

-- the totals of a year's energies: within their limit, and those of the sheet
pub months-fit : (e : List (List Kwh)) (a : List Kwh) → EnergiesFit e → ((m : ℕ) → m < 12 → get_or a m (kwh 0) ≡ kwh (row_total (get_or e m []))) → MonthsFit a
unfolding row_total
months-fit e a h is m l =
    let row = h m l in
    let held = ap (λ (k : Kwh). k.0) (is m l) in
    omega (arith, held, row.0, row.1.0, row.1.1)

pub months-of : (s : List ℕ) (reading : Reading) (e : List (List Kwh)) (a : List Kwh) → EnergyRows (energy_row s (first_place reading)) e
    → ((m : ℕ) → m < 12 → get_or a m (kwh 0) ≡ kwh (row_total (get_or e m []))) → Months (month_energy reading s) a
unfolding row_total month_withdrawn month_injected
months-of s Withdrawn e a rows is m l = is m l ∙ rw (rows m l) refl
months-of s Injected e a rows is m l = is m l ∙ rw (rows m l) refl
