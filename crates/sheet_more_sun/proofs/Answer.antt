-- A sheet's least addition by the numbers that are read from it.
use Rattle.std.specs.Prelude.{Option}
use Prim.Native.Nat.{ℕ, ◌+◌, ◌-◌, ◌*◌, ◌≤◌, ◌<◌}
use mathlib.Core.Path.{◌≡◌, refl, sym, ap, ap₂, ◌∙◌}
use mathlib.Core.Bool.{Bool, true, false}
use mathlib.Core.List.{List}
use native.Mathlib.Omega.{arith}
use lib.Dec.{leb}
use Rattle.units.specs.declared.Rate.{Rate}
use Rattle.units.specs.declared.Ticks.{Ticks}
use Rattle.units.specs.Limits.{max_kwh, max_price, max_year_ticks}
use Rattle.sheet.specs.YearSheet.{injected_reading, by_bands, injected, SheetPassed}
use Rattle.sheet.proofs.Limits.{passed_length, passed-energy}
use Rattle.sheet_prices.specs.InnerArrays.{price_row, price_at}
use Rattle.sheet_prices.specs.ValueAndCost.{cost_of, value_of}
use Rattle.sheet_prices.proofs.SheetRows.{band-price-fits, single-price-fits}
use Rattle.sheet_values.specs.declared.Details.{Details}
use Rattle.sheet_values.specs.YearsValues.{on_island, is_photovoltaic}
use Rattle.units.specs.declared.Kwh.{Kwh}
use Rattle.sheet_more_sun.specs.MoreSun.{additions, covers_cost, more_sun, FieldStands}
use Rattle.sheet_more_sun.specs.Laws.{IsLeast}
use Rattle.sheet_more_sun.specs.InnerSteps.{InLimits, comes_to, field_price}
use Rattle.sheet_more_sun.proofs.Least.{least-is, least-same}
use Rattle.sheet_more_sun.proofs.Value.{row-price, value-raised}
use Rattle.units.specs.InnerWithin.{NumberWithin, TicksWithin}

module _ (s : List ℕ) (passed : SheetPassed s) (d : Details) (m band : ℕ) (stands : FieldStands s m band) where
  price-fits : (bands : Bool) → (bands ≡ false → band ≡ 0) → price_at band (price_row s bands (on_island d) (is_photovoltaic d) m) ≤ max_price
  price-fits true single = rw (row-price s (on_island d) (is_photovoltaic d) m band stands.band-to-3) (band-price-fits s passed (on_island d) m band stands.month stands.band-to-3)
  price-fits false single = rw (single refl) (single-price-fits s passed (on_island d) (is_photovoltaic d) m stands.month)

  -- the price that is read
  pub price-read : (reading : ℕ) → reading ≡ injected_reading s → (prices : List Rate) → prices ≡ price_row s (by_bands reading) (on_island d) (is_photovoltaic d) m
      → NumberWithin (field_price s d m band) max_price (price_at band prices)
  price-read reading read prices priced =
      let is : price_at band prices ≡ field_price s d m band =
      ap (price_at band) priced ∙ ap (λ (n : ℕ). price_at band (price_row s (by_bands n) (on_island d) (is_photovoltaic d) m)) read in
      record { is = is; most = rw is (price-fits (by_bands (injected_reading s)) stands.single) }

  -- the numbers that are read
  module _ (price : Rate) (priced : NumberWithin (field_price s d m band) max_price price.0) (field : ℕ) (filled : field ≡ injected s m band)
      (cost value : Ticks) (worked : TicksWithin (cost_of s) max_year_ticks cost)
      (valued : TicksWithin (value_of s (on_island d) (is_photovoltaic d)) max_year_ticks value) where
    pub in-limits : InLimits cost.0 value.0 price.0 field
    in-limits =
        record {
          cost-to = worked.most;
          value-to = valued.most;
          price-to = priced.most;
          field-to = rw filled (passed-energy s passed.past13 m (3 + band) stands.month (omega (arith, stands.band-to-3)));
        }

    -- an addition within the limit reaches O where its price makes up for what is missing
    same_test : (x : ℕ) → x < additions s m band → comes_to cost.0 value.0 price.0 x ≡ covers_cost s d m band x
    unfolding covers_cost
    same_test x l =
        let raised = value-raised s (on_island d) (is_photovoltaic d) m band x (passed_length s passed.past11) stands.month stands.band-to-3 (omega arith) stands.single in
        ap₂ leb (ap (λ (t : Ticks). t.0) worked.is)
        (ap₂ (λ (v p : ℕ). v + x * p) (ap (λ (t : Ticks). t.0) valued.is) priced.is ∙ sym raised)

    pub answered : (r : Option Kwh) → IsLeast (max_kwh + 1 - field) (comes_to cost.0 value.0 price.0) r → r ≡ more_sun s d m band
    unfolding more_sun
    answered r h =
        least-is (additions s m band) (covers_cost s d m band) r
        (least-same (additions s m band) (comes_to cost.0 value.0 price.0) (covers_cost s d m band) same_test r (rw filled at h))
