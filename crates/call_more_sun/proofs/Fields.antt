-- A month and a band that the reading has.
use Prim.Native.Nat.{ℕ, ◌-◌, ◌≤◌}
use mathlib.Core.Path.{◌≡◌}
use mathlib.Core.Bool.{true, false, ◌&&◌, ◌||◌}
use mathlib.Core.List.{List}
use native.Mathlib.Omega.{arith}
use borrow.Author.Tests.{leb-true, eqb-true}
use lib.Dec.{leb, eqb}
use Rattle.units.proofs.Bools.{and_left, and_right}
use Rattle.sheet.specs.YearSheet.{injected_reading, by_bands}
use Rattle.sheet_more_sun.specs.MoreSun.{FieldStands}
use Rattle.call_more_sun.specs.Asked.{has_field}

module _ (s : List ℕ) (month band : ℕ) where
  pub record Has : Type 0 where
    pub month-from : 1 ≤ month
    pub month-to : month ≤ 12
    pub band-from : 1 ≤ band
    pub band-to : band ≤ 3
    pub single : by_bands (injected_reading s) ≡ false → band ≡ 1

  pub has : has_field s month band ≡ true → Has
  unfolding has_field
  has h =
      let months = and_left (leb 1 month && leb month 12) ((leb 1 band && leb band 3) && (by_bands (injected_reading s) || eqb band 1)) h in
      let rest = and_right (leb 1 month && leb month 12) ((leb 1 band && leb band 3) && (by_bands (injected_reading s) || eqb band 1)) h in
      let bands = and_left (leb 1 band && leb band 3) (by_bands (injected_reading s) || eqb band 1) rest in
      let read = and_right (leb 1 band && leb band 3) (by_bands (injected_reading s) || eqb band 1) rest in
      record {
        month-from = leb-true 1 month (and_left (leb 1 month) (leb month 12) months);
        month-to = leb-true month 12 (and_right (leb 1 month) (leb month 12) months);
        band-from = leb-true 1 band (and_left (leb 1 band) (leb band 3) bands);
        band-to = leb-true band 3 (and_right (leb 1 band) (leb band 3) bands);
        single = λ e. eqb-true band 1 (rw e at read);
      }

  pub field-stands : has_field s month band ≡ true → FieldStands s (month - 1) (band - 1)
  field-stands h =
      let f = has h in
      record {
        month = omega (arith, f.month-from, f.month-to);
        band-to-3 = omega (arith, f.band-from, f.band-to);
        single = λ e. omega (arith, f.single e);
      }
