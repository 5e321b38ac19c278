-- The first kWh of a sheet above its limit, month by month.
use Prim.Native.Nat.{ℕ, ◌+◌, ◌<◌}
use mathlib.Core.Path.{◌≡◌, sym, ap, ◌∙◌}
use mathlib.Core.Bool.{true, false}
use mathlib.Core.List.{List}
use lib.Dec.{ltb, eqb}
use borrow.Author.Tests.{eqb-true}
use lib.ListN.{length}
use Rattle.units.specs.declared.Kwh.{Kwh}
use Rattle.units.specs.Limits.{max_kwh}
use Rattle.units.specs.Folds.{any_below}
use Rattle.units.proofs.Bools.{and_left, and_right, or-neither}
use Rattle.units.proofs.Folds.{any-zero, any_step, any_of, none-at, first-is}
use Rattle.sheet.specs.YearSheet.{sheet_length, word}
use Rattle.refusals.specs.declared.Position.{Position}
use Rattle.sheet_text.specs.Lines.{months, readings}
use Rattle.sheet_text.specs.Reading.{some_kwh_above, first_above, Within}
use Rattle.sheet_text.specs.Writing.{text_room, buffers_fit, sheet_above, first_month_above}
use Rattle.sheet_text.specs.InnerSteps.{kwh_of, place_in, FirstAbove, MonthOf, SheetAbove}
use Rattle.sheet_text.proofs.Above.{none_above, some_same, above_same}

pub sizes-of : (s b : List ℕ) → buffers_fit s b ≡ true → (length s ≡ sheet_length) × (length b ≡ text_room)
unfolding buffers_fit
sizes-of s b e = (
  eqb-true (length s) sheet_length (and_left (eqb (length s) sheet_length) (eqb (length b) text_room) e),
  eqb-true (length b) text_room (and_right (eqb (length s) sheet_length) (eqb (length b) text_room) e),
)

module _ (s : List ℕ) where
  abbrev pub NoneAbove : ℕ → Type 0
  NoneAbove m = any_below m (λ i. some_kwh_above (word s i)) ≡ false

  pub none_yet : NoneAbove 0
  none_yet = any-zero (λ i. some_kwh_above (word s i))

  -- the numbers of a month are those of the sheet
  module _ (m : ℕ) (six : List Kwh) (of : MonthOf s m six) where
    same-side : (p : ℕ) → p < readings → ltb max_kwh (kwh_of six p) ≡ ltb max_kwh (word s m p)
    same-side p l = ap (ltb max_kwh) (of p l)

    pub month-within : NoneAbove m → some_kwh_above (kwh_of six) ≡ false → NoneAbove (m + 1)
    month-within none within =
        any_step m (λ i. some_kwh_above (word s i)) ∙ or-neither none (sym (some_same (kwh_of six) (word s m) same-side) ∙ within)

    pub month-found : {p : ℕ} {position : Position} → m < months → NoneAbove m → FirstAbove (kwh_of six) p → position ≡ place_in m p → SheetAbove s position
    unfolding sheet_above first_month_above
    month-found h none found e =
        let here = above_same (kwh_of six) (word s m) same-side found in
        let first = first-is months (λ i. some_kwh_above (word s i)) m h here.some (none-at m (λ i. some_kwh_above (word s i)) none) in
        record {
          some = any_of months (λ i. some_kwh_above (word s i)) m h here.some;
          at = e ∙ ap (place_in m) here.first ∙ ap (λ (k : ℕ). place_in k (first_above (word s k))) first;
        }

  pub none-found-at-all : NoneAbove months → sheet_above s ≡ false
  unfolding sheet_above
  none-found-at-all none = none

  -- a sheet that the writer takes
  pub sheet-within : sheet_above s ≡ false → Within (word s)
  unfolding sheet_above
  sheet-within none m p hm hp = none_above (word s m) (none-at months (λ i. some_kwh_above (word s i)) none m hm) p hp
