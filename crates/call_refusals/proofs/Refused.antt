-- What the number of a refusal tells of what it names: refusal by refusal.
use Prim.Native.Nat.{ℕ}
use mathlib.Core.Path.{◌≡◌, refl, sym, ◌∙◌}
use mathlib.Core.Bool.{false, true≢false}
use mathlib.Core.List.{List}
use lib.Dec.{eqb}
use borrow.Author.Tests.{eq-eqb, ne_eqb}
use Rattle.refusals.specs.declared.Refusal.{Refusal}
use Rattle.refusals.specs.declared.Refusal.TheVariants.{BookLength, FaultyRecord, BookFull, NumberTaken, DetailOutOfRange, UnknownUser, NoSuchDayOrOption, OutsideWindow}
use Rattle.refusals.specs.declared.Refusal.TheVariants.{RunNotOpen, OrderOutOfRange, SheetForm, YearNotOpen, AboveLimit, DomesticExcess, ChargeNotOpen, WrongLine, UnusedBand}
use Rattle.refusals.specs.declared.Refusal.TheVariants.{NoSuchField, FactorAboveLimit, BufferLength}
use Rattle.refusals.specs.Refusals.{number_of, position_of, record_of, nowhere}
use Rattle.sheet.specs.YearSheet.{tells, Tells}

-- none has the number of an accepted call
not-0 : (e : Refusal) → eqb (number_of e) 0 ≡ false
not-0 BookLength = refl
not-0 (FaultyRecord i) = refl
not-0 BookFull = refl
not-0 NumberTaken = refl
not-0 DetailOutOfRange = refl
not-0 UnknownUser = refl
not-0 NoSuchDayOrOption = refl
not-0 OutsideWindow = refl
not-0 RunNotOpen = refl
not-0 OrderOutOfRange = refl
not-0 SheetForm = refl
not-0 YearNotOpen = refl
not-0 (AboveLimit p) = refl
not-0 DomesticExcess = refl
not-0 ChargeNotOpen = refl
not-0 (WrongLine l) = refl
not-0 (UnusedBand p) = refl
not-0 NoSuchField = refl
not-0 FactorAboveLimit = refl
not-0 BufferLength = refl

pub refuses : (e : Refusal) → number_of e ≡ 0 → ⊥
refuses e none = true≢false (sym (eq-eqb (number_of e) 0 none) ∙ not-0 e)

-- beside another number than 2 no record is named
by-2 : (e : Refusal) → eqb (number_of e) 2 ≡ false → record_of e ≡ 0
by-2 BookLength h = refl
by-2 (FaultyRecord i) h = absurd (true≢false h)
by-2 BookFull h = refl
by-2 NumberTaken h = refl
by-2 DetailOutOfRange h = refl
by-2 UnknownUser h = refl
by-2 NoSuchDayOrOption h = refl
by-2 OutsideWindow h = refl
by-2 RunNotOpen h = refl
by-2 OrderOutOfRange h = refl
by-2 SheetForm h = refl
by-2 YearNotOpen h = refl
by-2 (AboveLimit p) h = refl
by-2 DomesticExcess h = refl
by-2 ChargeNotOpen h = refl
by-2 (WrongLine l) h = refl
by-2 (UnusedBand p) h = refl
by-2 NoSuchField h = refl
by-2 FactorAboveLimit h = refl
by-2 BufferLength h = refl

pub names-none : (e : Refusal) → (number_of e ≡ 2 → ⊥) → record_of e ≡ 0
names-none e other = by-2 e (ne_eqb (number_of e) 2 other)

-- beside another number than 13 and 19 no position is told
placed-nowhere : (e : Refusal) → tells (number_of e) ≡ false → position_of e ≡ nowhere
placed-nowhere BookLength h = refl
placed-nowhere (FaultyRecord i) h = refl
placed-nowhere BookFull h = refl
placed-nowhere NumberTaken h = refl
placed-nowhere DetailOutOfRange h = refl
placed-nowhere UnknownUser h = refl
placed-nowhere NoSuchDayOrOption h = refl
placed-nowhere OutsideWindow h = refl
placed-nowhere RunNotOpen h = refl
placed-nowhere OrderOutOfRange h = refl
placed-nowhere SheetForm h = refl
placed-nowhere YearNotOpen h = refl
placed-nowhere (AboveLimit p) h = absurd (true≢false h)
placed-nowhere DomesticExcess h = refl
placed-nowhere ChargeNotOpen h = refl
placed-nowhere (WrongLine l) h = refl
placed-nowhere (UnusedBand p) h = absurd (true≢false h)
placed-nowhere NoSuchField h = refl
placed-nowhere FactorAboveLimit h = refl
placed-nowhere BufferLength h = refl

pub told-nowhere : (s : List ℕ) (e : Refusal) → tells (number_of e) ≡ false → Tells s (number_of e) (position_of e)
told-nowhere s e other =
    record { position = λ t. absurd (true≢false (sym t ∙ other)); zeros = λ f. placed-nowhere e other }
