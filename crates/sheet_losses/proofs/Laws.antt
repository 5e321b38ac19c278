-- The year's sum of a band is kept, the other bytes stay, and a factor of 0 changes nothing.
use Prim.Native.Nat.{ℕ, zero, suc, ◌+◌, ◌*◌, ◌^◌, ◌≤◌, ◌<◌}
use mathlib.Core.Path.{◌≡◌, refl, sym, ap, ap₂, ◌∙◌}
use mathlib.Core.List.{List, ◌++◌}
use mathlib.Core.Logic.{⊎_elim}
use native.Mathlib.Nat.{add-mul}
use native.Mathlib.Omega.{arith}
use borrow.Author.Tests.{eq-eqb, ltb-false}
use lib.ListN.{length, get_or}
use lib.Seq.{take_all}
use Rattle.units.specs.Limits.{max_kwh}
use Rattle.units.specs.Folds.{sum_below}
use Rattle.units.proofs.Folds.{below_suc, sum-cong, none-at}
use Rattle.codec.specs.Bytes.{little_endian, bytes_of, part, number, stored}
use Rattle.codec.proofs.Numbers.{length-bytes, bytes-value}
use Rattle.codec.proofs.ByteRanges.{Bytes, bytes_back}
use Rattle.codec.proofs.Parts.{part-first, part-second, part-add}
use Rattle.codec.proofs.Stores.{length-stored, part-before, part-within, byte-before, byte-after, stored_same}
use Rattle.sheet.specs.YearSheet.{sheet_length, word, injected}
use Rattle.sheet_losses.specs.Losses.{rest_to, raised, band_of, raised_reading, decembers_rest, injected_place, three_readings, with_injected, raised_sheet, reading_above, month_above, some_above}
use Rattle.sheet_losses.specs.Losses.{raise_refusal, raised_after}
use Rattle.sheet_losses.specs.Laws.{YearKept, Elsewhere, RaisedWell, AcceptedRaise}
use Rattle.sheet_losses.proofs.Writing.{length_three}
use Rattle.sheet_losses.proofs.Calls.{accepted-length, accepted-within}

-- THE SUM of a band
pub year-kept : YearKept
unfolding sum_below rest_to raised
year-kept factor raw zero = omega arith
year-kept factor raw (suc months) =
    let before = year-kept factor raw months in
    omega (arith, add-mul (sum_below months raw) (raw months) (1000 + factor))

-- THE READINGS in the sheet that is written
whole-number : (n : ℕ) → part 4 0 (bytes_of 4 n) ≡ bytes_of 4 n
unfolding part
whole-number n = take_all 4 (bytes_of 4 n) (omega (arith, length-bytes 4 n))

past-number : (o n : ℕ) (rest : List ℕ) → part 4 (4 + o) (bytes_of 4 n ++ rest) ≡ part 4 o rest
past-number o n rest =
    ap (λ (k : ℕ). part 4 (k + o) (bytes_of 4 n ++ rest)) (sym (length-bytes 4 n)) ∙ part-second 4 o (bytes_of 4 n) rest

first-number : (n : ℕ) (rest : List ℕ) → part 4 0 (bytes_of 4 n ++ rest) ≡ bytes_of 4 n
first-number n rest = part-first 4 0 (bytes_of 4 n) rest (omega (arith, length-bytes 4 n)) ∙ whole-number n

three-part : (f : ℕ → ℕ) (band : ℕ) → band < 3 → part 4 (4 * band) (three_readings f) ≡ bytes_of 4 (f band)
unfolding three_readings
three-part f zero l = first-number (f 0) (bytes_of 4 (f 1) ++ bytes_of 4 (f 2))
three-part f (suc zero) l =
    past-number 0 (f 0) (bytes_of 4 (f 1) ++ bytes_of 4 (f 2)) ∙ first-number (f 1) (bytes_of 4 (f 2))
three-part f (suc (suc zero)) l =
    past-number 4 (f 0) (bytes_of 4 (f 1) ++ bytes_of 4 (f 2)) ∙ past-number 0 (f 1) (bytes_of 4 (f 2)) ∙ whole-number (f 2)
three-part f (suc (suc (suc band))) l = let none : ⊥ = omega arith in absurd none

module _ (f : ℕ → ℕ → ℕ) (s : List ℕ) (long : length s ≡ sheet_length) where
  written-length : (n : ℕ) → n ≤ 12 → length (with_injected f s n) ≡ length s
  unfolding with_injected
  written-length zero l = refl
  written-length (suc n) l =
      let before = written-length n (omega arith) in
      length-stored (injected_place n) (three_readings (f n)) (with_injected f s n) (omega (arith, length_three (f n))) ∙ before

  written-part : (n : ℕ) → n ≤ 12 → (m : ℕ) → m < n → (band : ℕ) → band < 3 → part 4 (injected_place m + 4 * band) (with_injected f s n) ≡ bytes_of 4 (f m band)
  unfolding with_injected
  written-part zero to12 m l band b = let none : ⊥ = omega arith in absurd none
  written-part (suc n) to12 m l band b =
      let t = with_injected f s n in
      let room : injected_place n ≤ length t = omega (arith, written-length n (omega arith)) in
      below_suc (λ k. part 4 (injected_place k + 4 * band) (stored (injected_place n) (three_readings (f n)) t) ≡ bytes_of 4 (f k band)) n
      (λ k h. part-before 4 (injected_place k + 4 * band) (injected_place n) (three_readings (f n)) t (omega arith) room ∙ written-part n (omega arith) k h band b)
      (part-within 4 (4 * band) (injected_place n) (three_readings (f n)) t (omega (arith, length_three (f n))) room ∙ three-part (f n) band b)
      m l

  written-reading : (m : ℕ) → m < 12 → (band : ℕ) → band < 3 → f m band < 2 ^ 32 → injected (with_injected f s 12) m band ≡ f m band
  unfolding word number
  written-reading m l band b fits =
      let place : 32 + 96 * m + 4 * (3 + band) ≡ injected_place m + 4 * band = omega arith in
      ap (λ (at : ℕ). little_endian (part 4 at (with_injected f s 12))) place
      ∙ ap little_endian (written-part 12 (omega arith) m l band b)
      ∙ bytes-value 4 (f m band) fits

  written-elsewhere : (n : ℕ) → n ≤ 12 → (k : ℕ) → Elsewhere k → get_or (with_injected f s n) k 0 ≡ get_or s k 0
  unfolding with_injected
  written-elsewhere zero l k e = refl
  written-elsewhere (suc n) l k e =
      let t = with_injected f s n in
      let bs = three_readings (f n) in
      let room : injected_place n ≤ length t = omega (arith, written-length n (omega arith)) in
      let kept : get_or (stored (injected_place n) bs t) k 0 ≡ get_or t k 0 =
      ⊎_elim (λ h. byte-before k (injected_place n) bs t h room)
      (λ h. byte-after k (injected_place n) bs t (omega (arith, length_three (f n))) room) (e n (omega arith)) in
      kept ∙ written-elsewhere n (omega arith) k e

-- A FACTOR OF 0
none_passed : (raw : ℕ → ℕ) (m : ℕ) → rest_to 0 raw m ≡ 0
unfolding rest_to
none_passed raw zero = refl
none_passed raw (suc m) = let before = none_passed raw m in omega arith

unraised : (s : List ℕ) (m band : ℕ) → raised_reading 0 s m band ≡ injected s m band
unfolding raised_reading raised
unraised s m band = let before = none_passed (band_of s band) m in omega arith

module _ (s : List ℕ) (long : length s ≡ sheet_length) (bytes : Bytes s) where
  reading-back : (m : ℕ) → m < 12 → (band at : ℕ) → band < 3 → at ≡ injected_place m + 4 * band → bytes_of 4 (raised_reading 0 s m band) ≡ part 4 at s
  unfolding word
  reading-back m l band at b e =
      let place : 32 + 96 * m + 4 * (3 + band) ≡ at = omega arith in
      ap (bytes_of 4) (unraised s m band ∙ ap (λ (k : ℕ). number 4 k s) place) ∙ bytes_back 4 at s (omega arith) bytes

  three_back : (m : ℕ) → m < 12 → three_readings (raised_reading 0 s m) ≡ part 12 (injected_place m) s
  unfolding three_readings
  three_back m l =
      let at = injected_place m in
      ap₂ ◌++◌ (reading-back m l 0 at (omega arith) (omega arith))
      (ap₂ ◌++◌ (reading-back m l 1 (at + 4) (omega arith) (omega arith)) (reading-back m l 2 (at + 4 + 4) (omega arith) (omega arith)) ∙ sym (part-add 4 4 (at + 4) s))
      ∙ sym (part-add 4 8 at s)

  nothing_written : (n : ℕ) → n ≤ 12 → with_injected (raised_reading 0 s) s n ≡ s
  unfolding with_injected
  nothing_written zero l = refl
  nothing_written (suc n) l =
      ap₂ (λ (bs t : List ℕ). stored (injected_place n) bs t) (three_back n (omega arith)) (nothing_written n (omega arith))
      ∙ stored_same 12 (injected_place n) s (omega arith)

-- AN ACCEPTED CALL
module _ (factor : ℕ) (s : List ℕ) (accepted : raise_refusal factor s ≡ 0) where
  long : length s ≡ sheet_length
  long = accepted-length factor s accepted

  after : raised_after factor s ≡ raised_sheet factor s
  unfolding raised_after
  after = rw (eq-eqb (raise_refusal factor s) 0 accepted)

  fits : (m : ℕ) → m < 12 → (band : ℕ) → band < 3 → raised_reading factor s m band < 2 ^ 32
  unfolding some_above month_above reading_above
  fits m l band b =
      let month = none-at 12 (month_above factor s) (accepted-within factor s accepted) m l in
      let within = ltb-false max_kwh (raised_reading factor s m band) (none-at 3 (reading_above factor s m) month band b) in
      omega arith

  readings : (m : ℕ) → m < 12 → (band : ℕ) → band < 3 → injected (raised_after factor s) m band ≡ raised factor (band_of s band) m
  unfolding raised_sheet raised_reading
  readings m l band b = rw after (written-reading (raised_reading factor s) s long m l band b (fits m l band b))

  pub raised-well : RaisedWell factor s
  unfolding raised_sheet decembers_rest
  raised-well =
      record {
        bands = λ band b.
            rw (sum-cong 12 (λ m. injected (raised_after factor s) m band) (raised factor (band_of s band)) (λ m l. readings m l band b))
            (year-kept factor (band_of s band) 12);
        long = ap length after ∙ written-length (raised_reading factor s) s long 12 (omega arith);
        others = λ k e. ap (λ (t : List ℕ). get_or t k 0) after ∙ written-elsewhere (raised_reading factor s) s long 12 (omega arith) k e;
        unraised = λ none bytes. after ∙ ap (λ (g : ℕ). with_injected (raised_reading g s) s 12) none ∙ nothing_written s long bytes 12 (omega arith);
      }

pub accepted-raised : AcceptedRaise
accepted-raised = raised-well
