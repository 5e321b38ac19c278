-- A fresh book has the head alone, and is sound.
use Prim.Native.Nat.{ℕ, zero, suc, ◌+◌, ◌-◌, ◌*◌, ◌/◌, ◌≤◌, ◌<◌}
use mathlib.Core.Path.{◌≡◌, refl, ◌∙◌}
use mathlib.Core.Bool.{true, and-true}
use mathlib.Core.List.{List}
use native.Mathlib.Omega.{arith}
use borrow.Author.Tests.{le-leb, eq-eqb}
use lib.Dec.{eqb}
use lib.ListN.{length, get_or, replicate, length-replicate, get_or-replicate}
use Rattle.units.specs.Limits.{record_length}
use Rattle.units.proofs.Folds.{all_of}
use Rattle.codec.specs.Bytes.{zeros}
use Rattle.codec.proofs.Numbers.{number-four}
use Rattle.book_layout.specs.Fields.{record_at, used_field, first_user_field, all_zero, unnamed_of_head}
use Rattle.book_layout.proofs.Places.{get-record, byte-record}
use Rattle.book_rules.specs.Book.{length_fits, fresh_book, used, used_fits, first_user, good_head, sound}
use Rattle.check_book.specs.Verdicts.{Accepted, fresh_after}
use Rattle.book_rules.proofs.Lengths.{length-least}
use Rattle.book_rules.proofs.Faults.{good-sound}

module _ (n : ℕ) (least : record_length ≤ n) where
  length-fresh : length (fresh_book n) ≡ n
  unfolding fresh_book
  length-fresh = let l : length {A = ℕ} (replicate (n - 1) 0) ≡ n - 1 = length-replicate (n - 1) 0 in omega arith

  byte-zero : (k : ℕ) → 1 ≤ k → k < record_length → get_or (fresh_book n) k 0 ≡ 0
  unfolding fresh_book
  byte-zero zero p h = let z : ⊥ = omega arith in absurd z
  byte-zero (suc k) p h = get_or-replicate (n - 1) k 0 0 (omega arith)

  byte_one : get_or (fresh_book n) 0 0 ≡ 1
  unfolding fresh_book
  byte_one = refl

  pub used-fresh : used (fresh_book n) ≡ 1
  unfolding used
  used-fresh =
      get-record used_field (fresh_book n) 0 (omega arith)
      ∙ number-four 0 (fresh_book n)
      ∙ omega (arith, byte_one, byte-zero 1 (omega arith) (omega arith), byte-zero 2 (omega arith) (omega arith), byte-zero 3 (omega arith) (omega arith))

  first-user-fresh : first_user (fresh_book n) ≡ 0
  unfolding first_user
  first-user-fresh =
      get-record first_user_field (fresh_book n) 0 (omega arith)
      ∙ number-four 4 (fresh_book n)
      ∙ omega (arith, byte-zero 4 (omega arith) (omega arith), byte-zero 5 (omega arith) (omega arith), byte-zero 6 (omega arith) (omega arith), byte-zero 7 (omega arith) (omega arith))

  used-fits-fresh : used_fits (fresh_book n) ≡ true
  unfolding used_fits
  used-fits-fresh =
      rw (used-fresh, length-fresh) (le-leb 1 (n / record_length) (omega arith))

  rest-fresh : all_zero unnamed_of_head (record_at (fresh_book n) 0) ≡ true
  unfolding all_zero zeros
  rest-fresh =
      rw and-true
      (all_of 72 (λ i. eqb (get_or (record_at (fresh_book n) 0) (8 + i) 0) 0)
      (λ i h. eq-eqb (get_or (record_at (fresh_book n) 0) (8 + i) 0) 0 (byte-record (fresh_book n) 0 (8 + i) (omega arith) ∙ byte-zero (record_length * 0 + (8 + i)) (omega arith) (omega arith))))

  head-fresh : good_head (fresh_book n) ≡ true
  unfolding good_head
  head-fresh = rw (first-user-fresh, rest-fresh)

  fresh-sound : sound (fresh_book n) ≡ true
  fresh-sound = good-sound (fresh_book n) used-fits-fresh head-fresh (λ i p h. let z : ⊥ = omega (arith, used-fresh) in absurd z)

fits_fresh : (b : List ℕ) → length_fits b ≡ true → length_fits (fresh_book (length b)) ≡ true
unfolding length_fits
fits_fresh b fits = rw (length-fresh (length b) (omega (arith, length-least b fits))) fits

-- what an accepted fresh leaves
pub fresh-accepted : (b : List ℕ) → length_fits b ≡ true → Accepted (fresh_after b)
unfolding fresh_after
fresh-accepted b fits =
    rw fits
    record { fits = fits_fresh b fits; is_sound = fresh-sound (length b) (omega (arith, length-least b fits)) }
