-- Laws of an image: its cells are written one after the other, so a cell is read back where no later one overlaps it, and
-- a byte that no cell names is 0.
use Prim.Native.Nat.{ℕ, zero, suc, ◌+◌, ◌^◌, ◌≤◌, ◌<◌}
use mathlib.Core.Path.{◌≡◌, refl, sym, ap, ◌∙◌}
use mathlib.Core.Bool.{Bool, true, false, ◌&&◌, ◌||◌}
use mathlib.Core.List.{List, [], ◌∷◌}
use native.Mathlib.Omega.{arith}
use borrow.Author.Tests.{leb-true, eq-eqb}
use lib.Dec.{leb, eqb}
use lib.ListN.{length, get_or, replicate, length-replicate}
use Rattle.units.specs.Limits.{record_length}
use Rattle.units.proofs.Bools.{and_left, and_right, and_both}
use Rattle.units.proofs.Folds.{all_of}
use Rattle.codec.specs.Bytes.{little_endian, bytes_of, part, number, stored, zeros}
use Rattle.codec.proofs.Numbers.{length-bytes}
use Rattle.codec.proofs.Stores.{length-stored, part-before, part-after, number-stored}
use Rattle.book_layout.proofs.Places.{part-byte}
use Rattle.book_layout.specs.Fields.{Field, bytes, get, all_zero, Cell, ◌holds◌, written, image}

-- a field ends within a record; two fields share no byte
abbrev pub within : Field → Bool
within f = leb (f.from + f.size) record_length

abbrev pub apart : Field → Field → Bool
apart f g = leb (f.from + f.size) g.from || leb (g.from + g.size) f.from

abbrev all_within : List Cell → Bool
all_within [] = true
all_within (c ∷ cs) = within c.field && all_within cs

abbrev pub apart_from : Field → List Cell → Bool
apart_from f [] = true
apart_from f (c ∷ cs) = apart f c.field && apart_from f cs

abbrev pub apart_from_all : List Field → List Cell → Bool
apart_from_all [] cs = true
apart_from_all (f ∷ fs) cs = apart_from f cs && apart_from_all fs cs

abbrev pub all_apart : List Cell → Bool
all_apart [] = true
all_apart (c ∷ cs) = apart_from c.field cs && all_apart cs

-- the record with one cell written
abbrev put : Cell → List ℕ → List ℕ
put c r = stored c.field.from (bytes_of c.field.size c.value) r

module _ (c : Cell) (r : List ℕ) (l : length r ≡ record_length) (w : within c.field ≡ true) where
  end : c.field.from + length (bytes_of c.field.size c.value) ≤ record_length
  end = rw length-bytes (leb-true (c.field.from + c.field.size) record_length w)

  length-cell : length (put c r) ≡ record_length
  length-cell = length-stored c.field.from (bytes_of c.field.size c.value) r (omega (arith, end)) ∙ l

  part-cell : (f : Field) → apart f c.field ≡ true → part f.size f.from (put c r) ≡ part f.size f.from r
  part-cell f a = by-test (leb (f.from + f.size) c.field.from) refl
    where
      by-test : (t : Bool) → leb (f.from + f.size) c.field.from ≡ t → part f.size f.from (put c r) ≡ part f.size f.from r
      by-test true e =
          part-before f.size f.from c.field.from (bytes_of c.field.size c.value) r
          (leb-true (f.from + f.size) c.field.from e) (omega (arith, end))
      by-test false e =
          part-after f.size f.from c.field.from (bytes_of c.field.size c.value) r
          (rw length-bytes (leb-true (c.field.from + c.field.size) f.from (rw e at a)))
          (omega (arith, end))

  read-put : c.value < 256 ^ c.field.size → get c.field (put c r) ≡ c.value
  unfolding get
  read-put h = number-stored c.field.size c.field.from c.value r h (omega (arith, end))

length-written : (cs : List Cell) (r : List ℕ) → length r ≡ record_length → all_within cs ≡ true
    → length (written cs r) ≡ record_length
unfolding written
length-written [] r l w = l
length-written (c ∷ cs) r l w =
    length-written cs (put c r) (length-cell c r l (and_left (within c.field) (all_within cs) w)) (and_right (within c.field) (all_within cs) w)

-- a part that no cell touches stays
part-kept : (f : Field) (cs : List Cell) (r : List ℕ) → length r ≡ record_length → all_within cs ≡ true → apart_from f cs ≡ true
    → part f.size f.from (written cs r) ≡ part f.size f.from r
unfolding written
part-kept f [] r l w a = refl
part-kept f (c ∷ cs) r l w a =
    let here : within c.field ≡ true = and_left (within c.field) (all_within cs) w in
    part-kept f cs (put c r) (length-cell c r l here) (and_right (within c.field) (all_within cs) w) (and_right (apart f c.field) (apart_from f cs) a)
    ∙ part-cell c r l here f (and_left (apart f c.field) (apart_from f cs) a)

get-kept : (f : Field) (cs : List Cell) (r : List ℕ) → length r ≡ record_length → all_within cs ≡ true → apart_from f cs ≡ true
    → get f (written cs r) ≡ get f r
unfolding get number
get-kept f cs r l w a = ap little_endian (part-kept f cs r l w a)

-- the cell at a place of the list; an empty one past its end
abbrev pub cell_at : List Cell → ℕ → Cell
cell_at cs k = get_or cs k (bytes 0 0 holds 0)

read-empty : (r : List ℕ) → get (bytes 0 0) r ≡ 0
unfolding get number part little_endian
read-empty r = refl

read-written : (cs : List Cell) (k : ℕ) (r : List ℕ) → length r ≡ record_length → all_within cs ≡ true → all_apart cs ≡ true
    → (cell_at cs k).value < 256 ^ (cell_at cs k).field.size → get (cell_at cs k).field (written cs r) ≡ (cell_at cs k).value
unfolding written
read-written [] k r l w a h = read-empty r
read-written (c ∷ cs) zero r l w a h =
    let here : within c.field ≡ true = and_left (within c.field) (all_within cs) w in
    get-kept c.field cs (put c r) (length-cell c r l here) (and_right (within c.field) (all_within cs) w)
    (and_left (apart_from c.field cs) (all_apart cs) a)
    ∙ read-put c r l here h
read-written (c ∷ cs) (suc k) r l w a h =
    let here : within c.field ≡ true = and_left (within c.field) (all_within cs) w in
    read-written cs k (put c r) (length-cell c r l here) (and_right (within c.field) (all_within cs) w)
    (and_right (apart_from c.field cs) (all_apart cs) a) h

pub zero-byte : (n k : ℕ) → ◌≡◌ {A = ℕ} (get_or (replicate n 0) k 0) 0
zero-byte zero k = refl
zero-byte (suc n) zero = refl
zero-byte (suc n) (suc k) = zero-byte n k

abbrev blank : List ℕ
blank = replicate record_length 0

blank-length : length blank ≡ record_length
blank-length = length-replicate {A = ℕ} record_length 0

-- Laws of an image, each under tests that compute at a list of fields.
module _ (cs : List Cell) (w : all_within cs ≡ true) where
  pub length-image : length (image cs) ≡ record_length
  length-image = length-written cs blank blank-length w

  -- each cell reads its value
  pub read-image : all_apart cs ≡ true → (k : ℕ) → (cell_at cs k).value < 256 ^ (cell_at cs k).field.size
      → get (cell_at cs k).field (image cs) ≡ (cell_at cs k).value
  read-image a k h = read-written cs k blank blank-length w a h

  -- bytes that no cell names are zero
  zeros-image : (from n : ℕ) → apart_from (bytes from n) cs ≡ true → zeros from n (image cs) ≡ true
  unfolding zeros
  zeros-image from n a = all_of n (λ i. eqb (get_or (image cs) (from + i) 0) 0) (λ i h. eq-eqb (get_or (image cs) (from + i) 0) 0 (byte i h))
    where
      byte : (i : ℕ) → i < n → get_or (image cs) (from + i) 0 ≡ 0
      byte i h =
          sym (part-byte from n i (image cs) h)
          ∙ ap (λ (p : List ℕ). get_or p i 0) (part-kept (bytes from n) cs blank blank-length w a)
          ∙ part-byte from n i blank h
          ∙ zero-byte record_length (from + i)

  pub unnamed-image : (fs : List Field) → apart_from_all fs cs ≡ true → all_zero fs (image cs) ≡ true
  unfolding all_zero
  unnamed-image [] a = refl
  unnamed-image (f ∷ fs) a =
      and_both (zeros-image f.from f.size (and_left (apart_from f cs) (apart_from_all fs cs) a)) (unnamed-image fs (and_right (apart_from f cs) (apart_from_all fs cs) a))
