-- Laws of a record's place in the book: a record that is put is read back, and every other record stays. A record is a
-- part of the book, and a put is a store of 80 bytes, so each is a law of parts and stores.
use Prim.Native.Nat.{ℕ, ◌+◌, ◌-◌, ◌*◌, ◌≤◌, ◌<◌, min}
use mathlib.Core.Path.{◌≡◌, sym, ap, ◌∙◌}
use mathlib.Core.List.{List}
use native.Mathlib.Decide.{dec_le, dec_lt}
use native.Mathlib.Omega.{arith}
use lib.ListN.{length, get_or, take, drop, length-drop, drop_of_length-le}
use lib.Seq.{take_all, get_or-take, get_or-drop}
use Rattle.units.specs.Limits.{record_length}
use Rattle.codec.specs.Bytes.{part, number, stored}
use Rattle.codec.proofs.Numbers.{number-part}
use Rattle.codec.proofs.Stores.{length-stored, part-stored, part-before, part-after}
use Rattle.book_layout.specs.Fields.{Field, get, record_at, put_record}

-- a part that is cut at the end of the string
drop-clipped : (at : ℕ) (s : List ℕ) → drop (min at (length s)) s ≡ drop at s
drop-clipped at s = by_order (dec_le at (length s))
  where
    by_order : Dec (at ≤ length s) → drop (min at (length s)) s ≡ drop at s
    by_order (yes h) = let e : min at (length s) ≡ at = omega arith in rw e
    by_order (no h) =
        let from : length s ≤ min at (length s) = omega (arith, h) in
        let past : length s ≤ at = omega (arith, h) in
        drop_of_length-le s from ∙ sym (drop_of_length-le s past)

pub part-clipped : (w at : ℕ) (s : List ℕ)
    → take (min (at + w) (length s) - min at (length s)) (drop (min at (length s)) s) ≡ part w at s
unfolding part
part-clipped w at s = by_order (dec_le (at + w) (length s))
  where
    goal : Type 0
    goal = take (min (at + w) (length s) - min at (length s)) (drop (min at (length s)) s) ≡ take w (drop at s)

    by_order : Dec (at + w ≤ length s) → goal
    by_order (yes h) =
        let e : min (at + w) (length s) - min at (length s) ≡ w = omega arith in
        rw (e, drop-clipped at s)
    by_order (no h) =
        take_all (min (at + w) (length s) - min at (length s)) (drop (min at (length s)) s) (rw length-drop (omega (arith, h)))
        ∙ drop-clipped at s
        ∙ sym (take_all w (drop at s) (rw length-drop (omega (arith, h))))

pub length-put : (i : ℕ) (r b : List ℕ) → length r ≡ record_length → record_length * i + record_length ≤ length b
    → length (put_record i r b) ≡ length b
unfolding put_record
length-put i r b l h = length-stored (record_length * i) r b (omega arith)

pub record-put-same : (i : ℕ) (r b : List ℕ) → length r ≡ record_length → record_length * i + record_length ≤ length b
    → record_at (put_record i r b) i ≡ r
unfolding record_at put_record
record-put-same i r b l h =
    ap (λ (n : ℕ). part n (record_length * i) (stored (record_length * i) r b)) (sym l)
    ∙ part-stored (record_length * i) r b (omega arith)

pub record-put-other : (i j : ℕ) (r b : List ℕ) → (j ≡ i → ⊥) → length r ≡ record_length
    → record_length * i + record_length ≤ length b → record_at (put_record i r b) j ≡ record_at b j
unfolding record_at put_record
record-put-other i j r b n l h = by_order (dec_lt j i)
  where
    by_order : Dec (j < i)
        → part record_length (record_length * j) (stored (record_length * i) r b) ≡ part record_length (record_length * j) b
    by_order (yes p) = part-before record_length (record_length * j) (record_length * i) r b (omega arith) (omega arith)
    by_order (no p) = part-after record_length (record_length * j) (record_length * i) r b (omega (arith, p)) (omega arith)

-- a field of a record, as a number of the book
pub get-record : (f : Field) (b : List ℕ) (i : ℕ) → f.from + f.size ≤ record_length
    → get f (record_at b i) ≡ number f.size (record_length * i + f.from) b
unfolding get record_at
get-record f b i h = number-part f.size f.from record_length (record_length * i) b h

-- a byte of a part, and of a record, as a byte of the whole
pub part-byte : (at w k : ℕ) (s : List ℕ) → k < w → get_or (part w at s) k 0 ≡ get_or s (at + k) 0
unfolding part
part-byte at w k s h = get_or-take w (drop at s) k 0 h ∙ get_or-drop at s k 0

pub byte-record : (b : List ℕ) (i k : ℕ) → k < record_length → get_or (record_at b i) k 0 ≡ get_or b (record_length * i + k) 0
unfolding record_at
byte-record b i k h = part-byte (record_length * i) record_length k b h
