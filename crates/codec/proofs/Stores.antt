-- Laws of a store: the bytes stored are read back, and bytes before and after it stay.
use Prim.Native.Nat.{ℕ, ◌+◌, ◌-◌, ◌^◌, ◌≤◌, ◌<◌}
use mathlib.Core.Path.{◌≡◌, refl, sym, ap, ap₂, ◌∙◌}
use mathlib.Core.List.{List, ◌++◌, append_assoc}
use native.Mathlib.Nat.{add-zero}
use native.Mathlib.Omega.{arith}
use lib.ListN.{length, get_or, take, drop, length-append, length-take, length-drop, take-append-drop}
use lib.Seq.{take-append-le, drop-append-le, take_at, drop_at, length-take-le, sets, sets-eq, take-take, drop-append-add, drop-drop, get_or-take, get_or-drop}
use Rattle.codec.specs.Bytes.{little_endian, bytes_of, part, number, stored}
use Rattle.codec.proofs.Numbers.{length-bytes, bytes-value, drop-take}
use Rattle.codec.proofs.Parts.{part-first, part-second}

pub length-stored : (at : ℕ) (bs s : List ℕ) → at + length bs ≤ length s → length (stored at bs s) ≡ length s
unfolding stored
length-stored at bs s h = simp (length-append, length-take, length-drop) (omega arith)

-- what straight stores of the bytes one after the other leave
pub sets-stored : (at : ℕ) (bs s : List ℕ) → at + length bs ≤ length s → sets s at bs ≡ stored at bs s
unfolding stored
sets-stored at bs s h = sets-eq bs s at h ∙ append_assoc (take at s) bs (drop (at + length bs) s)

pub part-stored : (at : ℕ) (bs s : List ℕ) → at ≤ length s → part (length bs) at (stored at bs s) ≡ bs
unfolding part stored
part-stored at bs s h =
    ap (take (length bs)) (drop_at (take at s) (bs ++ drop (at + length bs) s) at (length-take-le at s h))
    ∙ take_at bs (drop (at + length bs) s) (length bs) refl

-- a part that ends before the store, and one that begins after it
pub part-before : (w o at : ℕ) (bs s : List ℕ) → o + w ≤ at → at ≤ length s → part w o (stored at bs s) ≡ part w o s
unfolding part stored
part-before w o at bs s h l =
    let reach : o ≤ length (take at s) = rw length-take (omega arith) in
    ap (take w) (drop-append-le o (take at s) (bs ++ drop (at + length bs) s) reach)
    ∙ take-append-le w (drop o (take at s)) (bs ++ drop (at + length bs) s) (simp (length-drop, length-take) (omega arith))
    ∙ ap (take w) (drop-take o at s)
    ∙ take-take w (at - o) (drop o s) (omega arith)

drop-after : (o at : ℕ) (bs s : List ℕ) → at + length bs ≤ o → at ≤ length s → drop o (stored at bs s) ≡ drop o s
unfolding stored
drop-after o at bs s h l =
    let end : length (take at s ++ bs) ≡ at + length bs = simp (length-append, length-take) (omega arith) in
    let reach : o ≡ length (take at s ++ bs) + (o - (at + length bs)) = rw end (omega arith) in
    let rest : (at + length bs) + (o - (at + length bs)) ≡ o = omega arith in
    ap (drop o) (sym (append_assoc (take at s) bs (drop (at + length bs) s)))
    ∙ ap (λ (k : ℕ). drop k ((take at s ++ bs) ++ drop (at + length bs) s)) reach
    ∙ drop-append-add (take at s ++ bs) (drop (at + length bs) s) (o - (at + length bs))
    ∙ drop-drop (o - (at + length bs)) (at + length bs) s
    ∙ ap (λ (k : ℕ). drop k s) rest

pub part-after : (w o at : ℕ) (bs s : List ℕ) → at + length bs ≤ o → at ≤ length s → part w o (stored at bs s) ≡ part w o s
unfolding part
part-after w o at bs s h l = ap (take w) (drop-after o at bs s h l)

-- a part within what is stored
pub part-within : (w o at : ℕ) (bs s : List ℕ) → o + w ≤ length bs → at ≤ length s → part w (at + o) (stored at bs s) ≡ part w o bs
unfolding stored
part-within w o at bs s h l =
    ap (λ (k : ℕ). part w (k + o) (take at s ++ (bs ++ drop (at + length bs) s))) (sym (length-take-le at s l))
    ∙ part-second w o (take at s) (bs ++ drop (at + length bs) s)
    ∙ part-first w o bs (drop (at + length bs) s) h

-- a byte before the store, and one after it
pub byte-before : (k at : ℕ) (bs s : List ℕ) → k < at → at ≤ length s → get_or (stored at bs s) k 0 ≡ get_or s k 0
unfolding stored
byte-before k at bs s h l =
    sym (get_or-take at (stored at bs s) k 0 h)
    ∙ ap (λ (t : List ℕ). get_or t k 0) (take_at (take at s) (bs ++ drop (at + length bs) s) at (length-take-le at s l))
    ∙ get_or-take at s k 0 h

byte-dropped : (k : ℕ) (s : List ℕ) → get_or (drop k s) 0 0 ≡ get_or s k 0
byte-dropped k s = get_or-drop k s 0 0 ∙ ap (λ (n : ℕ). get_or s n 0) (add-zero k)

pub byte-after : (k at : ℕ) (bs s : List ℕ) → at + length bs ≤ k → at ≤ length s → get_or (stored at bs s) k 0 ≡ get_or s k 0
byte-after k at bs s h l =
    sym (byte-dropped k (stored at bs s)) ∙ ap (λ (t : List ℕ). get_or t 0 0) (drop-after k at bs s h l) ∙ byte-dropped k s

-- a part stored where it stands
pub stored_same : (w at : ℕ) (s : List ℕ) → at + w ≤ length s → stored at (part w at s) s ≡ s
unfolding stored part
stored_same w at s h =
    let width : length (take w (drop at s)) ≡ w = simp (length-take, length-drop) (omega arith) in
    rw width (ap (λ (t : List ℕ). take at s ++ (take w (drop at s) ++ t)) (sym (drop-drop w at s)))
    ∙ ap (λ (t : List ℕ). take at s ++ t) (take-append-drop w (drop at s))
    ∙ take-append-drop at s

-- what is stored over a shorter piece leaves nothing of it
pub stored-over : (at : ℕ) (bs cs s : List ℕ) → length cs ≤ length bs → at + length bs ≤ length s
    → stored at bs (stored at cs s) ≡ stored at bs s
unfolding stored
stored-over at bs cs s h room =
    ap₂ (λ (l r : List ℕ). l ++ (bs ++ r)) (take_at (take at s) (cs ++ drop (at + length cs) s) at (length-take-le at s (omega arith)))
    (drop-after (at + length bs) at cs s (omega arith) (omega arith))

-- the number written is the number read
pub number-stored : (w at n : ℕ) (s : List ℕ) → n < 256 ^ w → at ≤ length s → number w at (stored at (bytes_of w n) s) ≡ n
unfolding number
number-stored w at n s h l =
    ap (λ (k : ℕ). little_endian (part k at (stored at (bytes_of w n) s))) (sym (length-bytes w n))
    ∙ ap little_endian (part-stored at (bytes_of w n) s l)
    ∙ bytes-value w n h
