-- Every byte of a book is below 256: what keeps that, and what it says of a field.
use Prim.Native.Nat.{ℕ, ◌*◌, ◌^◌, ◌<◌}
use mathlib.Core.List.{List, [], ◌∷◌}
use lib.ListN.{replicate}
use Rattle.units.specs.Limits.{record_length}
use Rattle.codec.specs.Bytes.{bytes_of, stored}
pub use Rattle.codec.proofs.ByteRanges.{Bytes}
use Rattle.codec.proofs.ByteRanges.{of_number, of-zeros, of_part, of-stored, number-below}
use Rattle.book_layout.specs.Fields.{Field, get, record_at, put_record, Cell, written, image}

pub bytes-put : (i : ℕ) (r b : List ℕ) → Bytes r → Bytes b → Bytes (put_record i r b)
unfolding put_record
bytes-put i r b hr hb = of-stored (record_length * i) r b hr hb

bytes-record : (b : List ℕ) (i : ℕ) → Bytes b → Bytes (record_at b i)
unfolding record_at
bytes-record b i h = of_part record_length (record_length * i) b h

bytes-written : (cs : List Cell) (r : List ℕ) → Bytes r → Bytes (written cs r)
unfolding written
bytes-written [] r h = h
bytes-written (c ∷ cs) r h =
    bytes-written cs (stored c.field.from (bytes_of c.field.size c.value) r)
    (of-stored c.field.from (bytes_of c.field.size c.value) r (of_number c.field.size c.value) h)

pub bytes-image : (cs : List Cell) → Bytes (image cs)
bytes-image cs = bytes-written cs (replicate record_length 0) (of-zeros record_length)

get-below : (f : Field) (r : List ℕ) → Bytes r → get f r < 256 ^ f.size
unfolding get
get-below f r h = number-below f.size f.from r h

pub field_below : (f : Field) (b : List ℕ) (i : ℕ) → Bytes b → get f (record_at b i) < 256 ^ f.size
field_below f b i h = get-below f (record_at b i) (bytes-record b i h)
