-- The image of an advance: its length and its zero bytes, what each field reads, and that the value read back is the one
-- written. Each is the law of images at the list of its cells.
use Prim.Native.Nat.{ℕ, ◌^◌, ◌<◌}
use mathlib.Core.Path.{◌≡◌, refl}
use mathlib.Core.Bool.{true}
use mathlib.Core.List.{List}
use lib.Dec.{lit<}
use lib.ListN.{length}
use Rattle.units.specs.Limits.{record_length}
use Rattle.units.specs.Units.{ticks, record_index}
use Rattle.book_layout.specs.Fields.{get, all_zero, unnamed_of_advance, image, advance_kind, booked_field, withheld_field, kind_field, next_field, owner_field, run_field, ticks_field, year_field}
use Rattle.book_layout.proofs.Cells.{cell_at, length-image, read-image, unnamed-image}
use Rattle.book_layout.proofs.ByteRanges.{Bytes, bytes-image}
use Rattle.book_records.specs.declared.AdvanceRecord.{AdvanceRecord}
use Rattle.book_records.specs.Records.{advance_cells, advance_image, advance_in}

-- Every number fits its type. The program knows this of each value that it holds (`.good` of a parameter, `.ok` of a
-- result); of a value read from bytes it is the last law below.
pub record AdvanceFits (a : AdvanceRecord) : Type 0 where
  pub next : a.next.0 < 2 ^ 32
  pub run : a.run < 2 ^ 8
  pub year : a.year < 2 ^ 16
  pub ticks : a.ticks.0 < 2 ^ 64
  pub owner : a.owner.0 < 2 ^ 32
  pub booked : a.booked < 2 ^ 16
  pub withheld : a.withheld.0 < 2 ^ 64

-- what the fields of a record of this kind hold
pub record AdvanceReads (a : AdvanceRecord) (r : List ℕ) : Type 0 where
  pub next : get next_field r ≡ a.next.0
  pub kind : get kind_field r ≡ advance_kind
  pub run : get run_field r ≡ a.run
  pub year : get year_field r ≡ a.year
  pub ticks : get ticks_field r ≡ a.ticks.0
  pub owner : get owner_field r ≡ a.owner.0
  pub booked : get booked_field r ≡ a.booked
  pub withheld : get withheld_field r ≡ a.withheld.0

module _ (a : AdvanceRecord) where
  pub length-advance-image : length (advance_image a) ≡ record_length
  unfolding advance_image
  length-advance-image = length-image (advance_cells a) refl

  pub bytes-advance-image : Bytes (advance_image a)
  unfolding advance_image
  bytes-advance-image = bytes-image (advance_cells a)

  -- the bytes that no field names
  pub advance-unnamed : all_zero unnamed_of_advance (advance_image a) ≡ true
  unfolding advance_image
  advance-unnamed = unnamed-image (advance_cells a) refl unnamed_of_advance refl

  read : (n : ℕ) → (cell_at (advance_cells a) n).value < 256 ^ (cell_at (advance_cells a) n).field.size
      → get (cell_at (advance_cells a) n).field (image (advance_cells a)) ≡ (cell_at (advance_cells a) n).value
  read = read-image (advance_cells a) refl refl

  pub advance-reads : AdvanceFits a → AdvanceReads a (advance_image a)
  unfolding advance_image
  advance-reads h =
      record {
        next = read 0 h.next;
        kind = read 1 (lit< tt);
        run = read 2 h.run;
        year = read 3 h.year;
        ticks = read 4 h.ticks;
        owner = read 5 h.owner;
        booked = read 6 h.booked;
        withheld = read 7 h.withheld;
      }

-- a record whose fields read so holds the value
advance-decoded : (a : AdvanceRecord) (r : List ℕ) → AdvanceReads a r → advance_in r ≡ a
unfolding advance_in
advance-decoded a r h =
    λ i.
    record {
      next = record_index (h.next i);
      run = h.run i;
      year = h.year i;
      ticks = ticks (h.ticks i);
      owner = record_index (h.owner i);
      booked = h.booked i;
      withheld = ticks (h.withheld i);
    }

-- reading gives back what was written
pub advance-back : (a : AdvanceRecord) → AdvanceFits a → advance_in (advance_image a) ≡ a
advance-back a h = advance-decoded a (advance_image a) (advance-reads a h)
