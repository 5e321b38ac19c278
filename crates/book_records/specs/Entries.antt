-- An entry by what it says, without its place: a kind of entry is a constructor. "Entry: .. year", "Advance: 5 run bit, 8–15
-- ticks.", and the year in which one of the later year was booked, else 0; "Closing: 5 option", and its sums. "Each entry keeps its
-- withheld ticks" (ticket 1).
use Rattle.std.specs.Prelude.{ℕ, cond, List, eqb}
use Rattle.units.specs.Units.{record_index}
use Rattle.units.specs.declared.Ticks.{Ticks}
use Rattle.account_steps.specs.declared.ClosingSums.{ClosingSums}
use Rattle.book_layout.specs.Fields.{get, kind_field, closing_kind}
use Rattle.book_records.specs.declared.AdvanceRecord.{AdvanceRecord}
use Rattle.book_records.specs.declared.ClosingRecord.{ClosingRecord}
use Rattle.book_records.specs.Records.{advance_in, closing_in, advance_image, closing_image}

pub data Entry : Type 0 where
  advance_entry : (year booked run : ℕ) (paid withheld : Ticks) → Entry
  closing_entry : (year option : ℕ) (sums : ClosingSums) (withheld : Ticks) → Entry

-- what the bytes of an entry say
abbrev pub of_advance : AdvanceRecord → Entry
of_advance a = advance_entry a.year a.booked a.run a.ticks a.withheld

abbrev pub of_closing : ClosingRecord → Entry
of_closing c = closing_entry c.year c.option c.sums c.withheld

unfoldable pub entry_in : List ℕ → Entry
entry_in r = cond (eqb (get kind_field r) closing_kind) (of_closing (closing_in r)) (of_advance (advance_in r))

-- an entry at its place: in front of the entry `next`, of the user at the index `owner`
abbrev pub advance_record : ℕ → ℕ → ℕ → ℕ → ℕ → Ticks → Ticks → AdvanceRecord
advance_record next owner year booked run paid withheld =
    record {
      next = record_index next;
      run = run;
      year = year;
      ticks = paid;
      owner = record_index owner;
      booked = booked;
      withheld = withheld;
    }

abbrev pub closing_record : ℕ → ℕ → ℕ → ℕ → ClosingSums → Ticks → ClosingRecord
closing_record next owner year option s withheld =
    record { next = record_index next; option = option; year = year; sums = s; owner = record_index owner; withheld = withheld }

unfoldable pub entry_image : ℕ → ℕ → Entry → List ℕ
entry_image next owner (advance_entry year booked run paid withheld) =
    advance_image (advance_record next owner year booked run paid withheld)
entry_image next owner (closing_entry year option s withheld) = closing_image (closing_record next owner year option s withheld)
