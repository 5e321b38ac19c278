-- The image of a closing: its length and its zero bytes, what each field reads, and that the value read back is the one
-- written. Each is the law of images at the list of its cells.
use Prim.Native.Nat.{ℕ, ◌^◌, ◌<◌}
use mathlib.Core.Path.{◌≡◌, refl, ap, ◌∙◌}
use mathlib.Core.Bool.{true}
use mathlib.Core.List.{List}
use lib.Dec.{lit<}
use lib.ListN.{length}
use mir.Facts.{Fits-of_z}
use Rattle.std.specs.Prelude.{FitsSigned}
use Rattle.std.specs.Int.{w64, cast_signed}
use Rattle.std.proofs.lemmas.Int.{to_z-of_z}
use Rattle.units.specs.Limits.{record_length}
use Rattle.units.specs.Units.{ticks, record_index}
use Rattle.book_layout.specs.Fields.{get, all_zero, unnamed_of_closing, image, closing_kind, balance_field, closing_option_field, contribution_field, cost_field, flat_rate_field, kind_field}
use Rattle.book_layout.specs.Fields.{lapsed_field, liquidation_field, next_field, owner_field, withheld_field, value_field, year_field}
use Rattle.account_steps.specs.Account.{balance}
use Rattle.book_layout.proofs.Cells.{cell_at, length-image, read-image, unnamed-image}
use Rattle.book_layout.proofs.ByteRanges.{Bytes, bytes-image}
use Rattle.book_records.specs.declared.ClosingRecord.{ClosingRecord}
use Rattle.book_records.specs.Records.{closing_cells, closing_image, closing_in}

-- Every number fits its type. The program knows this of each value that it holds (`.good` of a parameter, `.ok` of a
-- result); of a value read from bytes it is the last law below.
pub record ClosingFits (c : ClosingRecord) : Type 0 where
  pub next : c.next.0 < 2 ^ 32
  pub option : c.option < 2 ^ 8
  pub year : c.year < 2 ^ 16
  pub value : c.sums.value.0 < 2 ^ 64
  pub cost : c.sums.cost.0 < 2 ^ 64
  pub flat_rate : c.sums.flat_rate.0 < 2 ^ 64
  pub contribution : c.sums.contribution.0 < 2 ^ 64
  pub liquidation : c.sums.liquidation.0 < 2 ^ 64
  pub lapsed : c.sums.lapsed.0 < 2 ^ 64
  pub balance : FitsSigned w64 c.sums.balance.0
  pub owner : c.owner.0 < 2 ^ 32
  pub withheld : c.withheld.0 < 2 ^ 64

-- what the fields of a record of this kind hold
pub record ClosingReads (c : ClosingRecord) (r : List ℕ) : Type 0 where
  pub next : get next_field r ≡ c.next.0
  pub kind : get kind_field r ≡ closing_kind
  pub option : get closing_option_field r ≡ c.option
  pub year : get year_field r ≡ c.year
  pub value : get value_field r ≡ c.sums.value.0
  pub cost : get cost_field r ≡ c.sums.cost.0
  pub flat_rate : get flat_rate_field r ≡ c.sums.flat_rate.0
  pub contribution : get contribution_field r ≡ c.sums.contribution.0
  pub liquidation : get liquidation_field r ≡ c.sums.liquidation.0
  pub lapsed : get lapsed_field r ≡ c.sums.lapsed.0
  pub balance : cast_signed w64 (get balance_field r) ≡ c.sums.balance.0
  pub owner : get owner_field r ≡ c.owner.0
  pub withheld : get withheld_field r ≡ c.withheld.0

module _ (c : ClosingRecord) where
  pub length-closing-image : length (closing_image c) ≡ record_length
  unfolding closing_image
  length-closing-image = length-image (closing_cells c) refl

  pub bytes-closing-image : Bytes (closing_image c)
  unfolding closing_image
  bytes-closing-image = bytes-image (closing_cells c)

  -- the bytes that no field names
  pub closing-unnamed : all_zero unnamed_of_closing (closing_image c) ≡ true
  unfolding closing_image
  closing-unnamed = unnamed-image (closing_cells c) refl unnamed_of_closing refl

  read : (n : ℕ) → (cell_at (closing_cells c) n).value < 256 ^ (cell_at (closing_cells c) n).field.size
      → get (cell_at (closing_cells c) n).field (image (closing_cells c)) ≡ (cell_at (closing_cells c) n).value
  read = read-image (closing_cells c) refl refl

  pub closing-reads : ClosingFits c → ClosingReads c (closing_image c)
  unfolding closing_image
  closing-reads h =
      record {
        next = read 0 h.next;
        kind = read 1 (lit< tt);
        option = read 2 h.option;
        year = read 3 h.year;
        value = read 4 h.value;
        cost = read 5 h.cost;
        flat_rate = read 6 h.flat_rate;
        contribution = read 7 h.contribution;
        liquidation = read 8 h.liquidation;
        lapsed = read 9 h.lapsed;
        balance = ap (cast_signed w64) (read 10 (Fits-of_z {w = w64} h.balance).fits) ∙ to_z-of_z w64 c.sums.balance.0 h.balance;
        owner = read 11 h.owner;
        withheld = read 12 h.withheld;
      }

-- a record whose fields read so holds the value
closing-decoded : (c : ClosingRecord) (r : List ℕ) → ClosingReads c r → closing_in r ≡ c
unfolding closing_in
closing-decoded c r h =
    λ i.
    record {
      next = record_index (h.next i);
      option = h.option i;
      year = h.year i;
      sums =
          record {
            value = ticks (h.value i);
            cost = ticks (h.cost i);
            flat_rate = ticks (h.flat_rate i);
            contribution = ticks (h.contribution i);
            liquidation = ticks (h.liquidation i);
            lapsed = ticks (h.lapsed i);
            balance = balance (h.balance i);
          };
      owner = record_index (h.owner i);
      withheld = ticks (h.withheld i);
    }

-- reading gives back what was written
pub closing-back : (c : ClosingRecord) → ClosingFits c → closing_in (closing_image c) ≡ c
closing-back c h = closing-decoded c (closing_image c) (closing-reads c h)
