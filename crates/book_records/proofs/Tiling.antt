-- The fields of each kind and its unnamed bytes tile the 80 bytes: no byte is left out, none is in two fields. By computation.
use Prim.Native.Nat.{ℕ}
use mathlib.Core.Path.{◌≡◌, refl}
use mathlib.Core.Bool.{true}
use mathlib.Core.List.{◌++◌}
use Rattle.units.specs.Folds.{all_below}
use Rattle.book_layout.specs.Fields.{fields_of, times_in, tiles, unnamed_of_head, unnamed_of_user, unnamed_of_advance, unnamed_of_closing}
use Rattle.book_records.specs.declared.UserRecord.{UserRecord}
use Rattle.book_records.specs.declared.AdvanceRecord.{AdvanceRecord}
use Rattle.book_records.specs.declared.ClosingRecord.{ClosingRecord}
use Rattle.book_records.specs.Records.{head_cells, user_cells, advance_cells, closing_cells}

pub head-tiled : (used first : ℕ) → tiles (fields_of (head_cells used first) ++ unnamed_of_head) ≡ true
unfolding tiles times_in all_below
head-tiled used first = refl

pub user-tiled : (u : UserRecord) → tiles (fields_of (user_cells u) ++ unnamed_of_user) ≡ true
unfolding tiles times_in all_below
user-tiled u = refl

pub advance-tiled : (a : AdvanceRecord) → tiles (fields_of (advance_cells a) ++ unnamed_of_advance) ≡ true
unfolding tiles times_in all_below
advance-tiled a = refl

pub closing-tiled : (c : ClosingRecord) → tiles (fields_of (closing_cells c) ++ unnamed_of_closing) ≡ true
unfolding tiles times_in all_below
closing-tiled c = refl
