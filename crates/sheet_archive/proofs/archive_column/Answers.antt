-- The first number as it is, then each difference: after a turn one number more of the column stands in its line.
use Rattle.std.proofs.Common.{◌≡◌, ℕ, ◌+◌, ◌*◌, ◌≤◌, List, length, sym, refl, ◌∙◌, arith, rules}
use Rattle.codec.specs.Bytes.{bytes_of, stored}
use Rattle.sheet_archive.specs.Tables.{header_length, table_line}
use Rattle.sheet_archive.specs.Archive.{differences, in_sheet, sheet_columns, sheet_months}
use Rattle.sheet_archive.specs.InnerSteps.{column_place}
use Rattle.sheet_archive.proofs.Columns.{before-next, difference-worked}
use Rattle.sheet_archive.proofs.Writing.{line-begun, line-next, line-again}
use Rattle.sheet_archive.proofs.archive_column.Invariants.{less}
use Rattle.sheet_archive.proofs.archive_column.Goals as goal

first-stored : (s a a₀ : List ℕ) (column place n : ℕ) → column_place column + 4 ≤ length a → a₀ ≡ stored place (bytes_of 4 n) a
    → place ≡ header_length + 4 * (sheet_months * column + 0) → n ≡ in_sheet sheet_columns s column 0 → a₀ ≡ stored (column_place
    column) (table_line 1 (less s column)) a
unfolding differences
first-stored s a a₀ column place n room e p v =
    e ∙ line-next (column_place column) (less s column) a 0 a place n (omega arith) (line-begun (column_place column) (less s
    column) a) (omega arith) v

pub loop-month-init : goal.loop-month-init
loop-month-init c =
    let w = c.put in
    let place = c.place_in in
    let number = c.number_in-last in
    let a = c.args in
    let first = first-stored a.sheet.now a.archive.now w.new.s a.column place.result number.result (omega arith) w.ensures
    place.ensures number.ensures in record {
      first = search rules;
      within = search rules;
      carried = before-next (in_sheet sheet_columns a.sheet.now a.column) 0 number.ensures;
      same = search rules;
      written = first ∙ sym (line-again (column_place a.column) (less a.sheet.now a.column) w.new.s 1 1 a.archive.now (omega
          arith) (omega arith) first);
    }

pub loop-month-preserved : goal.loop-month-preserved
loop-month-preserved c =
    let w = c.put-in-loop-month in
    let place = c.place_in-in-loop-month in
    let number = c.number_in-number in
    let l = c.loop-month in
    let a = c.args in
    let t₀ = c.put in
    let column = in_sheet sheet_columns a.sheet.now a.column in record {
      first = search rules;
      within = search rules;
      carried = before-next column l.month number.ensures;
      same = omega (arith, w.auto.s);
      written = w.ensures
          ∙ line-next (column_place a.column) (less a.sheet.now a.column) t₀.new.s l.month l.archive place.result _
          (omega (arith, t₀.auto.s, c.requires)) l.invariant.written (omega (arith, place.ensures))
          (difference-worked column l.month (search rules) number.ensures l.invariant.carried refl);
    }

pub returns : goal.returns
returns c =
    let l = c.loop-month in
    let w = c.put in
    let place = c.place_in in
    let number = c.number_in-last in
    let a = c.args in
    let end : l.month ≡ sheet_months = omega arith in
    let first = first-stored a.sheet.now a.archive.now w.new.s a.column place.result number.result (omega arith) w.ensures
    place.ensures number.ensures in
    rw end at l.invariant.written
    ∙ line-again (column_place a.column) (less a.sheet.now a.column) w.new.s 1 sheet_months a.archive.now (omega arith) (omega
    arith) first
