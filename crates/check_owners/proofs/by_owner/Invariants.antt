-- The entries passed so far are linked.
use Prim.Native.Nat.{ℕ, ◌≤◌}
use mathlib.Core.Path.{◌≡◌}
use mathlib.Core.List.{List}
use Rattle.std.proofs.Common.{Option}
use lib.ListN.{length}
use Rattle.units.specs.declared.RecordIndex.{RecordIndex}
use Rattle.units.specs.Limits.{most_records}
use Rattle.check_owners.proofs.Lists.{LinkedFrom}
use Rattle.check_owners.proofs.by_owner.Given as goal

pub record Linking (book : List ℕ) (records : ℕ) (first later : List (Option RecordIndex)) (left : ℕ) : Type 0 where
  pub within : left ≤ records
  pub firsts : length first ≡ most_records
  pub laters : length later ≡ most_records
  pub linked : LinkedFrom book left first later

abbrev pub invariant-loop-e : goal.invariant-loop-e
invariant-loop-e l = Linking l.book.bytes.now l.records l.first l.later l.e
