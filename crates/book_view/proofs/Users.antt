-- The record of a user of a sound book stands in it whole.
use Prim.Native.Nat.{ℕ, ◌+◌, ◌*◌, ◌≤◌}
use mathlib.Core.Path.{◌≡◌}
use mathlib.Core.Bool.{true}
use mathlib.Core.List.{List}
use lib.ListN.{length}
use Rattle.units.specs.Limits.{record_length}
use Rattle.book_layout.specs.Fields.{user_kind}
use Rattle.book_rules.specs.Book.{length_fits, is_user, sound}
use Rattle.book_rules.proofs.RecordKinds.{kind-index}
use Rattle.book_rules.proofs.Faults.{used-whole}
use Rattle.book_rules.proofs.Faultless.{sound-faultless}

pub user_whole : (b : List ℕ) (i : ℕ) → length_fits b ≡ true → sound b ≡ true → is_user b i ≡ true → record_length * i + record_length ≤ length b
user_whole b i fits h u = let f = sound-faultless b fits h in used-whole b f.used-fits i (kind-index b user_kind i u).1.0
