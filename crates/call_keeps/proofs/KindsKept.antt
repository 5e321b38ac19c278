-- Kinds under a frame: at an old index every kind stays, and none is lost.
use Prim.Native.Nat.{ℕ, ◌<◌}
use mathlib.Core.Path.{◌≡◌, ap, ◌∙◌}
use mathlib.Core.Bool.{true, ◌&&◌, Bool}
use mathlib.Core.List.{List}
use native.Mathlib.Decide.{dec_lt}
use native.Mathlib.Omega.{arith}
use borrow.Author.Tests.{lt-ltb, le-ltb}
use lib.Dec.{ltb, eqb}
use Rattle.book_layout.specs.Fields.{get, owner_field}
use Rattle.book_records.specs.Records.{account_in}
use Rattle.sheet_values.specs.declared.Details.{Details}
use Rattle.book_rules.specs.Book.{used, kind_at, has_kind, is_user, is_entry, owner_of, level_of, activation_of, level_in, entry_kind}
use Rattle.book_rules.proofs.RecordKinds.{kind-index, entry-index}
use Rattle.call_keeps.proofs.Frame.{Frame}

module _ (b b' : List ℕ) (i : ℕ) (f : Frame b b' i) where
  -- a test of the kind, where the record is in use, answers the same
  test-same : (test : ℕ → Bool) (j : ℕ) → j < used b → ((ltb 0 j && ltb j (used b')) && test (kind_at b' j)) ≡ ((ltb 0 j && ltb j (used b)) && test (kind_at b j))
  test-same test j hi = by_place (dec_lt 0 j)
    where
      by_place : Dec (0 < j) → ((ltb 0 j && ltb j (used b')) && test (kind_at b' j)) ≡ ((ltb 0 j && ltb j (used b)) && test (kind_at b j))
      by_place (yes lo) =
          let hi' : j < used b' = omega (arith, f.grows) in
          rw (lt-ltb 0 j lo, lt-ltb j (used b) hi, lt-ltb j (used b') hi', f.kind j lo hi)
      by_place (no n) = rw (le-ltb 0 j (omega (arith, n)))

  pub kind-same : (k j : ℕ) → j < used b → has_kind b' k j ≡ has_kind b k j
  unfolding has_kind
  kind-same k j hi = test-same (λ n. eqb n k) j hi

  entry-same : (j : ℕ) → j < used b → is_entry b' j ≡ is_entry b j
  unfolding is_entry
  entry-same j hi = test-same entry_kind j hi

  pub kind-stays : (k j : ℕ) → has_kind b k j ≡ true → has_kind b' k j ≡ true
  kind-stays k j h = kind-same k j (kind-index b k j h).1.0 ∙ h

  pub entry-stays : (j : ℕ) → is_entry b j ≡ true → is_entry b' j ≡ true
  entry-stays j h = entry-same j (entry-index b j h).1 ∙ h

  -- an entry keeps its owner and its year, a user its activation
  pub owner-same : (j : ℕ) → is_entry b j ≡ true → owner_of b' j ≡ owner_of b j
  unfolding owner_of
  owner-same j h = ap (get owner_field) (f.entry j h)

  pub level-same : (j : ℕ) → is_entry b j ≡ true → level_of b' j ≡ level_of b j
  unfolding level_of
  level-same j h = ap level_in (f.entry j h)

  pub activation-same : (j : ℕ) → is_user b j ≡ true → activation_of b' j ≡ activation_of b j
  unfolding activation_of account_in
  activation-same j h = ap (λ (d : Details). d.year) (f.details j h)
