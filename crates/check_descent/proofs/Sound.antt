-- A book that one pass from its last record down to its first has passed is sound.
use Prim.Native.Nat.{ℕ, suc, ◌+◌, ◌-◌, ◌≤◌, ◌<◌}
use mathlib.Core.Path.{◌≡◌}
use mathlib.Core.Bool.{true}
use mathlib.Core.Logic.{◌⊎◌, inl, inr}
use mathlib.Core.List.{List}
use native.Mathlib.Omega.{arith}
use borrow.Author.Tests.{ne_eqb}
use Rattle.units.proofs.Bools.{and_both}
use Rattle.book_layout.specs.Fields.{user_kind}
use Rattle.book_rules.specs.Book.{used, kind_at, is_user, is_entry, ranges_fit, zero_bytes_fit, links_fit, good_record, good_head, sound}
use Rattle.book_rules.proofs.Faults.{used-within, good-sound}
use Rattle.book_rules.proofs.RecordKinds.{kind-is, entry-no-user}
use Rattle.check_descent.specs.InnerDescent.{met, MetUser, MetEntry, AllMet}
use Rattle.check_descent.proofs.Steps.{met_at}
use Rattle.check_descent.proofs.Users.{first-user-fits, user-next-fits, number-new}
use Rattle.check_descent.proofs.Entries.{first-entry-fits, first-in-order, owner-fits, entry-next-fits, next-in-order}
use Rattle.check_descent.proofs.Pointers.{pointed-once}

module _ (b : List ℕ) (p : AllMet b) where
  head-good : good_head b ≡ true
  unfolding good_head
  head-good = and_both (first-user-fits b p (used-within b p.used-fits).0) p.rest

  -- the record i
  module _ (i : ℕ) (lo : 1 ≤ i) (hi : i < used b) where
    user-links : (d : ℕ) → i + suc d ≡ used b → MetUser b d → is_user b i ≡ true → links_fit b i ≡ true
    unfolding links_fit
    user-links d e m u =
        rw (kind-is b user_kind i u, user-next-fits b p i d e lo m, number-new b p i d e m, first-entry-fits b p i u, first-in-order b p i u)

    entry-links : (d : ℕ) → i + suc d ≡ used b → MetEntry b d → is_entry b i ≡ true → links_fit b i ≡ true
    unfolding links_fit
    entry-links d e m h =
        rw (ne_eqb (kind_at b i) user_kind (entry-no-user b i h), owner-fits b p i d e lo m, entry-next-fits b p i d e lo m, next-in-order b p i d e lo m)

    record-good : good_record b i ≡ true
    unfolding good_record
    record-good = by-record (p.each d (omega arith))
      where
        d : ℕ
        d = used b - suc i

        place : i + suc d ≡ used b
        place = omega arith

        here : met b d ≡ i
        here = met_at b i d place

        good : ranges_fit b (met b d) ≡ true → zero_bytes_fit b (met b d) ≡ true → links_fit b i ≡ true → good_record b i ≡ true
        good ranges zero-bytes links = and_both (and_both (and_both (rw here at ranges) (rw here at zero-bytes)) links) (pointed-once b p i lo hi)

        by-record : MetUser b d ⊎ MetEntry b d → good_record b i ≡ true
        by-record (inl m) = good m.ranges m.zero-bytes (user-links d place m (rw here at m.user))
        by-record (inr m) = good m.ranges m.zero-bytes (entry-links d place m (rw here at m.entry))

pub passed-sound : (b : List ℕ) → AllMet b → sound b ≡ true
passed-sound b p = good-sound b p.used-fits (head-good b p) (record-good b p)
