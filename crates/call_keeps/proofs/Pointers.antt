-- What points to a record before and after a booking: a new record is pointed to once, by what pointed to the front of its
-- chain, and it points on to that; every other record is pointed to as before.
use Prim.Native.Nat.{ℕ, ◌+◌, ◌≤◌}
use mathlib.Core.Path.{◌≡◌, refl}
use mathlib.Core.Bool.{true}
use mathlib.Core.List.{List}
use native.Mathlib.Omega.{arith}
use borrow.Author.Tests.{ne_eqb}
use Rattle.book_layout.specs.Fields.{record_at, user_kind}
use Rattle.book_rules.proofs.RecordKinds.{entry-index, entry-kind, entry-no-user}
use Rattle.book_rules.specs.Book.{first_user, kind_at, is_entry, next_of, first_entry_of, hits, pointers_from}

-- what the head, a user and an entry point to
pub from-head : (b : List ℕ) (k : ℕ) → pointers_from b k 0 ≡ hits (first_user b) k
unfolding pointers_from
from-head b k = refl

pub from-user : (b : List ℕ) (k j : ℕ) → 1 ≤ j → kind_at b j ≡ user_kind → pointers_from b k j ≡ hits (next_of b j) k + hits (first_entry_of b j) k
unfolding pointers_from
from-user b k j lo e = rw (ne_eqb j 0 (omega arith), e)

pub from-entry : (b : List ℕ) (k j : ℕ) → is_entry b j ≡ true → pointers_from b k j ≡ hits (next_of b j) k
unfolding pointers_from
from-entry b k j e =
    let lo = (entry-index b j e).0 in
    rw (ne_eqb j 0 (omega arith), ne_eqb (kind_at b j) user_kind (entry-no-user b j e), entry-kind b j e)

-- the same record points to the same
pub from-same : (b b' : List ℕ) (k j : ℕ) → 1 ≤ j → record_at b' j ≡ record_at b j → pointers_from b' k j ≡ pointers_from b k j
unfolding pointers_from kind_at next_of first_entry_of
from-same b b' k j lo e = rw (ne_eqb j 0 (omega arith), e)
