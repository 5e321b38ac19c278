-- THE THIRD DEMAND: over every list of calls from a fresh book.
use Prim.Native.Nat.{ℕ, zero, suc, ◌-◌}
use mathlib.Core.Path.{◌≡◌, subst}
use mathlib.Core.Bool.{true}
use mathlib.Core.List.{List}
use mathlib.Core.Option.{none, some}
use native.Mathlib.Omega.{arith}
use lib.ListN.{length}
use Rattle.book_layout.specs.Fields.{user_kind}
use Rattle.book_layout.proofs.Cells.{zero-byte}
use Rattle.book_layout.proofs.ByteRanges.{Bytes}
use Rattle.book_rules.specs.Book.{length_fits, fresh_book, is_user}
use Rattle.book_rules.proofs.Lengths.{length-least}
use Rattle.book_rules.proofs.RecordKinds.{kind-index}
use Rattle.check_book.specs.Verdicts.{Accepted, fresh_after}
use Rattle.check_book.proofs.FreshBooks.{fresh-accepted, used-fresh}
use Rattle.ledger.specs.Ledger.{Ledger}
use Rattle.call_rules.specs.Calls.{Call, AllTyped}
use Rattle.call_keeps.proofs.Good.{Good, sound-good}
use Rattle.ledger_agrees.specs.Lists.{made_of}
use Rattle.ledger_agrees.specs.Fed.{ledger_of, NoneDamaged}
use Rattle.ledger_agrees.proofs.Lists.{Demanded, demanded}
use Rattle.ledger_agrees.proofs.Undamaged as undamaged

fresh-bytes : (n : ℕ) → Bytes (fresh_book n)
unfolding fresh_book
fresh-bytes n zero = omega arith
fresh-bytes n (suc k) = let z = zero-byte (n - 1) k in omega arith

module _ (b : List ℕ) (fits : length_fits b ≡ true) where
  after-fresh : fresh_after b ≡ fresh_book (length b)
  unfolding fresh_after
  after-fresh = rw fits

  pub fresh-good : Good (fresh_book (length b))
  fresh-good =
      let after = subst Accepted after-fresh (fresh-accepted b fits) in
      sound-good (fresh_book (length b)) (fresh-bytes (length b)) after.fits after.is_sound

  fresh-empty : (i : ℕ) → is_user (fresh_book (length b)) i ≡ true → ⊥
  fresh-empty i u =
      let place = kind-index (fresh_book (length b)) user_kind i u in
      let one = used-fresh (length b) (omega (arith, length-least b fits)) in
      omega (arith, place.0, place.1.0, one)

  -- whatever is called, each user's statement is the ledger's, and the ledger's sums are right
  pub third-demand : (cs : List Call) → AllTyped cs → (number : ℕ) (l : Ledger) → ledger_of number (made_of (fresh_book (length b)) cs) none ≡ some l
      → Demanded (fresh_book (length b)) cs number l
  third-demand cs typed number l fed = demanded number cs (fresh_book (length b)) fresh-good fresh-empty typed l fed

  -- and no call finds the book damaged
  pub never-damaged : (cs : List Call) → AllTyped cs → NoneDamaged (made_of (fresh_book (length b)) cs)
  never-damaged cs typed = undamaged.never-damaged cs (fresh_book (length b)) fresh-good typed
