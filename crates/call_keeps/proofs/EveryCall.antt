-- Every call leaves a good book good, and what it leaves alone is one frame.
use Prim.Native.Nat.{ℕ}
use mathlib.Core.Path.{◌≡◌, refl}
use mathlib.Core.Bool.{Bool, true, false, cond}
use mathlib.Core.List.{List}
use borrow.Author.Tests.{eq-eqb, eqb-true}
use lib.Dec.{eqb}
use Rattle.book_rules.specs.Find.{find_user}
use Rattle.call_rules.specs.Refusals.{user_at}
use Rattle.call_rules.specs.Calls.{Call, named_by, refusal_of, change_of, booked, book_after, Typed}
use Rattle.call_rules.specs.Laws.{KeepsSound}
use Rattle.call_rules.proofs.Orders.{length-fact}
use Rattle.call_keeps.proofs.Good.{Good, sound-good, good-sound}
use Rattle.call_keeps.proofs.Changes.{Changed, change-made, Kept, changed-keeps, touched, adds}
use Rattle.call_keeps.proofs.CallsFit.{call_fits}

pub call-made : (b : List ℕ) → Good b → (c : Call) → Typed c → refusal_of b c ≡ 0
    → Changed b (find_user b (named_by c)) (booked b c) (change_of (user_at b (named_by c)) c)
unfolding booked
call-made b g c t h = change-made b g (find_user b (named_by c)) (change_of (user_at b (named_by c)) c) (call_fits b g c t h)

pub call-keeps : (b : List ℕ) → Good b → (c : Call) → Typed c → refusal_of b c ≡ 0
    → Kept b (booked b c) (touched b (find_user b (named_by c)) (change_of (user_at b (named_by c)) c)) (adds (change_of (user_at b (named_by c)) c))
call-keeps b g c t h = changed-keeps b g (find_user b (named_by c)) (booked b c) (change_of (user_at b (named_by c)) c) (call-made b g c t h)

-- "Every accepted call leaves a sound book sound."
pub accepted-sound : KeepsSound
unfolding book_after
accepted-sound b bytes s c t h =
    let g = sound-good b bytes (length-fact b c h) s in
    rw (eq-eqb (refusal_of b c) 0 h) (good-sound (booked b c) (call-keeps b g c t h).good)

-- and so does every call, accepted or refused
pub call-good : (b : List ℕ) → Good b → (c : Call) → Typed c → Good (book_after b c)
unfolding book_after
call-good b g c t = by_answer (eqb (refusal_of b c) 0) refl
  where
    by_answer : (a : Bool) → eqb (refusal_of b c) 0 ≡ a → Good (cond (eqb (refusal_of b c) 0) (booked b c) b)
    by_answer true e = rw e (call-keeps b g c t (eqb-true (refusal_of b c) 0 e)).good
    by_answer false e = rw e g
