-- A string is stored piece by piece, each where the one before it ends.
use Prim.Native.Nat.{ℕ, suc, ◌+◌, ◌≤◌, ◌<◌}
use mathlib.Core.Path.{◌≡◌, sym, ap, ◌∙◌}
use mathlib.Core.List.{List, [], ◌∷◌, ◌++◌}
use native.Mathlib.Nat.{add-zero}
use native.Mathlib.Omega.{arith}
use lib.ListN.{length, set, length-append, take-append-drop}
use lib.Seq.{sets, length-sets}
use Rattle.codec.specs.Bytes.{stored}
use Rattle.codec.proofs.Stores.{sets-stored}

sets-append : (at : ℕ) (bs cs s : List ℕ) → sets s at (bs ++ cs) ≡ sets (sets s at bs) (at + length bs) cs
sets-append at [] cs s = rw add-zero
sets-append at (x ∷ bs) cs s =
    let next : at + suc (length bs) ≡ suc at + length bs = omega arith in
    rw next (sets-append (suc at) bs cs (set s at x))

pub stored-then : (at : ℕ) (bs cs s : List ℕ) → at + (length bs + length cs) ≤ length s
    → stored (at + length bs) cs (stored at bs s) ≡ stored at (bs ++ cs) s
stored-then at bs cs s h =
    let both : at + length (bs ++ cs) ≤ length s = rw length-append h in
    let room : at + length bs + length cs ≤ length (sets s at bs) = rw length-sets (omega arith) in
    ap (stored (at + length bs) cs) (sym (sets-stored at bs s (omega arith)))
    ∙ sym (sets-stored (at + length bs) cs (sets s at bs) room)
    ∙ sym (sets-append at bs cs s)
    ∙ sets-stored at (bs ++ cs) s both

-- one byte more after those stored
pub stored_next : (at x : ℕ) (bs s : List ℕ) → at + length bs < length s
    → set (stored at bs s) (at + length bs) x ≡ stored at (bs ++ (x ∷ [])) s
stored_next at x bs s h =
    let both : at + length (bs ++ (x ∷ [])) ≤ length s = rw length-append (omega arith) in
    ap (λ (l : List ℕ). set l (at + length bs) x) (sym (sets-stored at bs s (omega arith)))
    ∙ sym (sets-append at bs (x ∷ []) s)
    ∙ sets-stored at (bs ++ (x ∷ [])) s both

pub stored-none : (at : ℕ) (s : List ℕ) → stored at [] s ≡ s
unfolding stored
stored-none at s = rw add-zero (take-append-drop at s)
