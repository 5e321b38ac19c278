-- Texts joined in a row, one after the other.
use Prim.Native.Nat.{ℕ, zero, suc, ◌+◌, ◌≤◌, ◌<◌}
use mathlib.Core.Path.{◌≡◌, refl, sym, ap, ◌∙◌}
use mathlib.Core.List.{List, [], ◌∷◌, ◌++◌, append_assoc, append-nil}
use native.Mathlib.Numerals.{add-one}
use native.Mathlib.Omega.{arith}
use lib.ListN.{length, get_or, take, set, length-append}
use lib.Seq.{take_all, take_at, take-suc, take-suc-set, length-take-le}
use Rattle.output.specs.InnerRows.{row_room, joined, blanks}

pub full : (bytes : List ℕ) (count b : ℕ) → length bytes ≡ row_room → row_room ≤ count → take count bytes ≡ joined (take count bytes) (b ∷ [])
unfolding joined
full bytes count b size h =
    let all = take_all count bytes (omega arith) in
    rw all (sym (take_at bytes (b ∷ []) row_room size))

pub added : (bytes : List ℕ) (count b : ℕ) → length bytes ≡ row_room → count < row_room
    → take (count + 1) (set bytes count b) ≡ joined (take count bytes) (b ∷ [])
unfolding joined
added bytes count b size h =
    let long = length-take-le count bytes (omega arith) in
    rw (add-one, take-suc-set bytes count b (omega arith))
    (sym (take_all row_room (take count bytes ++ (b ∷ [])) (simp length-append (omega arith))))

cut_twice : (n : ℕ) (x y : List ℕ) → take n (take n x ++ y) ≡ take n (x ++ y)
cut_twice zero x y = refl
cut_twice (suc n) [] y = refl
cut_twice (suc n) (a ∷ x) y = ap (λ (l : List ℕ). a ∷ l) (cut_twice n x y)

pub nothing-joined : (s : List ℕ) → length s ≤ row_room → s ≡ joined s []
unfolding joined
nothing-joined s h = rw append-nil (sym (take_all row_room s h))

joined-twice : (s t u : List ℕ) → joined (joined s t) u ≡ joined s (t ++ u)
unfolding joined
joined-twice s t u = cut_twice row_room (s ++ t) u ∙ ap (take row_room) (append_assoc s t u)

pub one_more : (s t : List ℕ) (k : ℕ) → k < length t → joined (joined s (take k t)) (get_or t k 0 ∷ []) ≡ joined s (take (k + 1) t)
one_more s t k h = joined-twice s (take k t) (get_or t k 0 ∷ []) ∙ ap (joined s) (rw (add-one, take-suc t k 0 h))

pub one-blank-more : (s : List ℕ) (k : ℕ) → joined (joined s (blanks k)) (32 ∷ []) ≡ joined s (blanks (k + 1))
unfolding blanks
one-blank-more s k = joined-twice s (blanks k) (32 ∷ []) ∙ ap (joined s) (rw add-one)
