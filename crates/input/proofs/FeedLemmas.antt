-- The first line feed, and what stands before and behind it.
use Rattle.std.proofs.Common.{◌≡◌, ◌≢◌, ℕ, suc, ◌+◌, ◌≤◌, List, ◌∷◌, ◌++◌, length, get_or, take, drop, sym, ap, subst, ◌∙◌, arith, length-take-le, length-drop, take-take, take_all, le_refl}
use Rattle.std.proofs.lemmas.List.{take-append-drop, get_or-drop, get_or-take, drop-take}
use Rattle.std.proofs.lemmas.List.Elements.{All-append, All-from_get_or}
use Rattle.std.proofs.lemmas.Bool.{eq-eqb, eqb-true}
use Rattle.std.proofs.Math.Seq.{drop-cons}
use Rattle.memchr.specs.Find.{is_byte, Nowhere, NoneBefore, Passes}
use Rattle.input.specs.Input.{Unfed, FirstFeed}

-- bytes fall into those before their first line feed, it, and those behind it
pub at_feed : (bytes : List ℕ) (at : ℕ) → FirstFeed bytes at → bytes ≡ take at bytes ++ 10 ∷ drop (at + 1) bytes
at_feed bytes at f =
    let next : suc at ≡ at + 1 = omega arith in
    sym (take-append-drop at bytes)
    ∙ ap (λ (l : List ℕ). take at bytes ++ l)
    (drop-cons bytes at 0 f.within ∙ ap (λ (b : ℕ). b ∷ drop (suc at) bytes) f.feed ∙ ap (λ (k : ℕ). 10 ∷ drop k bytes) next)

-- no byte of the first n passes the search's test
unfed_front : (bytes : List ℕ) (n : ℕ) → n ≤ length bytes → Nowhere (Passes (is_byte 10) bytes) 0 n → Unfed (take n bytes)
unfed_front bytes n size none =
    let long = length-take-le n bytes size in
    All-from_get_or (λ b. b ≢ 10) (take n bytes) 0
    (λ i l feed. none i (omega arith) (omega arith) (eq-eqb (get_or bytes i 0) 10 (sym (get_or-take n bytes i 0 (omega arith)) ∙ feed)))

-- a search behind what was searched
module _ (bytes : List ℕ) (searched : ℕ) (size : searched ≤ length bytes) (none : Unfed (take searched bytes)) where
  abbrev tail : List ℕ
  tail = drop searched bytes

  joined : (n : ℕ) → Unfed (take n tail) → Unfed (take (searched + n) bytes)
  joined n p =
      subst Unfed (take-append-drop searched (take (searched + n) bytes))
      (All-append (λ b. b ≢ 10) (take searched (take (searched + n) bytes)) (drop searched (take (searched + n) bytes))
      (subst Unfed (sym (take-take searched (searched + n) bytes (omega arith))) none)
      (subst Unfed (sym (drop-take searched n bytes)) p))

  pub unfed_behind : Nowhere (Passes (is_byte 10) tail) 0 (length tail) → Unfed bytes
  unfed_behind p =
      let long = length-drop searched bytes in
      subst Unfed (take_all (searched + length tail) bytes (omega arith)) (joined (length tail) (unfed_front tail (length tail) (le_refl (length tail)) p))

  pub feed_behind : (at : ℕ) → NoneBefore (Passes (is_byte 10) tail) 0 (length tail) at × Passes (is_byte 10) tail at → FirstFeed bytes (searched + at)
  feed_behind at p =
      let long = length-drop searched bytes in
      let high = p.0.high in
      record {
        within = omega arith;
        before = joined at (unfed_front tail at (omega arith) p.0.before);
        feed = sym (get_or-drop searched bytes at 0) ∙ eqb-true (get_or tail at 0) 10 p.1;
      }
