-- A test of some number of a range is the test below its end.
use Rattle.std.proofs.Common.{◌≡◌, ℕ, zero, suc, ◌+◌, Bool, List, [], ◌∷◌, ◌++◌, refl, sym, ap, ◌∙◌, arith}
use Rattle.std.specs.List.{range_with_len, list_any}
use Rattle.std.proofs.lemmas.List.FromFn.{map-range_with_len_more}
use Rattle.std.proofs.lemmas.List.{map-id}
use Rattle.std.proofs.lemmas.List.Folds.{list_any-append}
use Rattle.std.proofs.Math.Bool.{or-false}
use Rattle.units.specs.Folds.{any_below}

pub list_any_range : (p : ℕ → Bool) (n : ℕ) → list_any p (range_with_len 0 n) ≡ any_below n p
unfolding any_below
list_any_range p zero = refl
list_any_range p (suc n) =
    let one : n + 1 ≡ suc n = omega arith in
    let more = map-range_with_len_more (λ k. k) 0 n n (omega arith) in
    let range : range_with_len 0 (suc n) ≡ range_with_len 0 n ++ n ∷ [] =
    ap (range_with_len 0) (sym one) ∙ sym (map-id (range_with_len 0 (n + 1))) ∙ more ∙ ap (λ (ks : List ℕ). ks ++ n ∷ []) (map-id (range_with_len 0 n)) in
    ap (list_any p) range ∙ list_any-append p (range_with_len 0 n) (n ∷ []) ∙ rw (list_any_range p n, or-false)
