-- A number that was found within its width is at most that.
use Rattle.std.proofs.Common.{◌≡◌, ℕ, ◌<◌, ◌≤◌, ◌≢◌, Bool, true, false, List, length, get_or, arith, sym, ◌∙◌, ap}
use Rattle.std.specs.Prelude.{nat_le}
use Rattle.std.specs.List.{zip}
use Rattle.std.proofs.lemmas.List.Folds.{list_all_at}
use Rattle.std.proofs.lemmas.Slice.Zip.{length-zip, get_or-zip}
use Rattle.std.proofs.lemmas.Bool.{true≢false}
use Rattle.std.proofs.lemmas.Bool.Decides.{nat_tests}
use Rattle.replay_script.specs.Requests.{all_within}

pub within_at : (values most : List ℕ) (k : ℕ) → all_within values most ≡ true → k < length values → k < length most
    → get_or values k 0 ≤ get_or most k 0
unfolding all_within
within_at values most k e l h =
    let small : ℕ × ℕ → Bool = λ p. nat_le p.0 p.1 in
    let pair = get_or-zip values most k (0, 0) l h in
    let inside : k < length (zip values most) = omega (arith, length-zip values most) in
    let no : nat_le (get_or values k 0) (get_or most k 0) ≢ false = λ q. true≢false (sym e ∙ list_all_at small (zip values most) k (0, 0) inside (ap small pair ∙ q)) in
    grind (arith, nat_tests)
