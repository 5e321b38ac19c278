-- Where a number is found: at the one user that bears it, or nowhere.
use Prim.Native.Nat.{ℕ, ◌<◌}
use mathlib.Core.Path.{◌≡◌, sym, ◌∙◌}
use mathlib.Core.Bool.{true}
use mathlib.Core.List.{List}
use native.Mathlib.Decide.{dec_lt}
use native.Mathlib.Omega.{arith}
use Rattle.book_rules.specs.Book.{is_user, number_of}
use Rattle.book_rules.proofs.Faultless.{Faultless}
use Rattle.book_rules.specs.Find.{find_user}
use Rattle.chains.proofs.Users.{numbers-differ}
use Rattle.call_keeps.proofs.Numbers.{found, none_found}

pub found-is : (b : List ℕ) → Faultless b → (n i : ℕ) → is_user b i ≡ true → number_of b i ≡ n → find_user b n ≡ i
found-is b g n i u e =
    let there = found b n (λ z. none_found b n z i u e) in
    numbers-differ b g (find_user b n) i there.user u (there.number_is ∙ sym e)

pub nowhere : (b : List ℕ) (n : ℕ) → ((i : ℕ) → is_user b i ≡ true → number_of b i ≡ n → ⊥) → find_user b n ≡ 0
nowhere b n none = by_place (dec_lt 0 (find_user b n))
  where
    by_place : Dec (0 < find_user b n) → find_user b n ≡ 0
    by_place (yes some) = let there = found b n (λ z. let w : ⊥ = omega arith in w) in absurd (none (find_user b n) there.user there.number_is)
    by_place (no m) = omega (arith, m)
