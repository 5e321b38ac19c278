-- The users' chain of a sound book holds the users and no other record, by falling index, and their numbers differ.
use Prim.Native.Nat.{ℕ, ◌<◌}
use mathlib.Core.Path.{◌≡◌, sym, ◌∙◌}
use mathlib.Core.Bool.{Bool, true, ◌&&◌, true≢false}
use mathlib.Core.List.{List}
use native.Mathlib.Decide.{dec_lt}
use native.Mathlib.Omega.{arith}
use lib.Dec.{eqb}
use borrow.Author.Tests.{eq-eqb, not-true}
use Rattle.units.specs.Folds.{any_below}
use Rattle.units.proofs.Bools.{and_both}
use Rattle.units.proofs.Folds.{none-at}
use Rattle.book_rules.specs.Book.{used, first_user, is_user, next_of, number_of, number_is_new}
use Rattle.book_rules.proofs.Faultless.{Faultless}
use Rattle.book_rules.specs.Chains.{users_of}
use Rattle.chains.proofs.Lists.{◌∈◌, Falling}
use Rattle.chains.proofs.Chain.{chain-falling, chain-complete}
use Rattle.book_rules.proofs.RecordKinds.{user-index}
use Rattle.chains.proofs.Links.{first-user, users-fall}
use Rattle.chains.proofs.Pointers.{user-pointed}

module _ (b : List ℕ) (f : Faultless b) where
  abbrev User : ℕ → Type 0
  User i = is_user b i ≡ true

  pub users-falling : Falling (users_of b)
  unfolding users_of
  users-falling = chain-falling User (next_of b) (users-fall b f) (first_user b) (first-user b f)

  pub users-complete : (i : ℕ) → is_user b i ≡ true → i ∈ users_of b
  unfolding users_of
  users-complete i u =
      chain-complete User (next_of b) (users-fall b f) (first_user b) (used b) (first-user b f) (user-index b) (user-pointed b f) i u

  -- "no user with a smaller index has its number"
  number-above : (i j : ℕ) → is_user b i ≡ true → is_user b j ≡ true → j < i → number_of b j ≡ number_of b i → ⊥
  unfolding number_is_new
  number-above i j u v l e =
      let taken : ℕ → Bool = λ k. is_user b k && eqb (number_of b k) (number_of b i) in
      true≢false (sym (and_both v (eq-eqb (number_of b j) (number_of b i) e)) ∙ none-at i taken (not-true (any_below i taken) (f.user i u).number) j l)

  pub numbers-differ : (i j : ℕ) → is_user b i ≡ true → is_user b j ≡ true → number_of b i ≡ number_of b j → i ≡ j
  numbers-differ i j u v e = either (dec_lt i j) (dec_lt j i)
    where
      either : Dec (i < j) → Dec (j < i) → i ≡ j
      either (yes l) d = absurd (number-above j i v u l e)
      either (no m) (yes l) = absurd (number-above i j u v l (sym e))
      either (no m) (no n) = omega (arith, m, n)
