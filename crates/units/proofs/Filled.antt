-- An array that a loop fills from the front: what its places below n hold.
use Prim.Native.Nat.{ℕ, ◌+◌, ◌≤◌, ◌<◌}
use mathlib.Core.Path.{◌≡◌, ◌∙◌}
use mathlib.Core.List.{List}
use native.Mathlib.Omega.{arith}
use borrow.Author.Count.{below_more}
use lib.ListN.{length, get_or, set}
use lib.Seq.{get_or-set_same, get_or-set_other}

module _ {A : Type 0} (d : A) (f : ℕ → A) where
  abbrev pub Filled : ℕ → List A → Type 0
  Filled n a = (m : ℕ) → m < n → get_or a m d ≡ f m

  -- the next place is stored, and those before it stay
  pub filled_next : (n : ℕ) (a : List A) (v : A) → n < length a → v ≡ f n → Filled n a → Filled (n + 1) (set a n v)
  filled_next n a v l e h =
      below_more (λ m. get_or (set a n v) m d ≡ f m) n
      (λ m b. let other : m ≡ n → ⊥ = omega arith in get_or-set_other a n m v d other ∙ h m b)
      (get_or-set_same a n v d l ∙ e)

  -- so many places, of which those below n hold what they are to hold
  pub record Filling (places n : ℕ) (a : List A) : Type 0 where
    pub within : n ≤ places
    pub long : length a ≡ places
    pub filled : Filled n a

-- a slice that so many turns write into: after i of them it is what is told
pub record Written (turns i : ℕ) (before after told : List ℕ) : Type 0 where
  pub within : i ≤ turns
  pub same : length after ≡ length before
  pub written : after ≡ told
