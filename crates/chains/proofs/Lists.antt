-- Lists of indexes: membership, a fact of every member, a strictly falling list.
use Prim.Native.Nat.{ℕ, ◌<◌}
use mathlib.Core.List.{List, [], ◌∷◌, Memᴰ}

infix 5 ◌∈◌
abbrev pub ◌∈◌ : ℕ → List ℕ → Type 0
e ∈ es = Memᴰ e es

abbrev pub All : (ℕ → Type 0) → List ℕ → Type 0
All P [] = Unit {0}
All P (e ∷ es) = P e × All P es

-- each member is above all that follow, so that none stands twice
abbrev pub Falling : List ℕ → Type 0
Falling [] = Unit {0}
Falling (e ∷ es) = All (λ k. k < e) es × Falling es

pub all_map : (P Q : ℕ → Type 0) (es : List ℕ) → ((e : ℕ) → P e → Q e) → All P es → All Q es
all_map P Q [] f a = tt
all_map P Q (e ∷ es) f a = (f e a.0, all_map P Q es f a.1)
