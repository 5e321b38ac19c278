-- The crossing from sums of natural numbers to the signed sums of a statement.
use Prim.Native.Nat.{ℕ, ◌+◌}
use mathlib.Core.Path.{◌≡◌, ap, sym, ◌∙◌}
use lib.IntN.{ℤ, pos, neg_ℤ, ◌+ℤ◌, ◌-ℤ◌, +ℤ_assoc, +ℤ_comm, +ℤ-neg_ℤ_cancel, -ℤ-+ℤ_cancel}

-- a difference and a sum change places
add-past : (x y z : ℤ) → (x -ℤ y) +ℤ z ≡ (x +ℤ z) -ℤ y
add-past x y z = +ℤ_assoc x (neg_ℤ y) z ∙ ap (λ w. x +ℤ w) (+ℤ_comm (neg_ℤ y) z) ∙ sym (+ℤ_assoc x z (neg_ℤ y))

-- one year more: its balance x − a joins the balances b, its advances a join those of the closed years
pub balance-joins : (x a b closed c : ℤ) → b +ℤ closed ≡ c → ((x -ℤ a) +ℤ b) +ℤ (closed +ℤ a) ≡ x +ℤ c
balance-joins x a b closed c e =
    sym (+ℤ_assoc ((x -ℤ a) +ℤ b) closed a)
    ∙ ap (λ w. w +ℤ a) (+ℤ_assoc (x -ℤ a) b closed ∙ ap (λ w. (x -ℤ a) +ℤ w) e ∙ add-past x a c)
    ∙ -ℤ-+ℤ_cancel (x +ℤ c) a

-- contributions x, liquidations g, lapsed credit p and standing credit k that come to the value s and the flat-rate parts f
pub regrouped : (x g p k s f : ℕ) → x + g + p + k ≡ s + f → (((pos x -ℤ pos f) +ℤ pos g) +ℤ pos p) +ℤ pos k ≡ pos s
regrouped x g p k s f e =
    ap (λ w. (w +ℤ pos p) +ℤ pos k) (add-past (pos x) (pos f) (pos g))
    ∙ ap (λ w. w +ℤ pos k) (add-past (pos (x + g)) (pos f) (pos p))
    ∙ add-past (pos (x + g + p)) (pos f) (pos k)
    ∙ ap (λ n. pos n -ℤ pos f) e
    ∙ +ℤ-neg_ℤ_cancel (pos s) (pos f)
