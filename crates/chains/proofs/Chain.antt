-- Chains over a set of indexes that a next index does not leave: enough fuel, one link, equal chains of two next indexes, and
-- what stands on a chain.
use Prim.Native.Nat.{ℕ, zero, suc, ◌+◌, ◌≤◌, ◌<◌}
use mathlib.Core.Path.{◌≡◌, refl, sym, ap, ◌∙◌, subst}
use mathlib.Core.Logic.{◌⊎◌, inl, inr, ⊎_elim}
use mathlib.Core.List.Memᴰ
use mathlib.Core.List.{List, [], ◌∷◌}
use native.Mathlib.Decide.{dec_lt}
use native.Mathlib.Omega.{arith}
use lib.ListN.{length}
use borrow.Author.Tests.{eq-eqb, ne_eqb}
use Rattle.book_rules.specs.Chains.{chain, chain_from}
use Rattle.chains.proofs.Lists.{◌∈◌, All, Falling, all_map}

-- zero, which ends a chain, or an index of the set
abbrev pub On : (ℕ → Type 0) → ℕ → Type 0
On P i = (i ≡ 0) ⊎ P i

-- the next index of one in the set ends the chain or is in the set, ..
abbrev pub Closed : (ℕ → Type 0) → (ℕ → ℕ) → Type 0
Closed P next = (i : ℕ) → P i → On P (next i)

-- .. and is smaller
abbrev pub Falls : (ℕ → Type 0) → (ℕ → ℕ) → Type 0
Falls P next = (i : ℕ) → P i → (next i ≡ 0) ⊎ (P (next i) × (next i < i))

pub falls-closed : (P : ℕ → Type 0) (next : ℕ → ℕ) → Falls P next → Closed P next
falls-closed P next falls i p =
    ⊎_elim (λ (e : next i ≡ 0). inl e) (λ (q : P (next i) × (next i < i)). inr q.0) (falls i p)

module _ (next : ℕ → ℕ) where
  chain-end : (fuel i : ℕ) → i ≡ 0 → chain next fuel i ≡ []
  unfolding chain
  chain-end zero i e = refl
  chain-end (suc fuel) i e = rw (eq-eqb i 0 e)

  chain_link : (fuel i : ℕ) → 1 ≤ i → chain next (suc fuel) i ≡ i ∷ chain next fuel (next i)
  unfolding chain
  chain_link fuel i h = let apart : i ≡ 0 → ⊥ = omega arith in rw (ne_eqb i 0 apart)

  pub chain-none : chain_from next 0 ≡ []
  chain-none = chain-end 0 0 refl

  -- what holds of the empty chain and of a link with the chain behind it holds of every chain
  chain-cases : (Q : List ℕ → Type 0) (fuel i : ℕ) → (i ≡ 0 → Q []) → (1 ≤ i → Q (i ∷ chain next fuel (next i))) → Q (chain next (suc fuel) i)
  chain-cases Q fuel i end link = either (dec_lt 0 i)
    where
      either : Dec (0 < i) → Q (chain next (suc fuel) i)
      either (yes h) = rw (chain_link fuel i h) (link h)
      either (no m) = let e : i ≡ 0 = omega (arith, m) in rw (chain-end (suc fuel) i e) (end e)

  chain_length : (fuel i : ℕ) → length (chain next fuel i) ≤ fuel
  unfolding chain
  chain_length zero i = omega arith
  chain_length (suc fuel) i =
      let tail : length (chain next fuel (next i)) ≤ fuel = chain_length fuel (next i) in
      chain-cases (λ es. length es ≤ suc fuel) fuel i (λ e. omega arith) (λ h. omega arith)

  pub chain-from-length : (i : ℕ) → length (chain_from next i) ≤ i
  chain-from-length i = chain_length i i

-- an index that is no end and is on the set is in it
pub inside : (P : ℕ → Type 0) (i : ℕ) → 1 ≤ i → On P i → P i
inside P i h (inl e) = let z : ⊥ = omega arith in absurd z
inside P i h (inr p) = p

-- A SET THAT NEXT DOES NOT LEAVE
module _ (P : ℕ → Type 0) (next : ℕ → ℕ) (closed : Closed P next) where
  chain-all : (fuel i : ℕ) → On P i → All (λ e. P e × (1 ≤ e)) (chain next fuel i)
  unfolding chain
  chain-all zero i p = tt
  chain-all (suc fuel) i p =
      let tail = chain-all fuel (next i) in
      chain-cases next (All (λ e. P e × (1 ≤ e))) fuel i (λ e. tt)
      (λ h. let q : P i = inside P i h p in ((q, h), tail (closed i q)))

  -- only indexes of the set stand on a chain
  pub chain-holds-only : (i : ℕ) → On P i → All P (chain_from next i)
  chain-holds-only i p = all_map (λ e. P e × (1 ≤ e)) P (chain_from next i) (λ e q. q.0) (chain-all i i p)

  -- THE FRAME: next indexes that agree on the set make the same chain
  module _ (next' : ℕ → ℕ) (agree : (i : ℕ) → P i → next' i ≡ next i) where
    same : (fuel i : ℕ) → On P i → chain next' fuel i ≡ chain next fuel i
    unfolding chain
    same zero i p = refl
    same (suc fuel) i p =
        let tail = same fuel (next i) in
        chain-cases next (λ es. chain next' (suc fuel) i ≡ es) fuel i (λ e. chain-end next' (suc fuel) i e)
        (λ h. let q : P i = inside P i h p in
        chain_link next' fuel i h ∙ ap (λ k. i ∷ chain next' fuel k) (agree i q) ∙ ap (λ es. i ∷ es) (tail (closed i q)))

    pub chain_same : (i : ℕ) → On P i → chain_from next' i ≡ chain_from next i
    chain_same i p = same i i p

-- A SET IN WHICH NEXT FALLS
module _ (P : ℕ → Type 0) (next : ℕ → ℕ) (falls : Falls P next) where
  pub on-next : (i : ℕ) → 1 ≤ i → On P i → On P (next i)
  on-next i h p = falls-closed P next falls i (inside P i h p)

  pub less : (i : ℕ) → 1 ≤ i → On P i → next i < i
  less i h p = by_next (falls i (inside P i h p))
    where
      by_next : (next i ≡ 0) ⊎ (P (next i) × (next i < i)) → next i < i
      by_next (inl e) = omega arith
      by_next (inr q) = q.1

  -- fuel beyond the index changes nothing
  fuelled : (f g i : ℕ) → On P i → i ≤ f → i ≤ g → chain next f i ≡ chain next g i
  unfolding chain
  fuelled zero g i p lf lg = sym (chain-end next g i (omega arith))
  fuelled (suc f) zero i p lf lg = chain-end next (suc f) i (omega arith)
  fuelled (suc f) (suc g) i p lf lg =
      let tail = fuelled f g (next i) in
      chain-cases next (λ es. chain next (suc f) i ≡ es) g i (λ e. chain-end next (suc f) i e)
      (λ h. let l = less i h p in
      chain_link next f i h ∙ ap (λ es. i ∷ es) (tail (on-next i h p) (omega arith) (omega arith)))

  chain-enough : (fuel i : ℕ) → On P i → i ≤ fuel → chain next fuel i ≡ chain_from next i
  chain-enough fuel i p l = fuelled fuel i i p l (omega arith)

  pub chain-cons : (i : ℕ) → 1 ≤ i → P i → chain_from next i ≡ i ∷ chain_from next (next i)
  unfolding chain
  chain-cons zero h p = let z : ⊥ = omega arith in absurd z
  chain-cons (suc k) h p =
      let l = less (suc k) h (inr p) in
      chain_link next k (suc k) h ∙ ap (λ es. suc k ∷ es) (chain-enough k (next (suc k)) (on-next (suc k) h (inr p)) (omega arith))

  -- what holds of the empty chain, and with a chain of the one that a link begins, holds of every chain
  pub chain-induction : (Q : ℕ → List ℕ → Type 0) → Q 0 [] → ((i : ℕ) → P i → Q (next i) (chain_from next (next i)) → Q i (i ∷ chain_from next (next i)))
      → (i : ℕ) → On P i → Q i (chain_from next i)
  chain-induction Q end link i p = by-fuel i i p (omega arith)
    where
      by-link : (i : ℕ) → On P i → (1 ≤ i → Q (next i) (chain_from next (next i))) → Dec (0 < i) → Q i (chain_from next i)
      by-link i p tail (yes h) = let q = inside P i h p in rw (chain-cons i h q) (link i q (tail h))
      by-link i p tail (no m) = let e : 0 ≡ i = omega (arith, m) in subst (λ k. Q k (chain_from next k)) e (rw (chain-none next) end)

      by-fuel : (fuel i : ℕ) → On P i → i ≤ fuel → Q i (chain_from next i)
      by-fuel zero i p l = by-link i p (λ h. let z : ⊥ = omega arith in absurd z) (dec_lt 0 i)
      by-fuel (suc fuel) i p l = by-link i p (λ h. by-fuel fuel (next i) (on-next i h p) (let k = less i h p in omega arith)) (dec_lt 0 i)

  below : (fuel i n : ℕ) → On P i → i < n → All (λ e. e < n) (chain next fuel i)
  unfolding chain
  below zero i n p l = tt
  below (suc fuel) i n p l =
      let tail = below fuel (next i) n in
      chain-cases next (All (λ e. e < n)) fuel i (λ e. tt)
      (λ h. let m = less i h p in (l, tail (on-next i h p) (omega arith)))

  falling : (fuel i : ℕ) → On P i → Falling (chain next fuel i)
  unfolding chain
  falling zero i p = tt
  falling (suc fuel) i p =
      let tail = falling fuel (next i) in
      chain-cases next Falling fuel i (λ e. tt)
      (λ h. (below fuel (next i) i (on-next i h p) (less i h p), tail (on-next i h p)))

  pub chain-falling : (i : ℕ) → On P i → Falling (chain_from next i)
  chain-falling i p = falling i i p

  -- with an index its next stands on a chain too
  head-on : (fuel i : ℕ) → 1 ≤ i → i ≤ fuel → i ∈ chain next fuel i
  unfolding chain
  head-on zero i h l = let z : ⊥ = omega arith in absurd z
  head-on (suc fuel) i h l = rw (chain_link next fuel i h) (Memᴰ.head refl)

  next-on : (fuel i j : ℕ) → On P i → i ≤ fuel → j ∈ chain next fuel i → 1 ≤ next j → next j ∈ chain next fuel i
  unfolding chain
  next-on zero i j p l m n = absurd (Memᴰ.not-nil m)
  next-on (suc fuel) i j p l m n =
      let tail = next-on fuel (next i) j in
      chain-cases next (λ es. j ∈ es → next j ∈ es) fuel i (λ e m'. absurd (Memᴰ.not-nil m'))
      (λ h m'. let k = less i h p in Memᴰ.tail
      (⊎_elim (λ (e : j ≡ i). let same_next : next i ≡ next j = ap next (sym e) in Memᴰ.cast (sym same_next) (head-on fuel (next i) (omega arith) (omega arith)))
      (λ (later : j ∈ chain next fuel (next i)). tail (on-next i h p) (omega arith) later n) (Memᴰ.cases_cons m'))) m

  -- A set whose members are each the start or the next of a larger member stands on the chain as a whole.
  module _ (start bound : ℕ) (on : On P start) (bounded : (i : ℕ) → P i → (1 ≤ i) × (i < bound)) (reached : (i : ℕ) → P i → (start ≡ i) ⊎ ((j : ℕ) × (P j × (next j ≡ i)))) where
    holds-above : (n i : ℕ) → P i → bound ≤ i + n → i ∈ chain_from next start
    holds-above zero i p l = let q = bounded i p in let z : ⊥ = omega arith in absurd z
    holds-above (suc n) i p l = by-pointer (holds-above n) (reached i p)
      where
        by-pointer : ((j : ℕ) → P j → bound ≤ j + n → j ∈ chain_from next start) → (start ≡ i) ⊎ ((j : ℕ) × (P j × (next j ≡ i))) → i ∈ chain_from next start
        by-pointer above (inl e) = let q = bounded i p in Memᴰ.cast (sym e) (head-on start start (omega arith) (omega arith))
        by-pointer above (inr (j, (pj, e))) =
            let q = bounded i p in
            let r = bounded j pj in
            let l' = less j r.0 (inr pj) in
            Memᴰ.cast (sym e) (next-on start start j on (omega arith) (above j pj (omega arith)) (omega arith))

    pub chain-complete : (i : ℕ) → P i → i ∈ chain_from next start
    chain-complete i p = holds-above bound i p (omega arith)
