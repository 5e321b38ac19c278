-- A number that is put at the first empty place of those that are tried for it. Two tries may be at one place.
use Prim.Native.Nat.{ℕ, ◌+◌, ◌<◌}
use mathlib.Core.Path.{◌≡◌, sym, ◌∙◌}
use mathlib.Core.List.{List}
use native.Mathlib.Decide.{dec_lt}
use native.Mathlib.Omega.{arith}
use borrow.Author.Count.{below_more}
use lib.ListN.{length, get_or, set, length-set}
use lib.Seq.{get_or-set_same, get_or-set_other}
use Rattle.check_numbers.specs.InnerHeld.{probe, Held, stands, Inserted}

-- what was seen at the first k places that are tried: none is empty, and none has the number
pub record Passed (t : List ℕ) (n k : ℕ) : Type 0 where
  pub full : (j : ℕ) → j < k → get_or t (probe (length t) n j) 0 ≡ 0 → ⊥
  pub other : (j : ℕ) → j < k → get_or t (probe (length t) n j) 0 ≡ n → ⊥

module _ (t : List ℕ) (n : ℕ) where
  pub passed_none : Passed t n 0
  passed_none = record { full = λ j h. let z : ⊥ = omega arith in absurd z; other = λ j h. let z : ⊥ = omega arith in absurd z }

  module _ (k : ℕ) {at : ℕ} (s : Passed t n k) (here : at ≡ probe (length t) n k) where
    pub passed-next : (get_or t at 0 ≡ 0 → ⊥) → (get_or t at 0 ≡ n → ⊥) → Passed t n (k + 1)
    passed-next full other =
        record {
          full = below_more (λ j. get_or t (probe (length t) n j) 0 ≡ 0 → ⊥) k s.full (rw here at full);
          other = below_more (λ j. get_or t (probe (length t) n j) 0 ≡ n → ⊥) k s.other (rw here at other);
        }

    module _ (some : 0 < n) (inside : at < length t) (empty : get_or t at 0 ≡ 0) where
      not-held : Held t n → ⊥
      not-held (stands q h) = by_place (dec_lt q k) (dec_lt k q)
        where
          by_place : Dec (q < k) → Dec (k < q) → ⊥
          by_place (yes l) d = s.other q l h.there
          by_place (no l) (yes g) = h.full k g (rw here at empty)
          by_place (no l) (no g) =
              let same : q ≡ k = omega (arith, l, g) in
              let there : get_or t at 0 ≡ n = rw (same, ← here) at h.there in
              omega arith

      -- what is not empty is another place
      untouched : (p : ℕ) → (get_or t p 0 ≡ 0 → ⊥) → get_or (set t at n) p 0 ≡ get_or t p 0
      untouched p full = get_or-set_other t at p n 0 (λ e. full (rw e empty))

      still_full : (p : ℕ) → (get_or t p 0 ≡ 0 → ⊥) → get_or (set t at n) p 0 ≡ 0 → ⊥
      still_full p full e = full (sym (untouched p full) ∙ e)

      held_after : Held (set t at n) n
      held_after =
          stands k
          record {
            some = some;
            there = rw (length-set, ← here) (get_or-set_same t at n 0 inside);
            full = rw length-set (λ j h. still_full (probe (length t) n j) (s.full j h));
          }

      kept-after : (m : ℕ) → Held t m → Held (set t at n) m
      kept-after m (stands q h) =
          let taken : get_or t (probe (length t) m q) 0 ≡ 0 → ⊥ = λ e. let low = h.some in omega (arith, h.there) in
          stands q
          record {
            some = h.some;
            there = rw length-set (untouched (probe (length t) m q) taken ∙ h.there);
            full = rw length-set (λ j l. still_full (probe (length t) m j) (h.full j l));
          }

      pub inserted : Inserted t n (set t at n)
      inserted = record { fresh = not-held; held = held_after; kept = kept-after }
