-- What an owner's entry is.
use Prim.Native.Nat.{ℕ, ◌+◌, ◌≤◌}
use mathlib.Core.Path.{◌≡◌, sym, ◌∙◌}
use mathlib.Core.Bool.{true, false, and-false, true≢false}
use mathlib.Core.List.{List}
use Rattle.std.proofs.Common.{Option, Some, None, MatchOption}
use Rattle.std.proofs.lemmas.Option.{IfSome_then}
use Rattle.units.specs.declared.RecordIndex.{RecordIndex}
use Rattle.units.specs.Units.{record_index}
use native.Mathlib.Decide.{ℕ_discrete}
use native.Mathlib.Omega.{arith}
use borrow.Author.Tests.{eq-eqb, ne_eqb, eqb-true}
use lib.Dec.{eqb}
use Rattle.units.proofs.Bools.{and_left, and_right}
use Rattle.book_rules.specs.Book.{used, is_entry, owner_of}
use Rattle.book_rules.proofs.RecordKinds.{entry-index}
use Rattle.check_owners.specs.InnerOwners.{owns, NextOwned}

module _ (b : List ℕ) (o e : ℕ) where
  pub owns-entry : owns b o e ≡ true → is_entry b e ≡ true
  unfolding owns
  owns-entry q = and_left (is_entry b e) (eqb (owner_of b e) o) q

  pub owns-owner : owns b o e ≡ true → owner_of b e ≡ o
  unfolding owns
  owns-owner q = eqb-true (owner_of b e) o (and_right (is_entry b e) (eqb (owner_of b e) o) q)

  pub owns-own : is_entry b e ≡ true → owner_of b e ≡ o → owns b o e ≡ true
  unfolding owns
  owns-own n w = rw n (eq-eqb (owner_of b e) o w)

  pub owns-no-other : (owner_of b e ≡ o → ⊥) → owns b o e ≡ false
  unfolding owns
  owns-no-other d = rw (ne_eqb (owner_of b e) o d) (and-false (is_entry b e))

module _ (b : List ℕ) (o : ℕ) where
  -- no entry stands where the records end
  pub owned-none : (n : ℕ) → used b ≤ n → NextOwned b o n None
  owned-none n end =
      record {
        here = tt;
        none_before = λ k l q. let below = (entry-index b k (owns-entry b o k q)).1 in omega (arith, below);
      }

  -- the record at n is one
  pub owned-here : (n : ℕ) → owns b o n ≡ true → NextOwned b o n (Some (record_index n))
  owned-here n q = record { here = (q, omega arith); none_before = λ k l w. l }

  -- it is none
  pub owned-further : (n : ℕ) {e : Option RecordIndex} → owns b o n ≡ false → NextOwned b o (n + 1) e → NextOwned b o n e
  owned-further n {e} not-here next =
      record {
        here = IfSome_then e next.here (λ i h. (h.0, omega (arith, h.1)));
        none_before = λ k l q. by_place k l q (ℕ_discrete k n);
      }
    where
      by_place : (k : ℕ) → n ≤ k → owns b o k ≡ true → Dec (k ≡ n) → MatchOption e ⊥ (λ i. i.0 ≤ k)
      by_place k l q (yes same) = let here : owns b o n ≡ true = rw same at q in absurd (true≢false (sym here ∙ not-here))
      by_place k l q (no d) = next.none_before k (omega (arith, d)) q

  -- the head is none
  pub owned-all : (n : ℕ) {e : Option RecordIndex} → n ≤ 1 → NextOwned b o n e → NextOwned b o 0 e
  owned-all n {e} end next =
      record {
        here = IfSome_then e next.here (λ i h. (h.0, omega arith));
        none_before = λ k l q. let from = (entry-index b k (owns-entry b o k q)).0 in next.none_before k (omega (arith, from)) q;
      }
