-- A walk over a chain: what holds at a turn, and how a walk over a user's entries begins and goes on.
use Prim.Native.Nat.{ℕ, ◌+◌, ◌*◌, ◌≤◌, ◌<◌}
use mathlib.Core.Path.{◌≡◌}
use mathlib.Core.Bool.{true}
use mathlib.Core.Logic.{⊎_map}
use mathlib.Core.List.{List, ◌∷◌}
use native.Mathlib.Omega.{arith}
use lib.ListN.{length}
use Rattle.units.specs.Limits.{record_length}
use Rattle.book_rules.specs.Book.{length_fits, sound, is_user, is_entry, next_of, first_entry_of}
use Rattle.book_rules.proofs.Faultless.{Faultless, sound-faultless}
use Rattle.book_rules.proofs.Faults.{used-whole}
use Rattle.book_rules.proofs.RecordKinds.{entry-index}
use Rattle.book_rules.specs.Chains.{chain_from}
use Rattle.chains.proofs.Chain.{On, Falls, inside, on-next, less, chain-cons}
use Rattle.chains.proofs.Links.{entry_next, first_entry}

-- A TURN: the walk stands at an index of the set and not at the end
module _ (P : ℕ → Type 0) (next : ℕ → ℕ) (falls : Falls P next) (at : ℕ) (on : On P at) (more : at ≡ 0 → ⊥) where
  some : 1 ≤ at
  some = omega arith

  walk_here : P at
  walk_here = inside P at some on

  pub walk-on : On P (next at)
  walk-on = on-next P next falls at some on

  pub walk-falls : next at < at
  walk-falls = less P next falls at some on

  pub walk-chain : chain_from next at ≡ at ∷ chain_from next (next at)
  walk-chain = chain-cons P next falls at some walk_here

-- OVER ENTRIES
abbrev Entry : List ℕ → ℕ → Type 0
Entry b e = is_entry b e ≡ true

fall : (b : List ℕ) → Faultless b → Falls (Entry b) (next_of b)
fall b f e h = ⊎_map (λ z. z) (λ p. (p.0.entry, p.1)) (entry_next b f e h)

-- a chain of entries of a sound book begins at an index
pub record Ahead (b : List ℕ) (at : ℕ) : Type 0 where
  pub faultless : Faultless b
  pub on : On (λ e. is_entry b e ≡ true) at

pub begins : (b : List ℕ) (i : ℕ) → length_fits b ≡ true → sound b ≡ true → is_user b i ≡ true → Ahead b (first_entry_of b i)
begins b i long good user =
    let f = sound-faultless b long good in
    record { faultless = f; on = ⊎_map (λ z. z) (λ o. o.entry) (first_entry b f i user) }

module _ (b : List ℕ) (at : ℕ) (w : Ahead b at) (more : at ≡ 0 → ⊥) where
  entry_here : is_entry b at ≡ true
  entry_here = walk_here (Entry b) (next_of b) (fall b w.faultless) at w.on more

  pub ahead-next : Ahead b (next_of b at)
  ahead-next = record { faultless = w.faultless; on = walk-on (Entry b) (next_of b) (fall b w.faultless) at w.on more }

  -- the book has its record whole
  pub entry_whole : record_length * at + record_length ≤ length b
  entry_whole = used-whole b w.faultless.used-fits at (entry-index b at entry_here).1

  pub next-falls : next_of b at < at
  next-falls = walk-falls (Entry b) (next_of b) (fall b w.faultless) at w.on more

  pub chain-here : chain_from (next_of b) at ≡ at ∷ chain_from (next_of b) (next_of b at)
  chain-here = walk-chain (Entry b) (next_of b) (fall b w.faultless) at w.on more
