-- The entries of an owner, from the first one up.
use Rattle.std.specs.Prelude.{ℕ, ◌+◌, ◌≤◌, ◌<◌, ◌≡◌, Bool, true, ◌&&◌, Option, None, IfSome, MatchOption, List, eqb, get_or}
use Rattle.units.specs.declared.RecordIndex.{RecordIndex}
use Rattle.book_rules.specs.Book.{used, is_entry, owner_of}
use Rattle.check_owners.specs.declared.Entries.{Entries}

-- the entry has the owner
unfoldable pub owns : List ℕ → ℕ → ℕ → Bool
owns b owner e = is_entry b e && eqb (owner_of b e) owner

-- the entry of the owner with the smallest index from n on
pub record NextOwned (b : List ℕ) (owner n : ℕ) (e : Option RecordIndex) : Type 0 where
  pub here : IfSome e (λ i. (owns b owner i.0 ≡ true) × (n ≤ i.0))
  pub none_before : (k : ℕ) → n ≤ k → owns b owner k ≡ true → MatchOption e ⊥ (λ i. i.0 ≤ k)

-- the first entry of each record, and the one after each entry of it
pub record Linked (b : List ℕ) (entries : Entries) : Type 0 where
  pub first : (owner : ℕ) → owner < used b → NextOwned b owner 0 (get_or entries.first owner None)
  pub later : (owner e : ℕ) → owner < used b → owns b owner e ≡ true → NextOwned b owner (e + 1) (get_or entries.later e None)
