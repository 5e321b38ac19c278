-- What a record that is met changes: a user moves the users' chain on, an entry that of its owner, and no other chain moves.
use Prim.Native.Nat.{ℕ, suc, ◌+◌}
use mathlib.Core.Path.{◌≡◌, refl}
use mathlib.Core.Bool.{Bool, true, false}
use mathlib.Core.List.{List}
use native.Mathlib.Omega.{arith}
use Rattle.book_rules.specs.Book.{used, is_user, is_entry, owner_of, next_of, level_of}
use Rattle.book_rules.proofs.RecordKinds.{not-both}
use Rattle.check_owners.specs.InnerOwners.{owns}
use Rattle.check_owners.proofs.Owned.{owns-own, owns-no-other}
use Rattle.check_descent.specs.InnerDescent.{met, due_user, due_entry, due_year, MetUser, MetEntry}

-- the record i is met after all above it
pub met_at : (b : List ℕ) (i d : ℕ) → i + suc d ≡ used b → met b d ≡ i
met_at b i d e = omega arith

-- a test that cannot pass fails
pub fails : (t : Bool) → (t ≡ true → ⊥) → t ≡ false
fails true n = absurd (n refl)
fails false n = refl

-- a user is met
module _ (b : List ℕ) (d : ℕ) (m : MetUser b d) where
  owned-by-none : (o : ℕ) → owns b o (met b d) ≡ false
  unfolding owns
  owned-by-none o = rw (fails (is_entry b (met b d)) (not-both b (met b d) m.user))

  pub user-moves : due_user b (suc d) ≡ next_of b (met b d)
  unfolding due_user
  user-moves = rw m.user

  pub user-keeps-entry : (o : ℕ) → due_entry b o (suc d) ≡ due_entry b o d
  unfolding due_entry
  user-keeps-entry o = rw (owned-by-none o)

  pub user-keeps-year : (o : ℕ) → due_year b o (suc d) ≡ due_year b o d
  unfolding due_year
  user-keeps-year o = rw (owned-by-none o)

-- an entry is met
module _ (b : List ℕ) (d : ℕ) (m : MetEntry b d) where
  owned : owns b (owner_of b (met b d)) (met b d) ≡ true
  owned = owns-own b (owner_of b (met b d)) (met b d) m.entry refl

  owned-by-no-other : (o : ℕ) → (owner_of b (met b d) ≡ o → ⊥) → owns b o (met b d) ≡ false
  owned-by-no-other o n = owns-no-other b o (met b d) n

  pub entry-keeps-user : due_user b (suc d) ≡ due_user b d
  unfolding due_user
  entry-keeps-user = rw (fails (is_user b (met b d)) (λ u. not-both b (met b d) u m.entry))

  pub entry-moves : due_entry b (owner_of b (met b d)) (suc d) ≡ next_of b (met b d)
  unfolding due_entry
  entry-moves = rw owned

  pub entry-moves-year : due_year b (owner_of b (met b d)) (suc d) ≡ level_of b (met b d)
  unfolding due_year
  entry-moves-year = rw owned

  pub entry-keeps-other : (o : ℕ) → (owner_of b (met b d) ≡ o → ⊥) → due_entry b o (suc d) ≡ due_entry b o d
  unfolding due_entry
  entry-keeps-other o n = rw (owned-by-no-other o n)

  pub entry-keeps-year : (o : ℕ) → (owner_of b (met b d) ≡ o → ⊥) → due_year b o (suc d) ≡ due_year b o d
  unfolding due_year
  entry-keeps-year o n = rw (owned-by-no-other o n)
