-- One pass over the records from the last one down to the first. Before a record is met it is known which user the users'
-- chain must lead to next, and for each user which entry its chain must lead to next, and from which year. The record that
-- is met after d others is `met b d`.
use Rattle.std.specs.Prelude.{ℕ, zero, suc, ◌+◌, ◌-◌, ◌<◌, ◌≡◌, ◌⊎◌, true, cond, List}
use Rattle.book_layout.specs.Fields.{record_at, all_zero, unnamed_of_head}
use Rattle.book_rules.specs.Book.{used, used_fits, first_user, kind_at, is_user, is_entry, owner_of, ranges_fit, zero_bytes_fit, next_of}
use Rattle.book_rules.specs.Book.{first_entry_of, number_of, level_of, years_ended, activation_of, open_year_of}
use Rattle.check_owners.specs.InnerOwners.{owns}

abbrev pub met : List ℕ → ℕ → ℕ
met b d = used b - suc d

-- the user that the chain of users leads to once d records are met
unfoldable pub due_user : List ℕ → ℕ → ℕ
due_user b zero = first_user b
due_user b (suc d) = cond (is_user b (met b d)) (next_of b (met b d)) (due_user b d)

-- the entry that the chain of the user o leads to, and the year of what leads to it
unfoldable pub due_entry : List ℕ → ℕ → ℕ → ℕ
due_entry b o zero = first_entry_of b o
due_entry b o (suc d) = cond (owns b o (met b d)) (next_of b (met b d)) (due_entry b o d)

unfoldable pub due_year : List ℕ → ℕ → ℕ → ℕ
due_year b o zero = open_year_of b o
due_year b o (suc d) = cond (owns b o (met b d)) (level_of b (met b d)) (due_year b o d)

-- a user is met where the users' chain leads, at the end of its own chain, with a number that no user met before has
pub record MetUser (b : List ℕ) (d : ℕ) : Type 0 where
  pub user : is_user b (met b d) ≡ true
  pub ranges : ranges_fit b (met b d) ≡ true
  pub zero-bytes : zero_bytes_fit b (met b d) ≡ true
  pub due : due_user b d ≡ met b d
  pub ended : due_entry b (met b d) d ≡ 0
  pub opened : due_year b (met b d) d ≡ activation_of b (met b d)
  pub unlike : (e : ℕ) → e < d → is_user b (met b e) ≡ true → number_of b (met b e) ≡ number_of b (met b d) → ⊥

-- an entry is met where its owner's chain leads, with the level that leads there or, a closing, with the one before
pub record MetEntry (b : List ℕ) (d : ℕ) : Type 0 where
  pub entry : is_entry b (met b d) ≡ true
  pub ranges : ranges_fit b (met b d) ≡ true
  pub zero-bytes : zero_bytes_fit b (met b d) ≡ true
  pub owner : is_user b (owner_of b (met b d)) ≡ true
  pub due : due_entry b (owner_of b (met b d)) d ≡ met b d
  pub year : level_of b (met b d) + years_ended (kind_at b (met b d)) ≡ due_year b (owner_of b (met b d)) d

-- every record but the head was met, and the users' chain has ended
pub record AllMet (b : List ℕ) : Type 0 where
  pub used-fits : used_fits b ≡ true
  pub rest : all_zero unnamed_of_head (record_at b 0) ≡ true
  pub each : (d : ℕ) → d + 1 < used b → MetUser b d ⊎ MetEntry b d
  pub end : due_user b (used b - 1) ≡ 0
