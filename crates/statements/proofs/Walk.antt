-- The walk over a user's chain in a sound book: how it begins, what each turn keeps, and what it ends with.
use Rattle.std.proofs.Common.{◌≡◌, ℕ, true, List, ◌∷◌, refl, subst, ⊎_elim, arith}
use lib.IntN.{+ℤ_idl}
use Rattle.book_layout.specs.Fields.{record_at}
use Rattle.book_rules.specs.Book.{length_fits, sound, is_user, is_advance, is_closing, is_entry, account_at, next_of, first_entry_of}
use Rattle.book_rules.specs.Chains.{chain_from, entries_of}
use Rattle.book_rules.proofs.RecordKinds.{entry-cases, entry-index}
use Rattle.chains.specs.Statements.{balance_part, sum_over_ℤ, statement_at}
use Rattle.chains.proofs.Chain.{chain-none}
use Rattle.chains.proofs.Fit.{SumsFit, sums-fit, balance-sizes}
use Rattle.chains.proofs.Walks.{Ahead, begins, ahead-next, chain-here}
use Rattle.chain_reader.specs.Entries.{entry_in}
use Rattle.chain_reader.proofs.Held.{closing_held, advance_held}
use Rattle.statements.specs.declared.Sums.{Sums}
use Rattle.statements.specs.InnerWalk.{sums_of, sums_before, entry_added, EntryRoom}
use Rattle.statements.proofs.Toward.{Toward, closing-room, advance-room, after-closing, after-advance, arrived}

-- between two turns, where the walk over the entries of the user i stands at an index
pub record Walking (b : List ℕ) (i : ℕ) (s : Sums) (at : ℕ) : Type 0 where
  pub ahead : Ahead b at
  pub fit : SumsFit (statement_at b i)
  pub toward : Toward b (statement_at b i) (chain_from (next_of b) at) s

-- THE BEGINNING
module _ (b : List ℕ) (i : ℕ) (long : length_fits b ≡ true) (good : sound b ≡ true) (user : is_user b i ≡ true) where
  all_left : Ahead b (first_entry_of b i) → Toward b (statement_at b i) (chain_from (next_of b) (first_entry_of b i)) (sums_before (account_at b i))
  unfolding sums_before statement_at entries_of
  all_left ahead =
      record {
        open_year = refl;
        credit = refl;
        value = omega arith;
        cost = omega arith;
        flat_rate = omega arith;
        contribution = omega arith;
        liquidation = omega arith;
        lapsed = omega arith;
        balance = +ℤ_idl (sum_over_ℤ (balance_part b) (chain_from (next_of b) (first_entry_of b i)));
        sizes = balance-sizes b ahead.faultless i user;
        advances = omega arith;
        closed_advances = omega arith;
      }

  pub starts : Walking b i (sums_before (account_at b i)) (first_entry_of b i)
  starts =
      let ahead = begins b i long good user in
      record { ahead = ahead; fit = sums-fit b ahead.faultless long i user; toward = all_left ahead }

-- A TURN
module _ (b : List ℕ) (i : ℕ) (s : Sums) (at : ℕ) (w : Walking b i s at) (entry : is_entry b at ≡ true) where
  more : at ≡ 0 → ⊥
  more z = let one = (entry-index b at entry).0 in omega arith

  abbrev rest : List ℕ
  rest = chain_from (next_of b) (next_of b at)

  here : Toward b (statement_at b i) (at ∷ rest) s
  here = subst (λ es. Toward b (statement_at b i) es s) (chain-here b at w.ahead more) w.toward

  pub entry_room : EntryRoom (entry_in (record_at b at)) s
  entry_room =
      ⊎_elim (λ (a : is_advance b at ≡ true). rw (advance_held b at a) (advance-room b (statement_at b i) at rest s w.fit here a))
      (λ (c : is_closing b at ≡ true). rw (closing_held b at c) (closing-room b (statement_at b i) at rest s w.fit here c))
      (entry-cases b at entry)

  after : Toward b (statement_at b i) rest (entry_added (entry_in (record_at b at)) s)
  unfolding entry_added
  after =
      ⊎_elim (λ (a : is_advance b at ≡ true). rw (advance_held b at a) (after-advance b (statement_at b i) at rest s w.fit here a))
      (λ (c : is_closing b at ≡ true). rw (closing_held b at c) (after-closing b (statement_at b i) at rest s w.fit here c))
      (entry-cases b at entry)

  pub turned : Walking b i (entry_added (entry_in (record_at b at)) s) (next_of b at)
  turned = record { ahead = ahead-next b at w.ahead more; fit = w.fit; toward = after }

-- THE END
pub ends : (b : List ℕ) (i : ℕ) (s : Sums) → Walking b i s 0 → s ≡ sums_of (statement_at b i)
ends b i s w = arrived b (statement_at b i) s (subst (λ es. Toward b (statement_at b i) es s) (chain-none (next_of b)) w.toward)
