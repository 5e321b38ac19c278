-- Walks over the chain of a user of a sound book: where they begin, and what a turn keeps.
use Prim.Native.Nat.{ℕ, ◌+◌, ◌^◌, ◌<◌}
use mathlib.Core.Path.{◌≡◌, refl, sym, ap, subst, ◌∙◌}
use mathlib.Core.Bool.{Bool, true, false, cond}
use mathlib.Core.Logic.{⊎_elim}
use mathlib.Core.List.{List}
use native.Mathlib.Omega.{arith}
use Rattle.std.specs.Prelude.{Option, Some, None, MatchOption, ⊤}
use Rattle.book_layout.specs.Fields.{record_at, advance_kind, closing_kind}
use Rattle.book_records.specs.declared.ClosingRecord.{ClosingRecord}
use Rattle.book_records.specs.Records.{closing_in}
use Rattle.book_rules.specs.Book.{length_fits, sound, is_user, is_entry, is_advance, is_closing, kind_at, level_of, level_in, next_of, first_entry_of}
use Rattle.book_rules.specs.Chains.{chain_from, entries_of}
use Rattle.book_rules.proofs.RecordKinds.{entry-cases, entry-index, kinds-apart, kind-is}
use Rattle.chains.specs.Statements.{sum_over}
use Rattle.chains.proofs.Chain.{chain-none}
use Rattle.chains.proofs.Walks.{Ahead, begins, ahead-next, chain-here}
use Rattle.chain_reader.specs.Entries.{entry_in}
use Rattle.chain_reader.proofs.Held.{closing_held, advance_held}
use Rattle.account_years.specs.History.{is_closing_of, closing_among, closing_of}
use Rattle.account_years.specs.InnerEntries.{closing_in_year}

module _ (b : List ℕ) (at : ℕ) (entry : is_entry b at ≡ true) where
  pub more : at ≡ 0 → ⊥
  more z = let one = (entry-index b at entry).0 in omega arith

  -- the closing that an entry is, by its kind and level
  dated : (year : ℕ) → closing_in_year year (entry_in (record_at b at)) ≡ cond (is_closing_of b year at) (Some (closing_in (record_at b at))) None
  unfolding closing_in_year is_closing_of level_of level_in closing_in kind_at
  dated year =
      ⊎_elim (λ (a : is_advance b at ≡ true). rw (advance_held b at a, kinds-apart b advance_kind closing_kind at (λ p. omega arith) a))
      (λ (c : is_closing b at ≡ true). rw (closing_held b at c, c, kind-is b closing_kind at c))
      (entry-cases b at entry)

  module _ (w : Ahead b at) where
    sum_here : (f : ℕ → ℕ) → sum_over f (chain_from (next_of b) at) ≡ f at + sum_over f (chain_from (next_of b) (next_of b at))
    unfolding sum_over
    sum_here f = ap (sum_over f) (chain-here b at w more)

    closing_here : (year : ℕ) → closing_among b year (chain_from (next_of b) at)
        ≡ cond (is_closing_of b year at) (Some (closing_in (record_at b at))) (closing_among b year (chain_from (next_of b) (next_of b at)))
    unfolding closing_among
    closing_here year = ap (closing_among b year) (chain-here b at w more)

no_sum : (b : List ℕ) (f : ℕ → ℕ) → sum_over f (chain_from (next_of b) 0) ≡ 0
unfolding sum_over
no_sum b f = ap (sum_over f) (chain-none (next_of b))

-- THE CLOSING OF A YEAR: it is not before `at`
pub record Seeking (b : List ℕ) (i year at : ℕ) : Type 0 where
  pub ahead : Ahead b at
  pub same : closing_among b year (chain_from (next_of b) at) ≡ closing_of b i year

pub seek : (b : List ℕ) (i year : ℕ) → length_fits b ≡ true → sound b ≡ true → is_user b i ≡ true → Seeking b i year (first_entry_of b i)
unfolding closing_of entries_of
seek b i year long good user = record { ahead = begins b i long good user; same = refl }

none_some : {A : Type 0} {x : A} → None ≡ Some x → ⊥
none_some e = subst (λ o. MatchOption o ⊤ (λ y. ⊥)) e tt

-- of two, the first where it is there
first_of : (t : Bool) (c d : ClosingRecord) (rest : Option ClosingRecord) → cond t (Some c) None ≡ Some d → cond t (Some c) rest ≡ Some d
first_of true c d rest e = e
first_of false c d rest e = absurd (none_some e)

second_of : (t : Bool) (c : ClosingRecord) (rest : Option ClosingRecord) → cond t (Some c) None ≡ None → cond t (Some c) rest ≡ rest
second_of true c rest e = absurd (none_some (sym e))
second_of false c rest e = refl

module _ (b : List ℕ) (i year at : ℕ) (s : Seeking b i year at) where
  module _ (entry : is_entry b at ≡ true) where
    abbrev here : ClosingRecord
    here = closing_in (record_at b at)

    abbrev later : Option ClosingRecord
    later = closing_among b year (chain_from (next_of b) (next_of b at))

    pub found : (c : ClosingRecord) → closing_in_year year (entry_in (record_at b at)) ≡ Some c → Some c ≡ closing_of b i year
    found c e =
        sym (first_of (is_closing_of b year at) here c later (sym (dated b at entry year) ∙ e))
        ∙ sym (closing_here b at entry s.ahead year)
        ∙ s.same

    pub seek_on : closing_in_year year (entry_in (record_at b at)) ≡ None → Seeking b i year (next_of b at)
    seek_on e =
        record {
          ahead = ahead-next b at s.ahead (more b at entry);
          same = sym (closing_here b at entry s.ahead year ∙ second_of (is_closing_of b year at) here later (sym (dated b at entry year) ∙ e)) ∙ s.same;
        }

  pub nowhere : at ≡ 0 → None ≡ closing_of b i year
  unfolding closing_among
  nowhere end = ap (closing_among b year) (sym (ap (chain_from (next_of b)) end ∙ chain-none (next_of b))) ∙ s.same

-- A SUM OVER THE CHAIN: the sum so far and what is ahead
pub record Adding (b : List ℕ) (i : ℕ) (g : ℕ → ℕ) (sum at : ℕ) : Type 0 where
  pub whole : sum + sum_over g (chain_from (next_of b) at) ≡ sum_over g (entries_of b i)
  pub small : sum_over g (entries_of b i) < 2 ^ 63

pub add_begins : (b : List ℕ) (i : ℕ) (g : ℕ → ℕ) → sum_over g (entries_of b i) < 2 ^ 63 → Adding b i g 0 (first_entry_of b i)
unfolding entries_of
add_begins b i g small = record { whole = omega arith; small = small }

module _ (b : List ℕ) (i : ℕ) (g : ℕ → ℕ) (sum at part : ℕ) (w : Ahead b at) (entry : is_entry b at ≡ true) (s : Adding b i g sum at) (is : part ≡ g at) where
  split : sum_over g (chain_from (next_of b) at) ≡ part + sum_over g (chain_from (next_of b) (next_of b at))
  split = rw is (sum_here b at entry w g)

  pub add_room : sum + part < 2 ^ 64
  add_room = omega (arith, s.whole, s.small, split)

  pub add_on : Adding b i g (sum + part) (next_of b at)
  add_on = record { whole = omega (arith, s.whole, split); small = s.small }

pub added : (b : List ℕ) (i : ℕ) (g : ℕ → ℕ) (sum at : ℕ) → Adding b i g sum at → at ≡ 0 → sum ≡ sum_over g (entries_of b i)
added b i g sum at s end =
    let none : sum_over g (chain_from (next_of b) at) ≡ 0 = ap (λ k. sum_over g (chain_from (next_of b) k)) end ∙ no_sum b g in
    omega (arith, s.whole, none)
