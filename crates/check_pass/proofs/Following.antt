-- What is known between two records of the pass: those from `left` on keep their own rules, and what is due below.
use Rattle.std.proofs.Common.{◌≡◌, ℕ, ◌+◌, ◌≤◌, ◌<◌, true, Option, Some, None, List, length, set, refl, arith}
use native.Mathlib.Decide.{dec_lt}
use lib.ListN.{get_or, length-set}
use Rattle.units.specs.declared.RecordIndex.{RecordIndex}
use Rattle.units.specs.Units.{record_index}
use Rattle.units.proofs.Bools.{and_right}
use Rattle.book_layout.specs.Fields.{get, next_field, number_field, all_zero, unnamed_of_head, record_at}
use Rattle.book_rules.specs.Book.{used, used_fits, first_user, own_rules_fit, good_head}
use Rattle.book_rules.proofs.Faults.{used-within}
use Rattle.check_numbers.specs.InnerHeld.{Inserted}
use Rattle.check_pass.specs.declared.Due.{Due}
use Rattle.check_pass.specs.InnerSteps.{due_of, due_behind, UserLeads, EntryLeads, KeptUser, KeptEntry, last_met, Tables, Joined}
use Rattle.check_pass.proofs.Descended.{Descended, started, user-met, entry-met, descended, searched}

pub record Following (b : List ℕ) (n records places left expected : ℕ) (found : Option RecordIndex) (dues : List (Option Due)) (seen : List ℕ) : Type 0 where
  pub dues-size : length dues ≡ records
  pub seen_size : length seen ≡ places
  pub within : left ≤ used b
  pub own : (i : ℕ) → left ≤ i → i < used b → own_rules_fit b i ≡ true
  pub chains : Descended b n left expected found dues seen

pub first : (b : List ℕ) (n : ℕ) → used_fits b ≡ true → {dues : List (Option Due)} {seen : List ℕ} → Tables (used b) dues seen → {left expected : ℕ} → left ≡ used b → expected ≡ first_user b
    → Following b n (length dues) (length seen) left expected None dues seen
first b n u {dues} {seen} t l e =
    record {
      dues-size = refl;
      seen_size = refl;
      within = omega arith;
      own = λ i from to. let z : ⊥ = omega arith in absurd z;
      chains = started b n dues seen t.unmet l (used-within b u).0 e;
    }

module _ (b : List ℕ) {n records places left expected : ℕ} {found : Option RecordIndex} {dues : List (Option Due)} {seen : List ℕ}
    (s : Following b n records places left expected found dues seen) (index : ℕ) (l : left ≡ index + 1) where
  -- the record is in the book, and has its place among those that are due
  pub inside : index < used b
  inside = let w = s.within in omega arith

  placed : used b ≤ records → index < length dues
  placed room = let size = s.dues-size in let i = inside in omega arith

  module _ (lo : 1 ≤ index) (own : own_rules_fit b index ≡ true) where
    own-here : (i : ℕ) → index ≤ i → i < used b → own_rules_fit b i ≡ true
    own-here i from to = by_place (dec_lt index i)
      where
        by_place : Dec (index < i) → own_rules_fit b i ≡ true
        by_place (yes past) = s.own i (omega arith) to
        by_place (no here) = let same : i ≡ index = omega (arith, here) in rw same own

    module _ {r : List ℕ} {due : Due} where
      -- a user to which the chains lead, with a new number
      pub user-passed : KeptUser b index r → due ≡ due_of r (get_or dues index None) → UserLeads r index expected due
          → {number : ℕ} → number ≡ get number_field r → {seen' : List ℕ} → length seen' ≡ places → Inserted seen number seen' → {next : ℕ} → next ≡ get next_field r
          → Following b n records places index next (last_met found (record_index index) number n) dues seen'
      user-passed k known f number_is size ins next-is =
          record {
            dues-size = s.dues-size;
            seen_size = size;
            within = let i = inside in omega arith;
            own = own-here;
            chains = user-met b s.chains index l lo own k known f number_is ins next-is;
          }

      -- an entry to which the chain of its owner leads
      pub entry-passed : used b ≤ records → {home : ℕ} {owner : List ℕ} → KeptEntry b index r home owner → due ≡ due_of owner (get_or dues home None) → EntryLeads r owner index due
          → Following b n records places index expected found (set dues home (Some (due_behind r))) seen
      entry-passed room {home} k known f =
          let size = s.dues-size in
          let inner : home < length dues = let p = placed room in let q = k.below in omega arith in
          record {
            dues-size = rw length-set size;
            seen_size = s.seen_size;
            within = let i = inside in omega arith;
            own = own-here;
            chains = entry-met b s.chains index l lo own k known f inner;
          }

module _ (b : List ℕ) {n records places left expected : ℕ} {found : Option RecordIndex} {dues : List (Option Due)} {seen : List ℕ}
    (s : Following b n records places left expected found dues seen) (end : left ≤ 1) where
  pub joined : used_fits b ≡ true → good_head b ≡ true → expected ≡ 0 → Joined b n found
  unfolding good_head
  joined u g z =
      record {
        is_sound = descended b end s.chains z u (and_right _ (all_zero unnamed_of_head (record_at b 0)) g);
        found = searched b end found s.chains.sought;
      }
