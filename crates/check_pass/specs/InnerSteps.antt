-- What the pass keeps of each user, and what it tests where it meets a record.
use Rattle.std.specs.Prelude.{ℕ, ◌+◌, ◌≤◌, ◌<◌, ◌≡◌, true, false, cond, eqb, List, length, get_or}
use Rattle.std.specs.Prelude.{Option, Some, None, unwrap_or, Result, MatchResult}
use Rattle.book_layout.specs.Fields.{get, record_at, kind_field, next_field, number_field, owner_field, user_kind}
use Rattle.book_layout.specs.Fields.{first_entry_field, activation_year_field, open_year_field}
use Rattle.units.specs.declared.RecordIndex.{RecordIndex}
use Rattle.units.specs.Units.{record_index}
use Rattle.book_rules.specs.Book.{used, level_in, years_ended, own_rules_fit, good_record, sound}
use Rattle.check_lookup.specs.Found.{found_user}
use Rattle.check_pass.specs.declared.Due.{Due}
use Rattle.check_pass.specs.declared.Kept.{Kept}
use Rattle.check_pass.specs.declared.Kept.TheVariants.{User, Entry}

-- what the chain of a user leads to: from its own record, from an entry of it; and from the entry that was met last, if one was
abbrev pub first_due : List ℕ → Due
first_due r = record { entry = record_index (get first_entry_field r); year = get open_year_field r }

abbrev pub due_behind : List ℕ → Due
due_behind r = record { entry = record_index (get next_field r); year = level_in r }

abbrev pub due_of : List ℕ → Option Due → Due
due_of r met = unwrap_or met (first_due r)

-- a user at an index: the users' chain leads to it, and its own chain has ended
pub record UserLeads (r : List ℕ) (index expected : ℕ) (due : Due) : Type 0 where
  pub here : expected ≡ index
  pub ended : due.entry.0 ≡ 0
  pub opened : due.year ≡ get activation_year_field r

-- an entry at an index: its owner's chain leads to it with its level or, a closing, with the year after
pub record EntryLeads (r owner : List ℕ) (index : ℕ) (due : Due) : Type 0 where
  pub user : get kind_field owner ≡ user_kind
  pub here : due.entry.0 ≡ index
  pub year : level_in r + years_ended (get kind_field r) ≡ due.year

-- a record that keeps its own rules, with what was read of it
pub record KeptUser (b : List ℕ) (i : ℕ) (r : List ℕ) : Type 0 where
  pub bytes : r ≡ record_at b i
  pub user : get kind_field r ≡ user_kind
  pub numbered : 0 < get number_field r

pub record KeptEntry (b : List ℕ) (i : ℕ) (r : List ℕ) (home : ℕ) (owner : List ℕ) : Type 0 where
  pub bytes : r ≡ record_at b i
  pub other : get kind_field r ≡ user_kind → ⊥
  pub owned : home ≡ get owner_field r
  pub from : 1 ≤ home
  pub below : home < i
  pub owner-bytes : owner ≡ record_at b home

abbrev pub KeptIs : List ℕ → ℕ → Kept → Type 0
KeptIs b i (User r) = KeptUser b i r.now
KeptIs b i (Entry r home owner) = KeptEntry b i r.now home.0 owner.now

pub record KeptRecord (b : List ℕ) (i : ℕ) (k : Kept) : Type 0 where
  pub own : own_rules_fit b i ≡ true
  pub is : KeptIs b i k

-- the record of the user that is looked for, once the record at `index` is met
unfoldable pub last_met : Option RecordIndex → RecordIndex → ℕ → ℕ → Option RecordIndex
last_met found index number wanted = cond (eqb number wanted) (Some index) found

-- what the pass begins with: a place for each record, with no entry met, and a table of numbers
pub record Tables (records : ℕ) (dues : List (Option Due)) (seen : List ℕ) : Type 0 where
  pub room : records ≤ length dues
  pub unmet : (o : ℕ) → get_or dues o None ≡ None
  pub places : 0 < length seen

-- an index below which all records keep their own rules, and whose record is faulty, or u
pub record Broken (b : List ℕ) (i : ℕ) : Type 0 where
  pub from : 1 ≤ i
  pub to : i ≤ used b
  pub faulty : i < used b → good_record b i ≡ false
  pub own : (j : ℕ) → 1 ≤ j → j < i → own_rules_fit b j ≡ true

-- the index of a record, another number where there is none
abbrev pub index_or : ℕ → Option RecordIndex → ℕ
index_or other None = other
index_or other (Some i) = i.0

abbrev pub BrokenFirst : List ℕ → Option RecordIndex → Type 0
BrokenFirst b broken = Broken b (index_or (used b) broken)

-- where the chains were left: the records after it keep their own rules
pub record KeptAfter (b : List ℕ) (left : ℕ) : Type 0 where
  pub to : left < used b
  pub own : (i : ℕ) → left < i → i < used b → own_rules_fit b i ≡ true

-- where the chains lead to all records, the book is sound and the user is found
pub record Joined (b : List ℕ) (n : ℕ) (user : Option RecordIndex) : Type 0 where
  pub is_sound : sound b ≡ true
  pub found : user ≡ found_user b n

abbrev pub Followed : List ℕ → ℕ → Result (Option RecordIndex) RecordIndex → Type 0
Followed b n r = MatchResult r (Joined b n) (λ left. KeptAfter b left.0)

-- what the pass over all records says
abbrev pub PassedThrough : List ℕ → ℕ → Result (Option RecordIndex) (Option RecordIndex) → Type 0
PassedThrough b n r = MatchResult r (Joined b n) (BrokenFirst b)
