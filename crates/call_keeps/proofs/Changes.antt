-- A change that fits keeps a good book good, and what it leaves alone is one frame: one law for every call.
use Prim.Native.Nat.{ℕ, ◌+◌, ◌<◌}
use mathlib.Core.Path.{◌≡◌, refl, sym, ap, ◌∙◌}
use mathlib.Core.Bool.{true}
use mathlib.Core.List.{List}
use native.Mathlib.Nat.{le_refl, add-zero}
use Rattle.std.specs.Int.{w64}
use Rattle.std.specs.Prelude.{FitsSigned}
use Rattle.units.specs.declared.Ticks.{Ticks}
use Rattle.account_steps.specs.declared.Account.{Account}
use Rattle.account_steps.specs.declared.ClosingSums.{ClosingSums}
use Rattle.book_layout.specs.Fields.{capacity, record_at}
use Rattle.book_records.specs.Records.{account_in, advance_image, closing_image}
use Rattle.book_records.specs.Entries.{Entry, advance_entry, closing_entry, of_advance, of_closing, entry_in, advance_record, closing_record, entry_image}
use Rattle.book_records.proofs.Advances.{length-advance-image, bytes-advance-image}
use Rattle.book_records.proofs.Closings.{length-closing-image, bytes-closing-image}
use Rattle.book_rules.specs.Book.{used, kind_at, is_user, is_entry, next_of, owner_of, first_entry_of, account_at, account_fits, level_from, advance_fits, closing_fits, withheld_fits, open_year_of}
use Rattle.call_rules.specs.Changes.{Change, nothing, opens, sets, enters, enrolled_as, with_account, with_entry, applied}
use Rattle.call_keeps.proofs.Good.{Good}
use Rattle.call_keeps.proofs.Frame.{Frame, SameUser, frame-of-old}
use Rattle.call_keeps.proofs.Records.{AdvanceAt, ClosingAt}
use Rattle.call_keeps.proofs.Written.{user-enrolled, account-set, entry-added}
use Rattle.call_keeps.proofs.Enrolment.{NewAccount, Enrolled, enrolled-kept}
use Rattle.call_keeps.proofs.Rewriting.{Rewritten, rewritten}
use Rattle.call_keeps.proofs.Entries.{Entered}
use Rattle.call_keeps.proofs.NewEntries.{advance-entered, closing-entered}

-- an entry that may stand in front of a chain whose open year is y, of an account that becomes a
pub data Joins (a : Account) (y : ℕ) : Entry → Type 0 where
  an-advance : {year booked run : ℕ} {paid withheld : Ticks} → advance_fits a (advance_record 0 0 year booked run paid withheld) ≡ true → level_from year booked ≡ y
      → a.open_year ≡ y → Joins a y (advance_entry year booked run paid withheld)
  a-closing : {option : ℕ} {s : ClosingSums} {withheld : Ticks} → closing_fits a (closing_record 0 0 y option s withheld) ≡ true → FitsSigned w64 s.balance.0
      → a.open_year ≡ y + 1 → Joins a y (closing_entry y option s withheld)

-- a change of the user at i that fits the book
pub data Fits (b : List ℕ) (i : ℕ) : Change → Type 0 where
  no_change : Fits b i nothing
  a-user : {a : Account} → NewAccount b a → used b < capacity b → Fits b i (opens a)
  an-account : {a : Account} → is_user b i ≡ true → SameUser (account_at b i) a → account_fits a ≡ true → a.open_year ≡ (account_at b i).open_year → Fits b i (sets a)
  an-entry : {a : Account} {e : Entry} → is_user b i ≡ true → SameUser (account_at b i) a → account_fits a ≡ true → used b < capacity b
      → Joins a (account_at b i).open_year e → Fits b i (enters a e)

-- the new entry at the index u
pub record EntryIs (b b' : List ℕ) (i : ℕ) (e : Entry) : Type 0 where
  pub is-entry : is_entry b' (used b) ≡ true
  pub next-is : next_of b' (used b) ≡ first_entry_of b i
  pub owner-is : owner_of b' (used b) ≡ i
  pub says : entry_in (record_at b' (used b)) ≡ e

-- what is known of the book after a change
pub data Changed (b : List ℕ) (i : ℕ) (b' : List ℕ) : Change → Type 0 where
  unchanged : b' ≡ b → Changed b i b' nothing
  opened : {a : Account} → NewAccount b a → Enrolled b b' a → Changed b i b' (opens a)
  set : {a : Account} → is_user b i ≡ true → Rewritten b b' i a → Changed b i b' (sets a)
  entered : {a : Account} {e : Entry} → is_user b i ≡ true → Entered b b' i a → EntryIs b b' i e → Changed b i b' (enters a e)

module _ (b b' : List ℕ) (i : ℕ) where
  advance-is : (year booked run : ℕ) (paid withheld : Ticks) → is_entry b' (used b) ≡ true
      → AdvanceAt b' (used b) (advance_record (first_entry_of b i) i year booked run paid withheld) → EntryIs b b' i (advance_entry year booked run paid withheld)
  unfolding entry_in kind_at
  advance-is year booked run paid withheld e at =
      record { is-entry = e; next-is = at.entry.next-is; owner-is = at.entry.owner-is; says = rw at.kind (ap of_advance at.advance) }

  closing-is : (y option : ℕ) (s : ClosingSums) (withheld : Ticks) → is_entry b' (used b) ≡ true
      → ClosingAt b' (used b) (closing_record (first_entry_of b i) i y option s withheld) → EntryIs b b' i (closing_entry y option s withheld)
  unfolding entry_in kind_at
  closing-is y option s withheld e at =
      record { is-entry = e; next-is = at.entry.next-is; owner-is = at.entry.owner-is; says = rw at.kind (ap of_closing at.closing) }

module _ (b : List ℕ) (g : Good b) (i : ℕ) where
  entered_by : (a : Account) (e : Entry) → is_user b i ≡ true → SameUser (account_at b i) a → account_fits a ≡ true → used b < capacity b
      → Joins a (account_at b i).open_year e → Changed b i (with_entry i a (entry_image (first_entry_of b i) i e) b) (enters a e)
  unfolding entry_image open_year_of account_in advance_fits closing_fits withheld_fits
  entered_by a e h same fits room (an-advance {year} {booked} {run} {paid} {withheld} ranges level open-year) =
      let x = advance_record (first_entry_of b i) i year booked run paid withheld in
      let k = advance-entered b (with_entry i a (advance_image x) b) i a g h same fits room x (record { next-is = refl; owner-is = refl; year-is = level }) ranges open-year
      (entry-added b g i a (advance_image x) h room (length-advance-image x) (bytes-advance-image x)) in
      entered h k.0 (advance-is b (with_entry i a (advance_image x) b) i year booked run paid withheld k.1.0 k.1.1)
  entered_by a e h same fits room (a-closing {option} {s} {withheld} ranges balance year) =
      let y = (account_at b i).open_year in
      let x = closing_record (first_entry_of b i) i y option s withheld in
      let k = closing-entered b (with_entry i a (closing_image x) b) i a g h same fits room x (record { next-is = refl; owner-is = refl; year-is = refl }) ranges balance year
      (entry-added b g i a (closing_image x) h room (length-closing-image x) (bytes-closing-image x)) in
      entered h k.0 (closing-is b (with_entry i a (closing_image x) b) i y option s withheld k.1.0 k.1.1)

  pub change-made : (c : Change) → Fits b i c → Changed b i (applied i c b) c
  unfolding applied
  change-made c no_change = unchanged refl
  change-made c (a-user {a} new room) = opened new (enrolled-kept b (enrolled_as a b) a g new room (user-enrolled b g a room))
  change-made c (an-account {a} h same fits year) = set h (rewritten b (with_account i a b) i a g h same year fits (account-set b g i a h))
  change-made c (an-entry {a} {e} h same fits room joins) = entered_by a e h same fits room joins

-- the record that a change writes first: the frame leaves every other one
unfoldable pub touched : List ℕ → ℕ → Change → ℕ
touched b i nothing = i
touched b i (opens a) = used b
touched b i (sets a) = i
touched b i (enters a e) = i

-- the records that it adds
unfoldable pub adds : Change → ℕ
adds nothing = 0
adds (opens a) = 1
adds (sets a) = 0
adds (enters a e) = 1

pub record Kept (b b' : List ℕ) (k more : ℕ) : Type 0 where
  pub frame : Frame b b' k
  pub good : Good b'
  pub counted : used b' ≡ used b + more

pub changed-keeps : (b : List ℕ) → Good b → (i : ℕ) (b' : List ℕ) (c : Change) → Changed b i b' c → Kept b b' (touched b i c) (adds c)
unfolding touched adds
changed-keeps b g i b' c (unchanged same) =
    rw same (record { frame = frame-of-old b b i refl (le_refl (used b)) (λ j lo hi. refl); good = g; counted = sym (add-zero (used b)) })
changed-keeps b g i b' c (opened new k) = record { frame = k.frame; good = k.good; counted = k.head.used-is }
changed-keeps b g i b' c (set h k) = record { frame = k.frame; good = k.good; counted = k.used-same ∙ sym (add-zero (used b)) }
changed-keeps b g i b' c (entered h k e) = record { frame = k.frame; good = k.good; counted = k.head.used-is }
