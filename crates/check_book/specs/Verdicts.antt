-- What each answer of the check says of the book, and what fresh answers and leaves (document 01, "Book" and "Who brings which
-- number").
use Rattle.std.specs.Prelude.{ℕ, ◌≤◌, ◌<◌, ◌≡◌, true, false, cond, Option, Result, MatchOption, MatchResult, List, length}
use Rattle.units.specs.declared.RecordIndex.{RecordIndex}
use Rattle.units.specs.Units.{record_index}
use Rattle.book_rules.specs.Book.{length_fits, fresh_book, used, good_record, sound, smallest_faulty}
use Rattle.book_rules.specs.Find.{find_user}
use Rattle.book_view.specs.declared.SoundBook.{SoundBook}
use Rattle.book_view.specs.declared.User.{User}
use Rattle.check_lookup.specs.Found.{found_user}
use Rattle.refusals.specs.declared.Refusal.{Refusal}
use Rattle.refusals.specs.declared.Refusal.TheVariants.{BookLength, FaultyRecord}

-- the records but the head, where u fits: this one is faulty, or it is u; and none before it is faulty
pub record RecordsJudged (b : List ℕ) (bad : ℕ) : Type 0 where
  pub from : 1 ≤ bad
  pub to : bad ≤ used b
  pub is-bad : bad < used b → good_record b bad ≡ false
  pub before : (i : ℕ) → 1 ≤ i → i < bad → good_record b i ≡ true

-- what a search of them finds: the faulty one with the smallest index, none where none is faulty
abbrev pub RecordsSearched : List ℕ → Option RecordIndex → Type 0
RecordsSearched b r = MatchOption r (RecordsJudged b (used b)) (λ bad. (bad.0 < used b) × RecordsJudged b bad.0)

-- a book that neither refusal 1 nor refusal 2 meets
pub record Accepted (b : List ℕ) : Type 0 where
  pub fits : length_fits b ≡ true
  pub is_sound : sound b ≡ true

-- "2 not sound"; "the faulty record with the smallest index" (ticket 4)
pub record Objected (b : List ℕ) (i : ℕ) : Type 0 where
  pub fits : length_fits b ≡ true
  pub unsound : sound b ≡ false
  pub smallest : i ≡ smallest_faulty b

-- what each refusal says of a book
abbrev pub BookRefused : List ℕ → Refusal → Type 0
BookRefused b BookLength = length_fits b ≡ false
BookRefused b (FaultyRecord i) = Objected b i.0
BookRefused b other = ⊥

-- what the pass over a book says: it is accepted, with the record of the user that has a number, or it is refused
abbrev pub BookJudged : List ℕ → ℕ → Result (Option RecordIndex) Refusal → Type 0
BookJudged b n r = MatchResult r (λ found. Accepted b × (found ≡ found_user b n)) (BookRefused b)

-- the user of a book that has a number, as a view
abbrev pub UserFound : List ℕ → ℕ → Option User → Type 0
UserFound b n user = MatchOption user (find_user b n ≡ 0) (λ u. (u.book.bytes.now ≡ b) × (u.index ≡ record_index (find_user b n)))

-- what the look at a book says: the book as a sound one with the user that has a number, or a refusal
abbrev pub BookFound : List ℕ → ℕ → Result (SoundBook × Option User) Refusal → Type 0
BookFound b n r = MatchResult r (λ p. (p.0.bytes.now ≡ b) × (Accepted b × UserFound b n p.1)) (BookRefused b)

-- what the check alone says
abbrev pub BookChecked : List ℕ → Result SoundBook Refusal → Type 0
BookChecked b r = MatchResult r (λ s. (s.bytes.now ≡ b) × Accepted b) (BookRefused b)

-- "fresh 1": the only refusal of fresh
unfoldable pub fresh_answer : List ℕ → ℕ
fresh_answer b = cond (length_fits b) 0 1

unfoldable pub fresh_after : List ℕ → List ℕ
fresh_after b = cond (length_fits b) (fresh_book (length b)) b
