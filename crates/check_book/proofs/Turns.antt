-- The users before an index have had their turn, and one more has it.
use Rattle.std.proofs.Common.{◌≡◌, ℕ, ◌+◌, ◌≤◌, ◌<◌, Bool, true, false, ◌&&◌, List, length, ◌∙◌, arith}
use native.Mathlib.Decide.{dec_lt}
use borrow.Author.Tests.{lt-ltb, le-ltb}
use lib.Dec.{ltb}
use Rattle.std.specs.Bool.{then_some}
use Rattle.units.specs.Units.{record_index}
use Rattle.book_rules.specs.Book.{used, is_user, is_entry, owner_fits, number_of, own_rules_fit, good_record}
use Rattle.check_numbers.specs.InnerHeld.{places, Put}
use Rattle.check_owners.specs.InnerOwners.{owns}
use Rattle.check_book.specs.Verdicts.{RecordsJudged, RecordsSearched}
use Rattle.check_book.proofs.Homes.{Bad, Homes, Fine, home-user, home-other, homes-sooner, homes-next}
use Rattle.check_book.proofs.SeenNumbers.{Seen, seen_other, seen_next}

pub record UsersMet (b table : List ℕ) (all_seen : Bool) (bad i : ℕ) : Type 0 where
  pub from : 1 ≤ i
  pub before : i ≤ bad
  pub own : (j : ℕ) → 1 ≤ j → j < bad → own_rules_fit b j ≡ true
  pub is : Bad b bad
  pub long : length table ≡ places
  pub seen : all_seen ≡ true → Seen b i table
  pub homes : Homes b bad i

module _ (b : List ℕ) {table : List ℕ} {all_seen : Bool} {bad i : ℕ} (s : UsersMet b table all_seen bad i) where
  -- a good user, whose entries before `sooner` are good
  pub user-turn : is_user b i ≡ true → good_record b i ≡ true → {number : ℕ} → number ≡ number_of b i → {after : List ℕ} (put : Bool) → Put table number after put
      → (sooner : ℕ) → sooner ≤ bad → i < sooner → Bad b sooner → ((e : ℕ) → i < e → owns b i e ≡ true → Fine b sooner e)
      → UsersMet b after (all_seen && put) sooner (i + 1)
  user-turn user good number_is put ins sooner l h is fine =
      record {
        from = omega arith;
        before = omega arith;
        own = λ j p q. s.own j p (omega arith);
        is = is;
        long = ins.size ∙ s.long;
        seen = seen_next b i all_seen put s.seen number_is ins.inserted;
        homes = homes-next b sooner i (homes-sooner b bad sooner i l s.homes) (home-user b sooner i user good fine);
      }

  -- an entry of a user before it
  pub other-turn : is_user b i ≡ false → (is_entry b i && owner_fits b i) ≡ true → i < bad → UsersMet b table all_seen bad (i + 1)
  other-turn other owned h =
      record {
        from = omega arith;
        before = omega arith;
        own = s.own;
        is = s.is;
        long = s.long;
        seen = λ all. seen_other b i other (s.seen all);
        homes = homes-next b bad i s.homes (home-other b bad i other owned);
      }

-- what the search answers
pub searched : (b : List ℕ) (bad : ℕ) {records : ℕ} → records ≡ used b → RecordsJudged b bad → RecordsSearched b (then_some (ltb bad records) (record_index bad))
searched b bad {records} u judged = by_place (dec_lt bad records)
  where
    by_place : Dec (bad < records) → RecordsSearched b (then_some (ltb bad records) (record_index bad))
    by_place (yes h) = rw (lt-ltb bad records h) (omega arith, judged)
    by_place (no h) =
        let to = judged.to in
        let end : used b ≡ bad = omega (arith, h) in
        rw (le-ltb bad records (omega (arith, h)), end) judged
