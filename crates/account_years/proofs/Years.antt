-- The years of a user of a sound book, and the credit after each.
use Prim.Native.Nat.{ℕ, suc, ◌+◌, ◌*◌, ◌^◌, ◌≤◌, ◌<◌}
use mathlib.Core.Path.{◌≡◌, refl, sym, ap, ◌∙◌}
use mathlib.Core.Bool.{Bool, true, false, cond, ◌&&◌}
use mathlib.Core.Logic.{⊎_elim}
use mathlib.Core.List.{List, [], ◌∷◌}
use lib.ListN.{length}
use native.Mathlib.Omega.{arith}
use borrow.Author.Tests.{leb-true}
use lib.Dec.{leb, eqb}
use Rattle.std.specs.Prelude.{Option, Some, IfSome}
use Rattle.units.proofs.Bools.{and_left, cond-capped}
use Rattle.units.specs.Limits.{max_year_ticks, most_years, record_length}
use Rattle.units.specs.InnerWithin.{NumberWithin}
use Rattle.account_steps.specs.declared.Account.{Account}
use Rattle.account_steps.specs.Closing.{credit_after}
use Rattle.account_steps.specs.Account.{outcome_of, credit_in}
use Rattle.account_steps.proofs.Outcomes.{outcome-credit}
use Rattle.book_layout.specs.Fields.{record_at}
use Rattle.book_records.specs.declared.ClosingRecord.{ClosingRecord}
use Rattle.book_records.specs.Records.{closing_in}
use Rattle.book_rules.specs.Book.{length_fits, sound, is_user, is_entry, is_advance, is_closing, level_of, account_at}
use Rattle.book_rules.specs.Chains.{entries_of}
use Rattle.book_rules.proofs.Faultless.{Faultless, sound-faultless}
use Rattle.book_rules.proofs.RecordKinds.{entry-cases}
use Rattle.chains.proofs.Ranges.{YearsFit, closing-ranges, user-years}
use Rattle.chain_reader.specs.Entries.{entry_in}
use Rattle.chain_reader.proofs.Held.{closing_held, advance_held}
use Rattle.account_years.specs.History.{is_closing_of, closing_among, closing_of, closing_after, credit_over, credit_then, credit_after_years}
use Rattle.account_years.specs.InnerEntries.{AmountsFit, EntryFits}

-- an activation year leaves room for every year after it
pub year_room : (b : List ℕ) (i n : ℕ) (a : Account) → a ≡ account_at b i → length_fits b ≡ true → sound b ≡ true → is_user b i ≡ true → n ≤ most_years
    → a.details.year + n < 2 ^ 16
year_room b i n a read long good user most =
    let y : YearsFit a = rw read (user-years b (sound-faultless b long good) i user) in
    omega (arith, y.ordered, y.latest)

-- what is found is a closing, whose amounts are within their ranges
module _ (b : List ℕ) (f : Faultless b) where
  amounts_fit : (e : ℕ) → is_closing b e ≡ true → AmountsFit (closing_in (record_at b e))
  amounts_fit e is = let r = closing-ranges b f e is in (r.value, r.liquidation)

  pub entry_fits : (e : ℕ) → is_entry b e ≡ true → EntryFits (entry_in (record_at b e))
  entry_fits e entry =
      ⊎_elim (λ (a : is_advance b e ≡ true). rw (advance_held b e a) tt) (λ (c : is_closing b e ≡ true). rw (closing_held b e c) (amounts_fit e c)) (entry-cases b e entry)

  among_fits : (year : ℕ) (es : List ℕ) → IfSome (closing_among b year es) AmountsFit
  unfolding closing_among is_closing_of
  among_fits year [] = tt
  among_fits year (e ∷ es) = by_test (is_closing b e && eqb (level_of b e) year) refl (among_fits year es)
    where
      by_test : (t : Bool) → (is_closing b e && eqb (level_of b e) year) ≡ t → IfSome (closing_among b year es) AmountsFit
          → IfSome (cond t (Some (closing_in (record_at b e))) (closing_among b year es)) AmountsFit
      by_test true h rest = amounts_fit e (and_left (is_closing b e) (eqb (level_of b e) year) h)
      by_test false h rest = rest

pub found_fits : (b : List ℕ) (i year : ℕ) (o : Option ClosingRecord) → length_fits b ≡ true → sound b ≡ true → o ≡ closing_of b i year → IfSome o AmountsFit
unfolding closing_of
found_fits b i year o long good e = rw e (among_fits b (sound-faultless b long good) year (entries_of b i))

-- a year adds at most its value to the credit
over_most : (c : ClosingRecord) (k : ℕ) → c.sums.value.0 ≤ max_year_ticks → credit_over c k ≤ k + max_year_ticks
unfolding credit_over credit_after
over_most c k l = cond-capped (eqb c.option 1) (omega arith) (omega arith)

pub credited : (c : ClosingRecord) (k : ℕ) → c.sums.value.0 ≤ max_year_ticks → (credit : ℕ) → credit ≡ credit_in (outcome_of c.option k c.sums.value.0 c.sums.cost.0)
    → NumberWithin (credit_over c k) (k + max_year_ticks) credit
unfolding credit_over
credited c k v credit g =
    let same : credit ≡ credit_over c k = g ∙ outcome-credit c.option k c.sums.value.0 c.sums.cost.0 in
    record { is = same; most = rw same (over_most c k v) }

-- THE CREDIT AFTER THE FIRST n YEARS
pub record Credited (b : List ℕ) (i n credit : ℕ) : Type 0 where
  pub is : credit ≡ credit_after_years b i n
  pub most : credit ≤ max_year_ticks * n

pub credit_begins : (b : List ℕ) (i : ℕ) → Credited b i 0 0
unfolding credit_after_years
credit_begins b i = record { is = refl; most = omega arith }

years_on : (b : List ℕ) (i n : ℕ) → credit_after_years b i (n + 1) ≡ credit_then (closing_after b i n) (credit_after_years b i n)
unfolding credit_after_years
years_on b i n = let one : n + 1 ≡ suc n = omega arith in ap (credit_after_years b i) one

pub credit_on : (b : List ℕ) (i n credit : ℕ) → Credited b i n credit → (o : Option ClosingRecord) → o ≡ closing_after b i n → (next : ℕ)
    → NumberWithin (credit_then o credit) (credit + max_year_ticks) next → Credited b i (n + 1) next
credit_on b i n credit s o e next h = record { is = h.is ∙ sym (years_on b i n ∙ rw (e, s.is)); most = omega (arith, s.most, h.most) }

-- the head of a book stands in it
pub head_stands : (b : List ℕ) → length_fits b ≡ true → record_length * 0 + record_length ≤ length b
unfolding length_fits
head_stands b long = omega (arith, leb-true 160 (length b) (and_left (leb 160 (length b)) (leb (length b) 64000) (and_left (leb 160 (length b) && leb (length b) 64000) _ long)))
