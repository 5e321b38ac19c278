-- What the record at an index of a book reads where the image of a user, an advance or a closing stands there.
use Prim.Native.Nat.{ℕ}
use mathlib.Core.Path.{◌≡◌, ap, ◌∙◌}
use mathlib.Core.Bool.{true}
use mathlib.Core.List.{List}
use Rattle.book_layout.specs.Fields.{get, all_zero, unnamed_of_user, unnamed_of_advance, unnamed_of_closing, record_at, user_kind, advance_kind, closing_kind, next_field, kind_field, number_field}
use Rattle.book_layout.specs.Fields.{first_entry_field}
use Rattle.book_layout.specs.Fields.{activation_year_field, open_year_field, owner_field}
use Rattle.book_records.specs.declared.UserRecord.{UserRecord}
use Rattle.book_records.specs.declared.AdvanceRecord.{AdvanceRecord}
use Rattle.book_records.specs.declared.ClosingRecord.{ClosingRecord}
use Rattle.book_records.specs.Records.{user_image, advance_image, closing_image, account_in, user_in, advance_in, closing_in}
use Rattle.book_records.proofs.Users.{UserFits, user-reads, user-back, user-unnamed}
use Rattle.book_records.proofs.Advances.{AdvanceFits, advance-reads, advance-back, advance-unnamed}
use Rattle.book_records.proofs.Closings.{ClosingFits, closing-reads, closing-back, closing-unnamed}
use Rattle.book_rules.specs.Book.{kind_at, next_of, first_entry_of, number_of, activation_of, open_year_of, account_at, owner_of, level_from, level_in, level_of}

-- the user u stands at index i of b
pub record UserAt (b : List ℕ) (i : ℕ) (u : UserRecord) : Type 0 where
  pub kind : kind_at b i ≡ user_kind
  pub next : next_of b i ≡ u.next.0
  pub first : first_entry_of b i ≡ u.first.0
  pub number : number_of b i ≡ u.account.number.0
  pub activation : activation_of b i ≡ u.account.details.year
  pub open_year : open_year_of b i ≡ u.account.open_year
  pub account : account_at b i ≡ u.account
  pub unnamed : all_zero unnamed_of_user (record_at b i) ≡ true

pub user-at : (b : List ℕ) (i : ℕ) (u : UserRecord) → record_at b i ≡ user_image u → UserFits u → UserAt b i u
unfolding kind_at next_of first_entry_of number_of activation_of open_year_of user_in
user-at b i u e h =
    let r = user-reads u h in
    record {
      kind = ap (get kind_field) e ∙ r.kind;
      next = ap (get next_field) e ∙ r.next;
      first = ap (get first_entry_field) e ∙ r.first;
      number = ap (get number_field) e ∙ r.number;
      activation = ap (get activation_year_field) e ∙ r.year;
      open_year = ap (get open_year_field) e ∙ r.open_year;
      account = ap account_in e ∙ ap (λ (w : UserRecord). w.account) (user-back u h);
      unnamed = ap (all_zero unnamed_of_user) e ∙ user-unnamed u;
    }

-- what an entry of either kind reads: its next, its owner and its level
pub record EntryAt (b : List ℕ) (i next owner year : ℕ) : Type 0 where
  pub next-is : next_of b i ≡ next
  pub owner-is : owner_of b i ≡ owner
  pub year-is : level_of b i ≡ year

pub record AdvanceAt (b : List ℕ) (i : ℕ) (a : AdvanceRecord) : Type 0 where
  pub kind : kind_at b i ≡ advance_kind
  pub entry : EntryAt b i a.next.0 a.owner.0 (level_from a.year a.booked)
  pub advance : advance_in (record_at b i) ≡ a
  pub unnamed : all_zero unnamed_of_advance (record_at b i) ≡ true

pub advance-at : (b : List ℕ) (i : ℕ) (a : AdvanceRecord) → record_at b i ≡ advance_image a → AdvanceFits a → AdvanceAt b i a
unfolding kind_at next_of owner_of level_of level_in
advance-at b i a e h =
    let r = advance-reads a h in
    record {
      kind = ap (get kind_field) e ∙ r.kind;
      entry =
          record {
            next-is = ap (get next_field) e ∙ r.next;
            owner-is = ap (get owner_field) e ∙ r.owner;
            year-is = ap level_in e ∙ rw (r.kind, r.year, r.booked);
          };
      advance = ap advance_in e ∙ advance-back a h;
      unnamed = ap (all_zero unnamed_of_advance) e ∙ advance-unnamed a;
    }

pub record ClosingAt (b : List ℕ) (i : ℕ) (c : ClosingRecord) : Type 0 where
  pub kind : kind_at b i ≡ closing_kind
  pub entry : EntryAt b i c.next.0 c.owner.0 c.year
  pub closing : closing_in (record_at b i) ≡ c
  pub unnamed : all_zero unnamed_of_closing (record_at b i) ≡ true

pub closing_at : (b : List ℕ) (i : ℕ) (c : ClosingRecord) → record_at b i ≡ closing_image c → ClosingFits c → ClosingAt b i c
unfolding kind_at next_of owner_of level_of level_in
closing_at b i c e h =
    let r = closing-reads c h in
    record {
      kind = ap (get kind_field) e ∙ r.kind;
      entry =
          record {
            next-is = ap (get next_field) e ∙ r.next;
            owner-is = ap (get owner_field) e ∙ r.owner;
            year-is = ap level_in e ∙ rw (r.kind, r.year);
          };
      closing = ap closing_in e ∙ closing-back c h;
      unnamed = ap (all_zero unnamed_of_closing) e ∙ closing-unnamed c;
    }
