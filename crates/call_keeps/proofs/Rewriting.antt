-- A user written anew with another account and its links kept: the record is a good user, and the book stays good.
use Prim.Native.Nat.{ℕ, ◌^◌, ◌<◌}
use mathlib.Core.Path.{◌≡◌, refl, sym, ◌∙◌}
use mathlib.Core.Bool.{true}
use mathlib.Core.List.{List}
use native.Mathlib.Nat.{le_of_eq}
use native.Mathlib.Omega.{arith}
use Rattle.account_steps.specs.declared.Account.{Account}
use Rattle.book_layout.specs.Fields.{record_at, all_zero, unnamed_of_head, next_field, number_field, first_entry_field}
use Rattle.book_layout.proofs.ByteRanges.{field_below}
use Rattle.book_records.specs.Records.{account_in}
use Rattle.book_records.proofs.Users.{UserFits}
use Rattle.book_rules.specs.Book.{used, used_fits, first_user, account_fits, account_at, is_user, next_of, first_entry_of, open_year_of}
use Rattle.book_rules.proofs.Faultless.{UserGood}
use Rattle.call_keeps.proofs.Widths.{user-fits}
use Rattle.call_keeps.proofs.Records.{UserAt, user-at}
use Rattle.call_keeps.proofs.Good.{Good}
use Rattle.call_keeps.proofs.Written.{user_with, AccountSet}
use Rattle.call_keeps.proofs.Frame.{Frame, SameUser, frame-of-user}
use Rattle.call_keeps.proofs.PointersKept.{set-used, set-first-user, set-head, set-pointers}
use Rattle.call_keeps.proofs.RecordsKept.{good-records, user-kept, old-good}
use Rattle.call_keeps.proofs.Grown.{head-good, head-rest, first-user-stays, length-kept}

-- the widths of a user written anew
pub user-with-fits : (b : List ℕ) (i first : ℕ) (a : Account) → Good b → first < 2 ^ 32 → SameUser (account_at b i) a → account_fits a ≡ true
    → UserFits (user_with b i first a)
unfolding next_of account_in
user-with-fits b i first a g below same fits =
    let number : a.number.0 < 2 ^ 32 = rw same.number (field_below number_field b i g.bytes) in
    user-fits (next_of b i) first a (field_below next_field b i g.bytes) below number fits

-- what is known of the book after an account is set
pub record Rewritten (b b' : List ℕ) (i : ℕ) (a : Account) : Type 0 where
  pub frame : Frame b b' i
  pub good : Good b'
  pub used-same : used b' ≡ used b
  pub first-same : first_user b' ≡ first_user b
  pub user : UserAt b' i (user_with b i (first_entry_of b i) a)

module _ (b b' : List ℕ) (i : ℕ) (a : Account) (g : Good b) (h : is_user b i ≡ true) (same : SameUser (account_at b i) a)
    (year : a.open_year ≡ (account_at b i).open_year) (fits : account_fits a ≡ true) (s : AccountSet b b' i a) where
  user : UserAt b' i (user_with b i (first_entry_of b i) a)
  unfolding first_entry_of
  user =
      user-at b' i (user_with b i (first_entry_of b i) a) s.here (user-with-fits b i (first_entry_of b i) a g (field_below first_entry_field b i g.bytes) same fits)

  frame : Frame b b' i
  frame =
      frame-of-user b b' i (user_with b i (first_entry_of b i) a) h user refl same (λ j lo hi n. s.others j n) s.length-same
      (le_of_eq (sym (set-used b b' i a h s user)))

  user-good : UserGood b' i
  unfolding open_year_of account_in
  user-good =
      user-kept b b' i g.faultless frame (λ k lo hi. set-pointers b b' i a h s user k) i h (rw user.account fits) user.unnamed user.first
      (user.open_year ∙ year)

  used-fits : used_fits b' ≡ true
  unfolding used_fits
  used-fits = rw (set-used b b' i a h s user, s.length-same) g.faultless.used-fits

  pub rewritten : Rewritten b b' i a
  rewritten =
      let first = set-first-user b b' i a h s user in
      let rest : all_zero unnamed_of_head (record_at b' 0) ≡ true = rw (set-head b b' i a h s user) (head-rest b g.faultless.head) in
      let old = old-good b b' i g.faultless frame (λ k lo hi. set-pointers b b' i a h s user k) (λ t. user-good) in
      record {
        frame = frame;
        good =
            record {
              bytes = s.bytes;
              length = length-kept b b' s.length-same g.length;
              faultless =
                  good-records b' used-fits (head-good b' (first_user b) first (first-user-stays b b' i frame g.faultless.head) rest)
                  (λ j lo hi. old j lo (omega (arith, set-used b b' i a h s user)));
            };
        used-same = set-used b b' i a h s user;
        first-same = first;
        user = user;
      }
