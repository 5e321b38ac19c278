-- In a sound book a user's record stands whole, and so does the next record where there is room.
use Prim.Native.Nat.{ℕ, ◌+◌, ◌*◌, ◌^◌, ◌≤◌, ◌<◌}
use mathlib.Core.Path.{◌≡◌, ◌∙◌}
use mathlib.Core.Bool.{true}
use mathlib.Core.List.{List}
use native.Mathlib.Omega.{arith}
use lib.ListN.{length}
use Rattle.units.specs.Limits.{record_length}
use Rattle.account_steps.specs.declared.Account.{Account}
use Rattle.book_rules.specs.Book.{used, used_fits, account_at}
use Rattle.book_rules.specs.Find.{find_user}
use Rattle.book_rules.proofs.Faults.{used-counted}
use Rattle.book_rules.proofs.Faultless.{sound-faultless}
use Rattle.book_view.specs.declared.User.{User}
use Rattle.book_view.proofs.Users.{user_whole}
use Rattle.check_book.specs.Verdicts.{Accepted}
use Rattle.call_rules.specs.Refusals.{has_room}
use Rattle.call_keeps.proofs.Good.{room-left}
use Rattle.call_answers.specs.InnerRooms.{EntryFits}
use Rattle.call_answers.proofs.Named.{Named, index-is, is-user, account-is}

module _ (b : List ℕ) (a : Accepted b) where
  used-fits : used_fits b ≡ true
  used-fits = (sound-faultless b a.fits a.is_sound).used-fits

  pub room-stands : has_room b ≡ true → record_length * used b + record_length ≤ length b
  room-stands h = omega (arith, room-left b used-fits h)

  pub used-small : used b + 1 < 2 ^ 32
  used-small = omega (arith, used-counted b used-fits a.fits)

module _ (b : List ℕ) (n : ℕ) (user : User) (k : Named b n user) where
  pub user-stands : record_length * user.index.0 + record_length ≤ length b
  user-stands = rw (index-is b n user k) (user_whole b (find_user b n) k.sound.fits k.sound.is_sound (is-user b n user k))

  -- an account as it was read
  pub entry-fits : (account : Account) → account ≡ account_at user.book.bytes.now user.index.0 → has_room b ≡ true → EntryFits b user.index.0 account
  entry-fits account read h =
      record {
        account-is = account-is b n user k account read ∙ rw (index-is b n user k);
        user = user-stands;
        room = room-stands b k.sound h;
        index = used-small b k.sound;
      }
