-- The walk over the users' chain of a sound book: the lines ahead, stored after those written, always give the same text.
use Prim.Native.Nat.{ℕ, ◌+◌, ◌*◌, ◌≤◌, ◌<◌}
use mathlib.Core.Path.{◌≡◌, refl, sym, ap, ◌∙◌}
use mathlib.Core.Bool.{true}
use mathlib.Core.Logic.{⊎_elim}
use mathlib.Core.List.{List, [], ◌∷◌, ◌++◌}
use native.Mathlib.Omega.{arith}
use lib.ListN.{length, length-append}
use Rattle.account_steps.specs.declared.Account.{Account}
use Rattle.codec.specs.Bytes.{stored}
use Rattle.codec.proofs.Stores.{length-stored}
use Rattle.book_rules.specs.Book.{first_user, length_fits, sound, is_user, next_of, account_at}
use Rattle.book_rules.proofs.Lengths.{capacity-most}
use Rattle.book_rules.proofs.Faults.{used-within}
use Rattle.book_rules.proofs.Faultless.{Faultless, sound-faultless}
use Rattle.book_rules.specs.Chains.{chain_from, users_of}
use Rattle.chains.proofs.Chain.{On, chain-none, chain-from-length}
use Rattle.book_rules.proofs.RecordKinds.{user-index}
use Rattle.chains.proofs.Links.{first-user, users-fall}
use Rattle.chains.proofs.Walks.{walk-on, walk-falls, walk-chain}
use Rattle.listing_text.specs.Listing.{user_line, user_lines}
use Rattle.listing_text.specs.InnerWritten.{longest_user_line, most_users, longest_text, account_line, TextFirst}
use Rattle.codec.proofs.Pieces.{stored-then, stored-none}
use Rattle.listing_text.proofs.Fields.{line-short, user-line}

lines-short : (b is : List ℕ) → length (user_lines b is) ≤ longest_user_line * length is
unfolding user_lines
lines-short b [] = omega arith
lines-short b (i ∷ is) =
    let tail : length (user_lines b is) ≤ longest_user_line * length is = lines-short b is in
    let here : length (user_line b i) ≤ longest_user_line = rw (user-line b i) (line-short (account_at b i)) in
    rw length-append (omega arith)

-- the lines from an index of the chain on
abbrev pub lines_from : List ℕ → ℕ → List ℕ
lines_from b user = user_lines b (chain_from (next_of b) user)

abbrev pub text : List ℕ → List ℕ
text b = user_lines b (users_of b)

abbrev User : List ℕ → ℕ → Type 0
User b i = is_user b i ≡ true

-- between two turns: `before` is the text that came, `out` as it stands, written up to `end`
pub record Walking (b before out : List ℕ) (end user : ℕ) : Type 0 where
  pub faultless : Faultless b
  pub on : On (λ i. is_user b i ≡ true) user
  pub same : length out ≡ length before
  pub wide : longest_text ≤ length before
  pub room : end + longest_user_line * user ≤ longest_text
  pub fits : length (text b) ≤ longest_text
  pub count : end + length (lines_from b user) ≡ length (text b)
  pub written : stored end (lines_from b user) out ≡ stored 0 (text b) before

-- THE BEGINNING
module _ (b : List ℕ) (long : length_fits b ≡ true) (good : sound b ≡ true) where
  faultless-here : Faultless b
  faultless-here = sound-faultless b long good

  few-users : first_user b ≤ most_users
  few-users =
      let f = faultless-here in
      ⊎_elim (λ (e : first_user b ≡ 0). omega arith)
      (λ (u : is_user b (first_user b) ≡ true). omega (arith, user-index b (first_user b) u, used-within b f.used-fits, capacity-most b long))
      (first-user b f)

  pub text-short : length (text b) ≤ longest_text
  unfolding users_of
  text-short = omega (arith, few-users, lines-short b (users_of b), chain-from-length (next_of b) (first_user b))

  pub begins : (s : List ℕ) → longest_text ≤ length s → Walking b s s 0 (first_user b)
  unfolding users_of
  begins s wide =
      record {
        faultless = faultless-here;
        on = first-user b faultless-here;
        same = refl;
        wide = wide;
        room = omega (arith, few-users);
        fits = text-short;
        count = omega arith;
        written = refl;
      }

-- A TURN
module _ (b before out : List ℕ) (end user : ℕ) (w : Walking b before out end user) (more : user ≡ 0 → ⊥) where
  next-falls : next_of b user < user
  next-falls = walk-falls (User b) (next_of b) (users-fall b w.faultless) user w.on more

  abbrev here : List ℕ
  here = account_line (account_at b user)

  ahead : lines_from b user ≡ here ++ lines_from b (next_of b user)
  unfolding user_lines
  ahead =
      ap (user_lines b) (walk-chain (User b) (next_of b) (users-fall b w.faultless) user w.on more)
      ∙ ap (λ (l : List ℕ). l ++ lines_from b (next_of b user)) (user-line b user)

  length-ahead : length (lines_from b user) ≡ length here + length (lines_from b (next_of b user))
  length-ahead = ap length ahead ∙ length-append here (lines_from b (next_of b user))

  turned : Walking b before (stored end here out) (end + length here) (next_of b user)
  turned =
      let short : length here ≤ longest_user_line = line-short (account_at b user) in
      let both : end + (length here + length (lines_from b (next_of b user))) ≤ length out =
      omega (arith, w.count, w.fits, w.wide, w.same, length-ahead) in
      record {
        faultless = w.faultless;
        on = walk-on (User b) (next_of b) (users-fall b w.faultless) user w.on more;
        same = length-stored end here out (omega arith) ∙ w.same;
        wide = w.wide;
        room = omega (arith, w.room, next-falls);
        fits = w.fits;
        count = omega (arith, w.count, length-ahead);
        written =
            stored-then end here (lines_from b (next_of b user)) out both
            ∙ ap (λ (l : List ℕ). stored end l out) (sym ahead)
            ∙ w.written;
      }

  -- the same, from what the three calls of a turn answer
  pub goes_on : (account : Account) (out' : List ℕ) (end' next : ℕ) → account ≡ account_at b user
      → end' ≡ end + length (account_line account) → out' ≡ stored end (account_line account) out → next ≡ next_of b user
      → Walking b before out' end' next
  goes_on account out' end' next a e o n = rw (n, o, e, a) turned

-- THE END
pub ends : (b before out : List ℕ) (end : ℕ) → Walking b before out end 0
    → TextFirst (text b) before out end
unfolding user_lines
ends b before out end w =
    let none : lines_from b 0 ≡ [] = ap (user_lines b) (chain-none (next_of b)) in
    let zero_left : length (lines_from b 0) ≡ 0 = ap length none in
    record { end = omega (arith, w.count); stands = sym (ap (λ (l : List ℕ). stored end l out) none ∙ stored-none end out) ∙ w.written }
