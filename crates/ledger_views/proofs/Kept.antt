-- What a change makes of the user that it is for, by the way it writes; and that it leaves every other user.
use Prim.Native.Nat.{ℕ, ◌<◌}
use mathlib.Core.Path.{◌≡◌, refl, ap, sym, ◌∙◌, subst}
use mathlib.Core.Bool.{Bool, true, false}
use mathlib.Core.Logic.{◌⊎◌, inl, inr, ⊎_elim}
use mathlib.Core.List.{List, [], ◌∷◌}
use mathlib.Core.Option.{none, some}
use native.Mathlib.Decide.{dec_lt}
use native.Mathlib.Omega.{arith}
use borrow.Author.Tests.{ne_eqb, eqb-true, eqb-false}
use lib.Dec.{eqb}
use Rattle.account_steps.specs.declared.Account.{Account}
use Rattle.book_layout.specs.Fields.{user_kind}
use Rattle.book_records.specs.Records.{account_in}
use Rattle.book_records.specs.Entries.{Entry}
use Rattle.book_rules.specs.Book.{used, is_user, number_of, next_of, first_entry_of, account_at}
use Rattle.book_rules.specs.Chains.{chain_from, entries_of}
use Rattle.book_rules.specs.Find.{find_user}
use Rattle.book_rules.proofs.RecordKinds.{has-kind, kind-index, not-both}
use Rattle.book_rules.proofs.Faultless.{Faultless}
use Rattle.chains.proofs.Chain.{chain-none}
use Rattle.call_rules.specs.Changes.{Change, nothing, opens, sets, enters}
use Rattle.call_keeps.proofs.Good.{Good, sizes}
use Rattle.call_keeps.proofs.Frame.{Frame}
use Rattle.call_keeps.proofs.KindsKept.{kind-same, kind-stays}
use Rattle.call_keeps.proofs.Numbers.{found, none_found}
use Rattle.call_keeps.proofs.Enrolment.{NewAccount, Enrolled}
use Rattle.call_keeps.proofs.Rewriting.{Rewritten}
use Rattle.call_keeps.proofs.Entries.{Entered}
use Rattle.call_keeps.proofs.Changes.{EntryIs, Changed, unchanged, opened, set, entered}
use Rattle.ledger_views.specs.Views.{view_is, entries_in, view_at, view_of, view_after}
use Rattle.ledger_views.proofs.Found.{found-is, nowhere}
use Rattle.ledger_views.proofs.Histories.{entries-kept, first-kept, account-kept, entry-joins}

-- a user that bears the number is what the book holds of it
pub view-is : (b : List ℕ) → Faultless b → (n i : ℕ) → is_user b i ≡ true → number_of b i ≡ n → view_of b n ≡ some (view_at b i)
unfolding view_of
view-is b f n i u e =
    let at = found-is b f n i u e in
    let place = kind-index b user_kind i u in
    rw (at, ne_eqb i 0 (omega (arith, place.0)))

pub view-none : (b : List ℕ) (n : ℕ) → ((i : ℕ) → is_user b i ≡ true → number_of b i ≡ n → ⊥) → view_of b n ≡ none
unfolding view_of
view-none b n nobody = rw (nowhere b n nobody)

pub view-nobody : (b : List ℕ) (n : ℕ) → eqb (find_user b n) 0 ≡ true → view_of b n ≡ none
unfolding view_of
view-nobody b n e = rw e

same_view : {a a' : Account} {es es' : List Entry} → a ≡ a' → es ≡ es' → some (view_is a es) ≡ some (view_is a' es')
same_view p q = λ k. some (view_is (p k) (q k))

-- every user but the one that is booked
module _ (b b' : List ℕ) (k : ℕ) (f : Frame b b' k) (g : Good b) (g' : Good b') (n : ℕ)
    (users : (j : ℕ) → is_user b' j ≡ true → (is_user b j ≡ true) ⊎ (number_of b' j ≡ n → ⊥)) (other : is_user b k ≡ true → number_of b k ≡ n → ⊥) where
  nobody-new : ((i : ℕ) → is_user b i ≡ true → number_of b i ≡ n → ⊥) → (i : ℕ) → is_user b' i ≡ true → number_of b' i ≡ n → ⊥
  nobody-new nobody i u e = ⊎_elim (λ (old : is_user b i ≡ true). nobody i old (sym (f.number i old) ∙ e)) (λ (no_one : number_of b' i ≡ n → ⊥). no_one e) (users i u)

  at_old : (i : ℕ) → is_user b i ≡ true → number_of b i ≡ n → view_of b' n ≡ some (view_at b i)
  at_old i u e =
      let apart : i ≡ k → ⊥ = λ same. other (subst (λ j. is_user b j ≡ true) same u) (subst (λ j. number_of b j ≡ n) same e) in
      view-is b' g'.faultless n i (kind-stays b b' k f user_kind i u) (f.number i u ∙ e)
      ∙ same_view (account-kept b b' k f g.faultless i u apart) (entries-kept b b' k f g.faultless i u (first-kept b b' k f g.faultless i u apart))

  view-kept : view_of b' n ≡ view_of b n
  view-kept = by_place (eqb (find_user b n) 0) refl
    where
      by_place : (t : Bool) → eqb (find_user b n) 0 ≡ t → view_of b' n ≡ view_of b n
      by_place true e =
          let nobody = none_found b n (eqb-true (find_user b n) 0 e) in
          view-none b' n (nobody-new nobody) ∙ sym (view-none b n nobody)
      by_place false e =
          let there = found b n (eqb-false (find_user b n) 0 e) in
          at_old (find_user b n) there.user there.number_is ∙ sym (view-is b g.faultless n (find_user b n) there.user there.number_is)

-- a user of the book after, at an old index, was one before
old-user : (b b' : List ℕ) (k : ℕ) → Frame b b' k → (j : ℕ) → j < used b → is_user b' j ≡ true → is_user b j ≡ true
old-user b b' k f j l h = sym (kind-same b b' k f user_kind j l) ∙ h

number_in : (b : List ℕ) (i : ℕ) (a : Account) → account_at b i ≡ a → number_of b i ≡ a.number.0
unfolding number_of account_in
number_in b i a e = ap (λ (x : Account). x.number.0) e

no-history : (b : List ℕ) (i : ℕ) → first_entry_of b i ≡ 0 → entries_of b i ≡ []
unfolding entries_of
no-history b i e = ap (chain_from (next_of b)) e ∙ chain-none (next_of b)

-- the number that a change is for, and a number that it is not for
abbrev pub For : List ℕ → ℕ → Change → ℕ → Type 0
For b i nothing n = Unit {0}
For b i (opens a) n = a.number.0 ≡ n
For b i (sets a) n = number_of b i ≡ n
For b i (enters a e) n = number_of b i ≡ n

abbrev pub NotFor : List ℕ → ℕ → Change → ℕ → Type 0
NotFor b i nothing n = Unit {0}
NotFor b i (opens a) n = a.number.0 ≡ n → ⊥
NotFor b i (sets a) n = number_of b i ≡ n → ⊥
NotFor b i (enters a e) n = number_of b i ≡ n → ⊥

pub for-another : (b : List ℕ) (i : ℕ) (c : Change) (n m : ℕ) → For b i c n → (n ≡ m → ⊥) → NotFor b i c m
for-another b i nothing n m p q = tt
for-another b i (opens a) n m p q = λ e. q (sym p ∙ e)
for-another b i (sets a) n m p q = λ e. q (sym p ∙ e)
for-another b i (enters a e) n m p q = λ r. q (sym p ∙ r)

module _ (b b' : List ℕ) (g : Good b) (i : ℕ) where
  -- a new user
  module _ (a : Account) (new : NewAccount b a) (k : Enrolled b b' a) where
    is-new : is_user b' (used b) ≡ true
    is-new = has-kind b' user_kind (used b) (sizes b g).some (omega (arith, k.head.used-is)) k.user.kind

    opened-own : view_of b' a.number.0 ≡ some (view_is a [])
    unfolding entries_in
    opened-own =
        view-is b' k.good.faultless a.number.0 (used b) is-new (number_in b' (used b) a k.user.account)
        ∙ same_view k.user.account (ap (entries_in b') (no-history b' (used b) k.user.first))

    opened-other : (n : ℕ) → (a.number.0 ≡ n → ⊥) → view_of b' n ≡ view_of b n
    opened-other n apart =
        view-kept b b' (used b) k.frame g k.good n (λ j u. place j u (dec_lt j (used b)))
        (λ u e. let p = kind-index b user_kind (used b) u in let z : ⊥ = omega (arith, p.1.0) in z)
      where
        place : (j : ℕ) → is_user b' j ≡ true → Dec (j < used b) → (is_user b j ≡ true) ⊎ (number_of b' j ≡ n → ⊥)
        place j u (yes l) = inl (old-user b b' (used b) k.frame j l u)
        place j u (no m) =
            let p = kind-index b' user_kind j u in
            let same : j ≡ used b = omega (arith, m, k.head.used-is) in
            inr (λ e. apart (sym (number_in b' (used b) a k.user.account) ∙ ap (number_of b') (sym same) ∙ e))

  -- another account
  module _ (a : Account) (h : is_user b i ≡ true) (k : Rewritten b b' i a) where
    set_own : (n : ℕ) → number_of b i ≡ n → view_of b' n ≡ view_after (sets a) (view_of b n)
    unfolding view_after
    set_own n e =
        let f = k.frame in
        view-is b' k.good.faultless n i (kind-stays b b' i f user_kind i h) (f.number i h ∙ e)
        ∙ same_view k.user.account (entries-kept b b' i f g.faultless i h k.user.first)
        ∙ ap (view_after (sets a)) (sym (view-is b g.faultless n i h e))

    set_other : (n : ℕ) → (number_of b i ≡ n → ⊥) → view_of b' n ≡ view_of b n
    set_other n apart =
        view-kept b b' i k.frame g k.good n
        (λ j u. inl (old-user b b' i k.frame j (let p = kind-index b' user_kind j u in omega (arith, k.used-same, p.1.0)) u)) (λ u e. apart e)

  -- an account and an entry
  module _ (a : Account) (e : Entry) (h : is_user b i ≡ true) (k : Entered b b' i a) (at : EntryIs b b' i e) where
    entered-own : (n : ℕ) → number_of b i ≡ n → view_of b' n ≡ view_after (enters a e) (view_of b n)
    unfolding view_after
    entered-own n q =
        let f = k.frame in
        let joins = entry-joins b b' i f g.faultless i h k.good.faultless (used b) (sizes b g).some k.user.first at.next-is
        (record { entry = at.is-entry; owner = at.owner-is }) in
        view-is b' k.good.faultless n i (kind-stays b b' i f user_kind i h) (f.number i h ∙ q)
        ∙ same_view k.user.account (joins ∙ ap (λ (x : Entry). x ∷ entries_in b (entries_of b i)) at.says)
        ∙ ap (view_after (enters a e)) (sym (view-is b g.faultless n i h q))

    entered-other : (n : ℕ) → (number_of b i ≡ n → ⊥) → view_of b' n ≡ view_of b n
    entered-other n apart = view-kept b b' i k.frame g k.good n (λ j u. inl (place j u (dec_lt j (used b)))) (λ u q. apart q)
      where
        place : (j : ℕ) → is_user b' j ≡ true → Dec (j < used b) → is_user b j ≡ true
        place j u (yes l) = old-user b b' i k.frame j l u
        place j u (no m) =
            let p = kind-index b' user_kind j u in
            let same : j ≡ used b = omega (arith, m, k.head.used-is) in
            absurd (not-both b' (used b) (subst (λ x. is_user b' x ≡ true) same u) at.is-entry)

  pub own_view : (c : Change) → Changed b i b' c → (n : ℕ) → For b i c n → view_of b' n ≡ view_after c (view_of b n)
  unfolding view_after
  own_view c (unchanged same) n for = ap (λ (x : List ℕ). view_of x n) same
  own_view c (opened {a} new k) n for = subst (λ (m : ℕ). view_of b' m ≡ some (view_is a [])) for (opened-own a new k)
  own_view c (set {a} h k) n for = set_own a h k n for
  own_view c (entered {a} {e} h k at) n for = entered-own a e h k at n for

  pub other-view : (c : Change) → Changed b i b' c → (n : ℕ) → NotFor b i c n → view_of b' n ≡ view_of b n
  other-view c (unchanged same) n apart = ap (λ (x : List ℕ). view_of x n) same
  other-view c (opened {a} new k) n apart = opened-other a new k n apart
  other-view c (set {a} h k) n apart = set_other a h k n apart
  other-view c (entered {a} {e} h k at) n apart = entered-other a e h k at n apart
