-- The users' chain leads to users that are still to be met, and so by falling index to its end; and no two users have one
-- number.
use Prim.Native.Nat.{ℕ, zero, suc, ◌+◌, ◌-◌, ◌≤◌, ◌<◌}
use mathlib.Core.Path.{◌≡◌, sym, ap, ◌∙◌, subst}
use mathlib.Core.Bool.{Bool, true, not, ◌&&◌, ◌||◌, or-true}
use mathlib.Core.Logic.{◌⊎◌, inl, inr}
use mathlib.Core.List.{List}
use native.Mathlib.Decide.{dec_lt}
use native.Mathlib.Omega.{arith}
use borrow.Author.Tests.{eq-eqb, lt-ltb, eqb-true}
use lib.Dec.{eqb, ltb}
use Rattle.units.proofs.Bools.{and_left, and_right}
use Rattle.units.proofs.Folds.{none_of}
use Rattle.book_layout.specs.Fields.{user_kind}
use Rattle.book_rules.specs.Book.{used, first_user, is_user, next_of, number_of, user_next_fits, number_is_new}
use Rattle.book_rules.proofs.RecordKinds.{kind-from-one, not-both}
use Rattle.check_descent.specs.InnerDescent.{met, due_user, MetUser, MetEntry, AllMet}
use Rattle.check_descent.proofs.Steps.{met_at, fails, user-moves, entry-keeps-user}

-- the end of the users' chain, or a user below n
abbrev UserBelow : List ℕ → ℕ → ℕ → Type 0
UserBelow b n i = (i ≡ 0) ⊎ ((is_user b i ≡ true) × (i < n))

user-below-more : (b : List ℕ) (n i : ℕ) → UserBelow b n i → UserBelow b (suc n) i
user-below-more b n i (inl e) = inl e
user-below-more b n i (inr u) = inr (u.0, omega arith)

module _ (b : List ℕ) (p : AllMet b) where
  -- a user is met as one
  pub user-met : (d : ℕ) → d + 1 < used b → is_user b (met b d) ≡ true → MetUser b d
  user-met d l u = by_kind (p.each d l)
    where
      by_kind : MetUser b d ⊎ MetEntry b d → MetUser b d
      by_kind (inl m) = m
      by_kind (inr m) = absurd (not-both b (met b d) u m.entry)

  -- the user that is due once all records from n on are met
  user-due : (n d : ℕ) → n + d ≡ used b → 1 ≤ n → UserBelow b n (due_user b d)
  user-due zero d e lo = let z : ⊥ = omega arith in absurd z
  user-due (suc n) d e lo = by_place (dec_lt 0 n) (user-due n (suc d))
    where
      by-record : MetUser b d ⊎ MetEntry b d → UserBelow b n (due_user b (suc d)) → UserBelow b (suc n) (due_user b d)
      by-record (inl m) rest = inr (rw m.due m.user, rw m.due (omega arith))
      by-record (inr m) rest = user-below-more b n (due_user b d) (subst (UserBelow b n) (entry-keeps-user b d m) rest)

      by_place : Dec (0 < n) → (n + suc d ≡ used b → 1 ≤ n → UserBelow b n (due_user b (suc d))) → UserBelow b (suc n) (due_user b d)
      by_place (yes h) rest = by-record (p.each d (omega arith)) (rest (omega arith) h)
      by_place (no h) rest = let last : used b - 1 ≡ d = omega (arith, h) in inl (rw last at p.end)

  -- "its first user is neither 0 nor a user below u"
  pub first-user-fits : 1 ≤ used b → (eqb (first_user b) 0 || is_user b (first_user b)) ≡ true
  unfolding due_user
  first-user-fits lo = by_way (user-due (used b) 0 (omega arith) lo)
    where
      by_way : UserBelow b (used b) (first_user b) → (eqb (first_user b) 0 || is_user b (first_user b)) ≡ true
      by_way (inl e) = rw (eq-eqb (first_user b) 0 e)
      by_way (inr u) = rw (u.0, or-true (eqb (first_user b) 0))

  -- "A user's next is 0 or a user with a smaller index"
  pub user-next-fits : (i d : ℕ) → i + suc d ≡ used b → 1 ≤ i → MetUser b d → user_next_fits b i ≡ true
  unfolding user_next_fits
  user-next-fits i d e lo m = by_way (subst (UserBelow b i) (user-moves b d m ∙ ap (next_of b) (met_at b i d e)) (user-due i (suc d) e lo))
    where
      by_way : UserBelow b i (next_of b i) → (eqb (next_of b i) 0 || (is_user b (next_of b i) && ltb (next_of b i) i)) ≡ true
      by_way (inl z) = rw (eq-eqb (next_of b i) 0 z)
      by_way (inr u) = rw (u.0, lt-ltb (next_of b i) i u.1, or-true (eqb (next_of b i) 0))

  -- the user j is met later, and is unlike the user i
  number-differs : (i d j : ℕ) → i + suc d ≡ used b → MetUser b d → j < i → is_user b j ≡ true → number_of b j ≡ number_of b i → ⊥
  number-differs i d j e m l u same =
      let lo = kind-from-one b user_kind j u in
      let later : ℕ = used b - suc j in
      let here : met b d ≡ i = met_at b i d e in
      let there : met b later ≡ j = met_at b j later (omega arith) in
      (user-met later (omega arith) (rw there u)).unlike d (omega arith) m.user (ap (number_of b) here ∙ sym same ∙ ap (number_of b) (sym there))

  -- "no user with a smaller index has its number"
  pub number-new : (i d : ℕ) → i + suc d ≡ used b → MetUser b d → number_is_new b i ≡ true
  unfolding number_is_new
  number-new i d e m =
      let taken : ℕ → Bool = λ j. is_user b j && eqb (number_of b j) (number_of b i) in
      ap not (none_of i taken (λ j l. fails (taken j) (λ t. number-differs i d j e m l (and_left (is_user b j) (eqb (number_of b j) (number_of b i)) t)
      (eqb-true (number_of b j) (number_of b i) (and_right (is_user b j) (eqb (number_of b j) (number_of b i)) t)))))
