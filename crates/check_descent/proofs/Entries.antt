-- The chain of a user leads to entries of that user that are still to be met, each in its year, and so by falling index to its
-- end, in the activation year; once the user is met it leads nowhere.
use Prim.Native.Nat.{ℕ, zero, suc, ◌+◌, ◌≤◌, ◌<◌}
use mathlib.Core.Path.{◌≡◌, sym, ap, ◌∙◌, subst}
use mathlib.Core.Bool.{true, ◌&&◌, ◌||◌, or-true}
use mathlib.Core.Logic.{◌⊎◌, inl, inr}
use mathlib.Core.List.{List}
use native.Mathlib.Decide.{dec_lt, ℕ_discrete}
use native.Mathlib.Omega.{arith}
use borrow.Author.Tests.{eq-eqb, lt-ltb}
use lib.Dec.{eqb, ltb}
use Rattle.book_layout.specs.Fields.{user_kind}
use Rattle.book_rules.specs.Book.{used, kind_at, is_user, is_entry, owner_of, next_of, first_entry_of, level_of, years_ended, in_order, activation_of, open_year_of, first_entry_fits, first_in_order}
use Rattle.book_rules.specs.Book.{owner_fits}
use Rattle.book_rules.specs.Book.{entry_next_fits, next_in_order}
use Rattle.book_rules.proofs.RecordKinds.{kind-from-one, kind-below, not-both}
use Rattle.book_rules.proofs.Levels.{entry-in-order}
use Rattle.check_descent.specs.InnerDescent.{met, due_entry, due_year, MetUser, MetEntry, AllMet}
use Rattle.check_descent.proofs.Steps.{met_at, user-keeps-entry, user-keeps-year, entry-moves, entry-moves-year, entry-keeps-other, entry-keeps-year}
use Rattle.check_descent.proofs.Users.{user-met}

-- what the chain of the user o may lead to from the year y: its end, or an entry of o below n
data Leads (b : List ℕ) (o n y e : ℕ) : Type 0 where
  ended : e ≡ 0 → y ≡ activation_of b o → Leads b o n y e
  owned : is_entry b e ≡ true → owner_of b e ≡ o → e < n → level_of b e + years_ended (kind_at b e) ≡ y → Leads b o n y e

leads-more : (b : List ℕ) (o n y e : ℕ) → Leads b o n y e → Leads b o (suc n) y e
leads-more b o n y e (ended z a) = ended z a
leads-more b o n y e (owned h k l due) = owned h k (omega arith) due

leads-in-order : (b : List ℕ) (o n y e : ℕ) → Leads b o n y e → in_order b (activation_of b o) y e ≡ true
unfolding in_order
leads-in-order b o n y e (ended z a) = rw (eq-eqb e 0 z, eq-eqb y (activation_of b o) a)
leads-in-order b o n y e (owned h k l due) = entry-in-order b e (activation_of b o) y h due

leads-owned : (b : List ℕ) (o n y e : ℕ) → Leads b o n y e → (eqb e 0 || ((is_entry b e && eqb (owner_of b e) o) && ltb e n)) ≡ true
leads-owned b o n y e (ended z a) = rw (eq-eqb e 0 z)
leads-owned b o n y e (owned h k l due) = rw (h, eq-eqb (owner_of b e) o k, lt-ltb e n l, or-true (eqb e 0))

leads-first : (b : List ℕ) (o n y e : ℕ) → Leads b o n y e → (eqb e 0 || (is_entry b e && eqb (owner_of b e) o)) ≡ true
leads-first b o n y e (ended z a) = rw (eq-eqb e 0 z)
leads-first b o n y e (owned h k l due) = rw (h, eq-eqb (owner_of b e) o k, or-true (eqb e 0))

-- what is due of the user o where d records are met and those below n are not
abbrev Due : List ℕ → ℕ → ℕ → ℕ → Type 0
Due b o n d = Leads b o n (due_year b o d) (due_entry b o d)

-- the chain of the user o
module _ (b : List ℕ) (p : AllMet b) (o : ℕ) (user : is_user b o ≡ true) where
  not-met-as-entry : (d : ℕ) → MetEntry b d → met b d ≡ o → ⊥
  not-met-as-entry d m e = not-both b (met b d) (rw e user) m.entry

  entry-due : (n d : ℕ) → n + d ≡ used b → o < n → Due b o n d
  entry-due zero d e l = let z : ⊥ = omega arith in absurd z
  entry-due (suc n) d e l =
      let lo = kind-from-one b user_kind o user in
      by-record (p.each d (omega arith)) (entry-due n (suc d) (omega arith))
    where
      here : met b d ≡ n
      here = met_at b n d (omega arith)

      kept : due_year b o (suc d) ≡ due_year b o d → due_entry b o (suc d) ≡ due_entry b o d → Due b o n (suc d) → Due b o (suc n) d
      kept y f rest = leads-more b o n (due_year b o d) (due_entry b o d) (rw (y, f) at rest)

      by-user : MetUser b d → (o < n → Due b o n (suc d)) → Dec (o < n) → Due b o (suc n) d
      by-user m rest (yes h) = kept (user-keeps-year b d m o) (user-keeps-entry b d m o) (rest h)
      by-user m rest (no h) =
          let self : met b d ≡ o = omega (arith, h) in
          ended (subst (λ i. due_entry b i d ≡ 0) self m.ended) (subst (λ i. due_year b i d ≡ activation_of b i) self m.opened)

      by-owner : MetEntry b d → (o < n → Due b o n (suc d)) → Dec (owner_of b (met b d) ≡ o) → Due b o (suc n) d
      by-owner m rest (no other) =
          let apart = not-met-as-entry d m in
          let h : o < n = omega (arith, apart) in
          kept (entry-keeps-year b d m o other) (entry-keeps-other b d m o other) (rest h)
      by-owner m rest (yes own) =
          let due : due_entry b o d ≡ met b d = subst (λ k. due_entry b k d ≡ met b d) own m.due in
          let year : due_year b (owner_of b (met b d)) d ≡ due_year b o d = ap (λ k. due_year b k d) own in
          rw due (owned m.entry own (omega arith) (m.year ∙ year))

      by-record : MetUser b d ⊎ MetEntry b d → (o < n → Due b o n (suc d)) → Due b o (suc n) d
      by-record (inl m) rest = by-user m rest (dec_lt o n)
      by-record (inr m) rest = by-owner m rest (ℕ_discrete (owner_of b (met b d)) o)

  -- once the user itself is met, nothing is: an entry of it that were met would be due
  pub entry-ended : (d n : ℕ) → n + d ≡ used b → 1 ≤ n → n ≤ o → due_entry b o d ≡ 0
  entry-ended zero n e lo l = let hi = kind-below b user_kind o user in let z : ⊥ = omega arith in absurd z
  entry-ended (suc d) n e lo l = by_place (dec_lt n o) (entry-ended d (suc n) (omega arith) (omega arith))
    where
      here : met b d ≡ n
      here = met_at b n d (omega arith)

      by-owner : (m : MetEntry b d) → due_entry b o d ≡ 0 → Dec (owner_of b (met b d) ≡ o) → due_entry b o (suc d) ≡ 0
      by-owner m before (no other) = entry-keeps-other b d m o other ∙ before
      by-owner m before (yes own) =
          let due : due_entry b o d ≡ met b d = subst (λ k. due_entry b k d ≡ met b d) own m.due in
          let z : ⊥ = omega arith in absurd z

      by-record : MetUser b d ⊎ MetEntry b d → due_entry b o d ≡ 0 → due_entry b o (suc d) ≡ 0
      by-record (inl m) before = user-keeps-entry b d m o ∙ before
      by-record (inr m) before = by-owner m before (ℕ_discrete (owner_of b (met b d)) o)

      by_place : Dec (n < o) → (n < o → due_entry b o d ≡ 0) → due_entry b o (suc d) ≡ 0
      by_place (yes h) before = by-record (p.each d (omega arith)) (before h)
      by_place (no h) before =
          let self : met b d ≡ o = omega (arith, h) in
          let m : MetUser b d = user-met b p d (omega arith) (rw self user) in
          user-keeps-entry b d m o ∙ subst (λ i. due_entry b i d ≡ 0) self m.ended

  leads-from-first : Leads b o (used b) (open_year_of b o) (first_entry_of b o)
  unfolding due_entry due_year
  leads-from-first = entry-due (used b) 0 (omega arith) (kind-below b user_kind o user)

  -- "its first entry is 0 or an entry it owns"
  pub first-entry-fits : first_entry_fits b o ≡ true
  unfolding first_entry_fits
  first-entry-fits = leads-first b o (used b) (open_year_of b o) (first_entry_of b o) leads-from-first

  -- "A user's first entry is an advance of the open year or the closing of the year before, or 0 if no year is closed."
  pub first-in-order : first_in_order b o ≡ true
  unfolding first_in_order
  first-in-order = leads-in-order b o (used b) (open_year_of b o) (first_entry_of b o) leads-from-first

-- the entry i
module _ (b : List ℕ) (p : AllMet b) (i d : ℕ) (e : i + suc d ≡ used b) (lo : 1 ≤ i) (m : MetEntry b d) where
  here : met b d ≡ i
  here = met_at b i d e

  owner-user : is_user b (owner_of b i) ≡ true
  owner-user = subst (λ k. is_user b (owner_of b k) ≡ true) here m.owner

  due-here : due_entry b (owner_of b i) d ≡ i
  due-here = subst (λ k. due_entry b (owner_of b k) d ≡ k) here m.due

  -- a user that is met before has no entry due
  owner-below : owner_of b i < i
  owner-below = by_order (dec_lt (owner_of b i) i)
    where
      by_order : Dec (owner_of b i < i) → owner_of b i < i
      by_order (yes h) = h
      by_order (no h) =
          let apart : owner_of b i ≡ i → ⊥ = λ q. not-met-as-entry b p (owner_of b i) owner-user d m (here ∙ sym q) in
          let none = entry-ended b p (owner_of b i) owner-user d (suc i) (omega arith) (omega arith) (omega (arith, h, apart)) in
          let z : ⊥ = omega (arith, due-here) in absurd z

  -- "its owner is a user with a smaller index"
  pub owner-fits : owner_fits b i ≡ true
  unfolding owner_fits
  owner-fits = rw (owner-user, lt-ltb (owner_of b i) i owner-below)

  leads-on : Leads b (owner_of b i) i (level_of b i) (next_of b i)
  leads-on =
      let year : due_year b (owner_of b i) (suc d) ≡ level_of b i = subst (λ k. due_year b (owner_of b k) (suc d) ≡ level_of b k) here (entry-moves-year b d m) in
      let next : due_entry b (owner_of b i) (suc d) ≡ next_of b i = subst (λ k. due_entry b (owner_of b k) (suc d) ≡ next_of b k) here (entry-moves b d m) in
      rw (year, next) at (entry-due b p (owner_of b i) owner-user i (suc d) e owner-below)

  -- "An entry's next is 0 or an entry of the same owner with a smaller index"
  pub entry-next-fits : entry_next_fits b i ≡ true
  unfolding entry_next_fits
  entry-next-fits = leads-owned b (owner_of b i) i (level_of b i) (next_of b i) leads-on

  -- "After an entry of year y stands an advance of y, or the closing of y − 1, or 0 if y is the activation year."
  pub next-in-order : next_in_order b i ≡ true
  unfolding next_in_order
  next-in-order = leads-in-order b (owner_of b i) i (level_of b i) (next_of b i) leads-on
