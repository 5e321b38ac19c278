-- One queue for all users. Two books of one length in which a user is held alike, the second with no more records, keep holding it
-- alike, the first through every call, the second through that user's calls alone: whether a call is accepted, room apart, hangs
-- on that user alone, and so does what it makes of it.
use Prim.Native.Nat.{ℕ, ◌+◌, ◌≤◌}
use mathlib.Core.Path.{◌≡◌, refl, ap, sym, ◌∙◌, subst}
use mathlib.Core.Bool.{Bool, true, false, cond, not, ◌&&◌}
use mathlib.Core.List.{List, [], ◌∷◌}
use mathlib.Core.Option.{Option, none, some}
use native.Mathlib.Nat.{le_refl}
use native.Mathlib.Omega.{arith}
use borrow.Author.Tests.{eqb-true, eqb-false, ne_eqb}
use lib.Dec.{eqb}
use lib.ListN.{length}
use Rattle.sheet.specs.YearSheet.{sheet_year, refused11, refused13, refused14, refused19}
use Rattle.account_steps.specs.declared.Account.{Account}
use Rattle.book_layout.specs.Fields.{capacity}
use Rattle.book_rules.specs.Book.{fresh_book, used, details_fit, account_at}
use Rattle.book_rules.specs.Find.{find_user}
use Rattle.call_rules.specs.Rules.{refused_by, test_of}
use Rattle.call_rules.specs.Refusals.{Look, look_at, has_room, day_and_option, election_open, run_open, order_fits, year_open, charge_open}
use Rattle.call_rules.specs.Calls.{Call, enrol, elect, advance, close, statement, charge, named_by, rules_of, refusal_of, book_after, Typed, AllTyped}
use Rattle.call_rules.proofs.Orders.{fact}
use Rattle.call_keeps.proofs.Good.{Good, good-sound, sizes, room}
use Rattle.call_keeps.proofs.CallsFit.{named-user}
use Rattle.ledger_views.specs.Views.{View, view_at, view_of, step_of}
use Rattle.ledger_views.proofs.Kept.{view-is}
use Rattle.ledger_views.proofs.Steps.{added_by, accepted-step}
use Rattle.ledger_agrees.specs.Lists.{book_after_all}
use Rattle.ledger_agrees.specs.Queue.{calls_for, not_full, SameStatement, OneQueue}
use Rattle.ledger_agrees.proofs.Statements.{stated, statement-stated}
use Rattle.ledger_agrees.proofs.Theorem.{fresh-good}

-- no call meets a refusal 3
unfoldable NeverFull : List ℕ → List Call → Type 0
NeverFull b [] = Unit {0}
NeverFull b (c ∷ cs) = (refusal_of b c ≡ 3 → ⊥) × NeverFull (book_after b c) cs

-- two books that a call cannot tell apart but by their room
record Alike (v w : Look) : Type 0 where
  there : eqb v.user 0 ≡ eqb w.user 0
  account : eqb v.user 0 ≡ false → v.account ≡ w.account
  room : v.room ≡ true → w.room ≡ true

-- one rule more in front
through : (t : Bool) (n x y : ℕ) → ((x ≡ 3 → ⊥) → y ≡ x) → (cond t x n ≡ 3 → ⊥) → cond t y n ≡ cond t x n
through true n x y rest h = rest h
through false n x y rest h = refl

last-room : (r r' : Bool) → (r ≡ true → r' ≡ true) → (◌≡◌ {A = ℕ} (cond r 0 3) 3 → ⊥) → ◌≡◌ {A = ℕ} (cond r' 0 3) (cond r 0 3)
last-room true r' p h = rw (p refl)
last-room false r' p h = absurd (h refl)

module _ (v w : Look) (a : Alike v w) where
  -- a user that is there, or 6 on both sides
  with-user : (x y : Account → ℕ) → ((acc : Account) → (x acc ≡ 3 → ⊥) → y acc ≡ x acc) → (cond (not (eqb v.user 0)) (x v.account) 6 ≡ 3 → ⊥)
      → cond (not (eqb w.user 0)) (y w.account) 6 ≡ cond (not (eqb v.user 0)) (x v.account) 6
  with-user x y rest h = rw (sym a.there) (by_value (eqb v.user 0) refl)
    where
      by_value : (t : Bool) → eqb v.user 0 ≡ t → cond (not t) (y w.account) 6 ≡ cond (not t) (x v.account) 6
      by_value true e = refl
      by_value false e = rw (sym (a.account e)) (rest v.account (λ three. h (rw e three)))

  same_answer : (c : Call) → (refused_by (rules_of v c) ≡ 3 → ⊥) → refused_by (rules_of w c) ≡ refused_by (rules_of v c)
  unfolding rules_of refused_by
  same_answer (enrol n d o) h =
      rw (sym a.there)
      (through (not (eqb n 0) && eqb v.user 0) 4 _ _ (through (details_fit d o) 5 _ _ (last-room v.room w.room a.room)) h)
  same_answer (elect n o y m d) h =
      with-user (λ acc. cond (day_and_option o y m d) (cond (election_open acc y m d) 0 8) 7) (λ acc. cond (day_and_option o y m d) (cond (election_open acc y m d) 0 8) 7) (λ acc q. refl) h
  same_answer (advance n y r p e₁ e₂) h =
      with-user (λ acc. cond (run_open acc y r) (cond (order_fits p e₁ e₂) (cond v.room 0 3) 10) 9) (λ acc. cond (run_open acc y r) (cond (order_fits p e₁ e₂) (cond w.room 0 3) 10) 9)
      (λ acc. through (run_open acc y r) 9 _ _ (through (order_fits p e₁ e₂) 10 _ _ (last-room v.room w.room a.room))) h
  same_answer (close s) h =
      through (not (refused11 s)) 11 _ _
      (with-user (λ acc. cond (year_open acc (sheet_year s)) (cond (not (refused13 s)) (cond (not (refused19 s)) (cond (not (refused14 acc.details.class s)) (cond v.room 0 3) 14) 19) 13) 12)
      (λ acc. cond (year_open acc (sheet_year s)) (cond (not (refused13 s)) (cond (not (refused19 s)) (cond (not (refused14 acc.details.class s)) (cond w.room 0 3) 14) 19) 13) 12)
      (λ acc. through (year_open acc (sheet_year s)) 12 _ _ (through (not (refused13 s)) 13 _ _
      (through (not (refused19 s)) 19 _ _ (through (not (refused14 acc.details.class s)) 14 _ _ (last-room v.room w.room a.room))))))
      h
  same_answer (statement n) h = with-user (λ acc. 0) (λ acc. 0) (λ acc q. refl) h
  same_answer (charge n) h = with-user (λ acc. cond (charge_open acc) 0 16) (λ acc. cond (charge_open acc) 0 16) (λ acc q. refl) h

-- a number is there if the book holds a user of it, with that account
there_in : Option View → Bool
there_in none = true
there_in (some v) = false

account_in : Account → Option View → Account
account_in x none = x
account_in x (some v) = v.account

module _ (b : List ℕ) (n : ℕ) where
  there-in : there_in (view_of b n) ≡ eqb (find_user b n) 0
  unfolding view_of there_in
  there-in = by_value (eqb (find_user b n) 0)
    where
      by_value : (t : Bool) → there_in (cond t none (some (view_at b (find_user b n)))) ≡ t
      by_value true = refl
      by_value false = refl

  account-in : (x : Account) → eqb (find_user b n) 0 ≡ false → account_in x (view_of b n) ≡ account_at b (find_user b n)
  unfolding view_of account_in
  account-in x e = rw e

module _ (n : ℕ) (b b₀ : List ℕ) (g : Good b) (g₀ : Good b₀) (size : length b₀ ≡ length b) (fewer : used b₀ ≤ used b) (same : view_of b₀ n ≡ view_of b n) where
  alike : Alike (look_at b n) (look_at b₀ n)
  unfolding look_at has_room
  alike =
      let there : eqb (find_user b n) 0 ≡ eqb (find_user b₀ n) 0 = sym (there-in b n) ∙ ap there_in (sym same) ∙ there-in b₀ n in
      record {
        there = there;
        account = λ e. sym (account-in b n (account_at b 0) e) ∙ ap (account_in (account_at b 0)) (sym same) ∙ account-in b₀ n (account_at b 0) (sym there ∙ e);
        room = λ r. let free = room b g r in let s = sizes b g in rw (ne_eqb (used b₀) (capacity b₀) (λ q. omega (arith, free, size, q)));
      }

  same-refusal : (c : Call) → named_by c ≡ n → (refusal_of b c ≡ 3 → ⊥) → refusal_of b₀ c ≡ refusal_of b c
  unfolding refusal_of refused_by
  same-refusal c names h =
      let in_b : refusal_of b c ≡ refused_by (rules_of (look_at b n) c) = rw (g.length, good-sound b g, names) in
      let in-b₀ : refusal_of b₀ c ≡ refused_by (rules_of (look_at b₀ n) c) = rw (g₀.length, good-sound b₀ g₀, names) in
      in-b₀ ∙ same_answer (look_at b n) (look_at b₀ n) alike c (λ three. h (in_b ∙ three)) ∙ sym in_b

-- a call, accepted or refused_by
after-step : (b : List ℕ) → Good b → (n : ℕ) (c : Call) → Typed c → (t : Bool) → eqb (refusal_of b c) 0 ≡ t
    → (Good (book_after b c)) × (length (book_after b c) ≡ length b) × (used (book_after b c) ≡ used b + cond t (added_by c) 0)
    × (view_of (book_after b c) n ≡ cond t (cond (eqb (named_by c) n) (step_of c (view_of b n)) (view_of b n)) (view_of b n))
unfolding book_after
after-step b g n c typed true e =
    let s = accepted-step b g n c typed (eqb-true (refusal_of b c) 0 e) in
    rw e (s.good, s.length-same, s.counted, s.view)
after-step b g n c typed false e = rw e (g, refl, omega arith, refl)

-- what is left to show once a call is made in both books
abbrev Rest : ℕ → List Call → List ℕ → Type 0
Rest n cs b =
    (b₁ : List ℕ) → Good b₁ → length b₁ ≡ length b → used b₁ ≤ used b → view_of b₁ n ≡ view_of b n → view_of (book_after_all b₁ (calls_for n cs)) n ≡ view_of (book_after_all b cs) n

either_way : {A : Type 0} (t : Bool) (x : A) → cond t x x ≡ x
either_way true x = refl
either_way false x = refl

module _ (n : ℕ) (c : Call) (cs : List Call) (b b₀ : List ℕ) (g : Good b) (g₀ : Good b₀) (size : length b₀ ≡ length b) (fewer : used b₀ ≤ used b) (same : view_of b₀ n ≡ view_of b n)
    (typed : Typed c) (full : refusal_of b c ≡ 3 → ⊥) where
  -- a call of the number, made in both books
  made-in-both : eqb (named_by c) n ≡ true → Rest n cs (book_after b c) → view_of (book_after_all (book_after b₀ c) (calls_for n cs)) n ≡ view_of (book_after_all (book_after b c) cs) n
  made-in-both e rest =
      let r = same-refusal n b b₀ g g₀ size fewer same c (eqb-true (named_by c) n e) full in
      let t = eqb (refusal_of b c) 0 in
      let s = after-step b g n c typed t refl in
      let s₀ = after-step b₀ g₀ n c typed t (ap (λ (k : ℕ). eqb k 0) r) in
      rest (book_after b₀ c) s₀.0 (s₀.1 ∙ size ∙ sym s.1) (omega (arith, s₀.2, s.2))
      (s₀.3 ∙ ap (λ (v : Option View). cond t (cond (eqb (named_by c) n) (step_of c v) v) v) same ∙ sym s.3)

  -- a call of another number, made in one
  made-in-one : eqb (named_by c) n ≡ false → Rest n cs (book_after b c) → view_of (book_after_all b₀ (calls_for n cs)) n ≡ view_of (book_after_all (book_after b c) cs) n
  made-in-one e rest =
      let t = eqb (refusal_of b c) 0 in
      let s = after-step b g n c typed t refl in
      let still : view_of (book_after b c) n ≡ view_of b n = s.3 ∙ (rw e (either_way t (view_of b n))) in
      rest b₀ g₀ (size ∙ sym s.1) (omega (arith, s.2)) (same ∙ sym still)

  one_more : (x : Bool) → eqb (named_by c) n ≡ x → Rest n cs (book_after b c)
      → view_of (book_after_all b₀ (cond x (c ∷ calls_for n cs) (calls_for n cs))) n ≡ view_of (book_after_all (book_after b c) cs) n
  unfolding book_after_all
  one_more true e rest = made-in-both e rest
  one_more false e rest = made-in-one e rest

module _ (n : ℕ) where
  queue : (cs : List Call) (b b₀ : List ℕ) → Good b → Good b₀ → length b₀ ≡ length b → used b₀ ≤ used b → view_of b₀ n ≡ view_of b n → AllTyped cs → NeverFull b cs
      → view_of (book_after_all b₀ (calls_for n cs)) n ≡ view_of (book_after_all b cs) n
  unfolding book_after_all calls_for AllTyped NeverFull
  queue [] b b₀ g g₀ size fewer same t full = same
  queue (c ∷ cs) b b₀ g g₀ size fewer same t full =
      one_more n c cs b b₀ g g₀ size fewer same t.0 full.0 (eqb (named_by c) n) refl
      (λ b₁ g₁ l u v. queue cs (book_after b c) b₁ (after-step b g n c t.0 (eqb (refusal_of b c) 0) refl).0 g₁ l u v t.1 full.1)

  -- the same answer of a statement, where the user is held alike
  same-statement : (b b₀ : List ℕ) → Good b → Good b₀ → length b₀ ≡ length b → view_of b₀ n ≡ view_of b n → SameStatement b b₀ n
  unfolding test_of rules_of look_at named_by refusal_of refused_by
  same-statement b b₀ g g₀ size same =
      let there : eqb (find_user b n) 0 ≡ eqb (find_user b₀ n) 0 = sym (there-in b n) ∙ ap there_in (sym same) ∙ there-in b₀ n in
      let refusal : refusal_of b (statement n) ≡ refusal_of b₀ (statement n) = rw (g.length, good-sound b g, g₀.length, good-sound b₀ g₀, there) in
      record {
        refusal = refusal;
        sums = λ h.
            let u = named-user b n (fact b (statement n) h 6) in
            let u₀ = named-user b₀ n (fact b₀ (statement n) (sym refusal ∙ h) 6) in
            let held : some (view_at b (find_user b n)) ≡ some (view_at b₀ (find_user b₀ n)) =
            sym (view-is b g.faultless n (find_user b n) u.user u.number_is) ∙ sym same ∙ view-is b₀ g₀.faultless n (find_user b₀ n) u₀.user u₀.number_is in
            let view : view_at b (find_user b n) ≡ view_at b₀ (find_user b₀ n) = cc in
            statement-stated b g.faultless (find_user b n) u.user ∙ ap stated view ∙ sym (statement-stated b₀ g₀.faultless (find_user b₀ n) u₀.user);
      }

-- a call that is refused with 3 leaves the book, so that without it the list leaves the same one, and meets no 3
left_out : (b : List ℕ) (c : Call) → eqb (refusal_of b c) 3 ≡ true → book_after b c ≡ b
unfolding book_after
left_out b c q = rw (ne_eqb (refusal_of b c) 0 (λ z. omega (arith, eqb-true (refusal_of b c) 3 q, z)))

record Left (b : List ℕ) (cs : List Call) : Type 0 where
  same-book : book_after_all b (not_full b cs) ≡ book_after_all b cs
  never-full : NeverFull b (not_full b cs)
  typed : AllTyped (not_full b cs)

left : (cs : List Call) (b : List ℕ) → AllTyped cs → Left b cs
unfolding book_after_all not_full NeverFull AllTyped
left [] b t = record { same-book = refl; never-full = tt; typed = tt }
left (c ∷ cs) b t = by_value (eqb (refusal_of b c) 3) refl (left cs (book_after b c) t.1)
  where
    by_value : (f : Bool) → eqb (refusal_of b c) 3 ≡ f → Left (book_after b c) cs → Left b (c ∷ cs)
    by_value true e rest =
        let moved : Left b cs = subst (λ (x : List ℕ). Left x cs) (left_out b c e) rest in
        record {
          same-book = rw e (ap (λ (x : List ℕ). book_after_all b (not_full x cs)) (left_out b c e) ∙ moved.same-book ∙ ap (λ (x : List ℕ). book_after_all x cs) (sym (left_out b c e)));
          never-full = rw e (subst (λ (x : List ℕ). NeverFull b (not_full x cs)) (sym (left_out b c e)) moved.never-full);
          typed = rw e rest.typed;
        }
    by_value false e rest = record { same-book = rw e rest.same-book; never-full = rw e (eqb-false (refusal_of b c) 3 e, rest.never-full); typed = rw e (t.0, rest.typed) }

all-good : (cs : List Call) (b : List ℕ) → Good b → AllTyped cs → Good (book_after_all b cs) × (length (book_after_all b cs) ≡ length b)
unfolding book_after_all AllTyped
all-good [] b g t = (g, refl)
all-good (c ∷ cs) b g t =
    let one = after-step b g 0 c t.0 (eqb (refusal_of b c) 0) refl in
    let rest = all-good cs (book_after b c) one.0 t.1 in
    (rest.0, rest.1 ∙ one.1)

own-typed : (n : ℕ) (cs : List Call) → AllTyped cs → AllTyped (calls_for n cs)
unfolding calls_for AllTyped
own-typed n [] t = tt
own-typed n (c ∷ cs) t = by_value (eqb (named_by c) n) (own-typed n cs t.1)
  where
    by_value : (f : Bool) → AllTyped (calls_for n cs) → AllTyped (cond f (c ∷ calls_for n cs) (calls_for n cs))
    by_value true rest = (t.0, rest)
    by_value false rest = rest

pub one-queue : OneQueue
one-queue b fits cs t n =
    let fresh = fresh_book (length b) in
    let g = fresh-good b fits in
    let l = left cs fresh t in
    let kept = not_full fresh cs in
    let alike = queue n kept fresh fresh g g refl (le_refl (used fresh)) refl l.typed l.never-full in
    let all = all-good cs fresh g t in
    let alone = all-good (calls_for n kept) fresh g (own-typed n kept l.typed) in
    same-statement n (book_after_all fresh cs) (book_after_all fresh (calls_for n kept)) all.0 alone.0 (alone.1 ∙ sym all.1)
    (alike ∙ ap (λ (x : List ℕ). view_of x n) l.same-book)
