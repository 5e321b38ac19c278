-- Every record is judged at its home: a user at its own index, an entry at that of its owner, where that is a user with a
-- smaller index. A record that has neither is faulty by itself. So where every index before `bad` has had its turn, every record
-- before `bad` was judged.
use Prim.Native.Nat.{ℕ, ◌+◌, ◌-◌, ◌≤◌, ◌<◌}
use mathlib.Core.Path.{◌≡◌, refl, sym, ◌∙◌}
use mathlib.Core.Bool.{Bool, true, false, ◌&&◌, true≢false, false≢true}
use mathlib.Core.List.{List}
use Rattle.std.proofs.Common.{Option, Some, None, IfSome}
use Rattle.units.specs.declared.RecordIndex.{RecordIndex}
use Rattle.units.specs.Units.{record_index}
use native.Mathlib.Decide.{dec_lt}
use native.Mathlib.Omega.{arith}
use borrow.Author.Count.{below_more}
use Rattle.units.proofs.Bools.{and_left, and_right}
use Rattle.book_layout.specs.Fields.{user_kind}
use Rattle.book_rules.specs.Book.{used, is_user, is_entry, owner_of, owner_fits, good_record}
use Rattle.book_rules.proofs.Faults.{ownerless-bad}
use Rattle.check_book.specs.Verdicts.{RecordsJudged}
use Rattle.book_rules.proofs.Faultless.{owner-before, good-known}
use Rattle.book_rules.proofs.RecordKinds.{kind-from-one, entry-index, not-both, no-user}
use Rattle.check_pass.specs.InnerSteps.{Broken}
use Rattle.check_owners.specs.InnerOwners.{owns, NextOwned}
use Rattle.check_owners.proofs.Owned.{owns-entry, owns-owner, owns-own}

-- a record that is good, or not before `bad`
abbrev pub Fine : List ℕ → ℕ → ℕ → Type 0
Fine b bad i = i < bad → good_record b i ≡ true

-- what the turn of index j has seen
pub record Home (b : List ℕ) (bad j : ℕ) : Type 0 where
  pub user : is_user b j ≡ true → good_record b j ≡ true
  pub entries : is_user b j ≡ true → (e : ℕ) → j < e → owns b j e ≡ true → Fine b bad e
  pub owned : is_user b j ≡ false → (is_entry b j && owner_fits b j) ≡ true

pub home-user : (b : List ℕ) (bad j : ℕ) → is_user b j ≡ true → good_record b j ≡ true → ((e : ℕ) → j < e → owns b j e ≡ true → Fine b bad e) → Home b bad j
home-user b bad j u g es = record { user = λ _. g; entries = λ _. es; owned = λ n. absurd (true≢false (sym u ∙ n)) }

pub home-other : (b : List ℕ) (bad j : ℕ) → is_user b j ≡ false → (is_entry b j && owner_fits b j) ≡ true → Home b bad j
home-other b bad j n o =
    record { user = λ u. absurd (true≢false (sym u ∙ n)); entries = λ u. absurd (true≢false (sym u ∙ n)); owned = λ _. o }

-- a smaller faulty record asks for less
home-sooner : (b : List ℕ) (bad sooner j : ℕ) → sooner ≤ bad → Home b bad j → Home b sooner j
home-sooner b bad sooner j l h = record { user = h.user; entries = λ u e p q k. h.entries u e p q (omega arith); owned = h.owned }

-- every index before i has had its turn
abbrev pub Homes : List ℕ → (bad i : ℕ) → Type 0
Homes b bad i = (j : ℕ) → 1 ≤ j → j < i → Home b bad j

pub homes-sooner : (b : List ℕ) (bad sooner i : ℕ) → sooner ≤ bad → Homes b bad i → Homes b sooner i
homes-sooner b bad sooner i l homes j p h = home-sooner b bad sooner j l (homes j p h)

-- so that every record before both i and `bad` is good
homes-good : (b : List ℕ) (bad i : ℕ) → i ≤ used b → Homes b bad i → (k : ℕ) → 1 ≤ k → k < i → k < bad → good_record b k ≡ true
homes-good b bad i within homes k p h m = by-user (is_user b k) refl
  where
    at-owner : is_entry b k ≡ true → is_user b (owner_of b k) ≡ true → owner_of b k < k → good_record b k ≡ true
    at-owner e u l =
        (homes (owner_of b k) (kind-from-one b user_kind (owner_of b k) u) (omega arith)).entries u k l (owns-own b (owner_of b k) k e refl) m

    by-user : (t : Bool) → is_user b k ≡ t → good_record b k ≡ true
    by-user true u = (homes k p h).user u
    by-user false n =
        let o = (homes k p h).owned n in
        let f = owner-before b k (and_right (is_entry b k) (owner_fits b k) o) in
        at-owner (and_left (is_entry b k) (owner_fits b k) o) f.0 f.1

-- a record of no known kind, and an entry whose owner does not fit, are not good
module _ (b : List ℕ) (i : ℕ) where
  unknown-bad : 1 ≤ i → i < used b → is_user b i ≡ false → is_entry b i ≡ false → good_record b i ≡ false
  unknown-bad lo hi u e = by-good (good_record b i) refl
    where
      by-good : (t : Bool) → good_record b i ≡ t → good_record b i ≡ false
      by-good true g = absurd (false≢true (rw (u, e) at (good-known b i g lo hi)))
      by-good false g = g

-- a record that is neither a user nor an entry of a user before it is not good
pub stray-bad : (b : List ℕ) (i : ℕ) → 1 ≤ i → i < used b → is_user b i ≡ false → (is_entry b i && owner_fits b i) ≡ false
    → good_record b i ≡ false
stray-bad b i p h n o = by_tests (is_entry b i) (owner_fits b i) refl refl o
  where
    by_tests : (e f : Bool) → is_entry b i ≡ e → owner_fits b i ≡ f → (e && f) ≡ false → good_record b i ≡ false
    by_tests true true q r z = absurd (true≢false z)
    by_tests true false q r z = ownerless-bad b i (no-user b i p h n) r
    by_tests false f q r z = unknown-bad b i p h n q

-- `bad` is past the records, or a faulty one
pub record Bad (b : List ℕ) (bad : ℕ) : Type 0 where
  pub from : 1 ≤ bad
  pub to : bad ≤ used b
  pub is-bad : bad < used b → good_record b bad ≡ false

-- first the smallest record that breaks a rule by itself
pub bad-first : (b : List ℕ) (bad : ℕ) → Broken b bad → Bad b bad
bad-first b bad k = record { from = k.from; to = k.to; is-bad = k.faulty }

pub bad-here : (b : List ℕ) (i : ℕ) → 1 ≤ i → i < used b → good_record b i ≡ false → Bad b i
bad-here b i lo hi g = record { from = lo; to = omega arith; is-bad = λ _. g }

-- The entries of a user are met from the first one up: those before the next one are fine, and so are all after the last.
pub record EntriesMet (b : List ℕ) (bad user : ℕ) (next : Option RecordIndex) : Type 0 where
  pub fine : (k : ℕ) → user < k → owns b user k ≡ true → IfSome next (λ i. k < i.0) → Fine b bad k
  pub here : IfSome next (λ i. owns b user i.0 ≡ true)

module _ (b : List ℕ) (bad user e : ℕ) (met : EntriesMet b bad user (Some (record_index e))) where
  pub entry_here : is_entry b e ≡ true
  entry_here = owns-entry b user e met.here

  pub entry_place : (1 ≤ e) × (e < used b)
  entry_place = entry-index b e entry_here

  -- the entries are left at e: it is the smallest faulty one, or `bad` stands before it
  pub entries-left : (sooner : ℕ) → sooner ≤ bad → sooner ≤ e → (k : ℕ) → user < k → owns b user k ≡ true → Fine b sooner k
  entries-left sooner l m k p q under = met.fine k p q (omega arith) (omega arith)

-- all entries are met
pub entries-all : (b : List ℕ) (bad user : ℕ) → EntriesMet b bad user None → (k : ℕ) → user < k → owns b user k ≡ true → Fine b bad k
entries-all b bad user met k p q = met.fine k p q tt

-- an entry of a user whose turn it is stands behind it: what stands before has had its turn, and its owner is before it
entry-not-user : (b : List ℕ) (e : ℕ) → is_entry b e ≡ true → is_user b e ≡ false
entry-not-user b e entry = by-test (is_user b e) refl
  where
    by-test : (t : Bool) → is_user b e ≡ t → is_user b e ≡ false
    by-test true u = absurd (not-both b e u entry)
    by-test false u = u

pub entry-after : (b : List ℕ) (bad i e : ℕ) → Homes b bad i → is_user b i ≡ true → owns b i e ≡ true → i < e
entry-after b bad i e homes user q = by_place (owns-entry b i e q) (owns-owner b i e q) (dec_lt i e) (dec_lt e i)
  where
    by_place : is_entry b e ≡ true → owner_of b e ≡ i → Dec (i < e) → Dec (e < i) → i < e
    by_place entry owner (yes behind) d = behind
    by_place entry owner (no n) (yes under) =
        let here = homes e (entry-index b e entry).0 under in
        let fits = and_right (is_entry b e) (owner_fits b e) (here.owned (entry-not-user b e entry)) in
        let before = (owner-before b e fits).1 in
        let z : ⊥ = omega (arith, before, owner, under) in absurd z
    by_place entry owner (no n) (no m) =
        let same : e ≡ i = omega (arith, n, m) in
        let here : is_user b e ≡ true = rw same user in
        absurd (not-both b e here entry)

-- how far it is to the end of the records; 0 after the last entry
unfoldable pub ahead : ℕ → Option RecordIndex → ℕ
ahead records None = 0
ahead records (Some i) = records - i.0

pub ahead-less : (b : List ℕ) (user records e : ℕ) (next : Option RecordIndex) → records ≡ used b → e < used b
    → NextOwned b user (e + 1) next → ahead records next < ahead records (Some (record_index e))
unfolding ahead
ahead-less b user records e None all under later = omega arith
ahead-less b user records e (Some i) all under later =
    let inside = (entry-index b i.0 (owns-entry b user i.0 later.here.0)).1 in
    omega (arith, later.here.1)

-- one index more
pub homes-next : (b : List ℕ) (bad i : ℕ) → Homes b bad i → Home b bad i → Homes b bad (i + 1)
homes-next b bad i before here j p h = below_more (λ m. 1 ≤ m → Home b bad m) i (λ m l q. before m q l) (λ _. here) j h p

-- what the loops leave: every index before i has had its turn, and `bad` is not past it
pub judged : (b : List ℕ) (bad i : ℕ) → i ≤ used b → bad ≤ i → Bad b bad → Homes b bad i → RecordsJudged b bad
judged b bad i within l is homes =
    record { from = is.from; to = is.to; is-bad = is.is-bad; before = λ k p h. homes-good b bad i within homes k p (omega arith) h }
