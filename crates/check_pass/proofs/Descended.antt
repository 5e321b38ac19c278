-- What is known between two records of the pass, and that a record that fits keeps it.
use Prim.Native.Nat.{ℕ, suc, ◌+◌, ◌-◌, ◌≤◌, ◌<◌}
use mathlib.Core.Path.{◌≡◌, refl, sym, ap, ◌∙◌, subst}
use mathlib.Core.Logic.{◌⊎◌, inl, inr}
use mathlib.Core.Bool.{Bool, true, false, cond, ◌&&◌}
use mathlib.Core.List.{List}
use native.Mathlib.Decide.{ℕ_discrete}
use native.Mathlib.Numerals.{add-one}
use native.Mathlib.Omega.{arith}
use borrow.Author.Tests.{ne_eqb, eqb-true}
use Rattle.std.proofs.Common.{Option, Some, None, IfSome}
use Rattle.units.specs.declared.RecordIndex.{RecordIndex}
use Rattle.units.specs.Units.{record_index}
use lib.Dec.{eqb}
use lib.ListN.{length, get_or, set}
use lib.Seq.{get_or-set_same, get_or-set_other}
use Rattle.units.proofs.Bools.{and_left, and_right}
use Rattle.units.proofs.Folds.{below_suc}
use Rattle.book_layout.specs.Fields.{get, all_zero, unnamed_of_head, record_at, kind_field, number_field, next_field, owner_field, activation_year_field, user_kind}
use Rattle.book_rules.specs.Book.{used, used_fits, first_user, kind_at, is_user, is_entry, account_at, owner_of, next_of, first_entry_of, open_year_of, activation_of, number_of, level_in, level_of}
use Rattle.book_rules.specs.Book.{years_ended}
use Rattle.book_rules.specs.Book.{entry_ranges, ranges_fit, zero_bytes_fit, own_rules_fit, sound}
use Rattle.book_rules.proofs.RecordKinds.{has-kind, entry-of-kind, not-both}
use Rattle.book_rules.proofs.Faultless.{ranges-entry}
use Rattle.check_descent.specs.InnerDescent.{met, due_user, due_entry, due_year, MetUser, MetEntry}
use Rattle.check_descent.proofs.Steps.{met_at, user-moves, user-keeps-entry, user-keeps-year, entry-keeps-user, entry-moves, entry-moves-year, entry-keeps-other, entry-keeps-year}
use Rattle.check_descent.proofs.Sound.{passed-sound}
use Rattle.book_rules.specs.Find.{find_below, find_user}
use Rattle.book_rules.proofs.Find.{found_none}
use Rattle.check_numbers.specs.InnerHeld.{Held, Inserted}
use Rattle.check_lookup.specs.Found.{found_user}
use Rattle.check_pass.specs.declared.Due.{Due}
use Rattle.check_pass.specs.InnerSteps.{due_of, due_behind, UserLeads, EntryLeads, KeptUser, KeptEntry, last_met, index_or}

-- the user with a number is found among the records from `left` on, so that the number is held, or is still to be looked for below
pub record Sought (b : List ℕ) (n left : ℕ) (found : Option RecordIndex) (seen : List ℕ) : Type 0 where
  pub same : index_or (find_below b n left) found ≡ find_user b n
  pub held : IfSome found (λ i. (1 ≤ i.0) × Held seen n)

sought-first : (b : List ℕ) (n : ℕ) {left : ℕ} {seen : List ℕ} → left ≡ used b → Sought b n left None seen
unfolding find_user
sought-first b n l = record { same = ap (find_below b n) l; held = tt }

-- the record at `index` is passed
module _ (b : List ℕ) (n left index : ℕ) (l : left ≡ index + 1) where
  below : find_below b n left ≡ cond (is_user b index && eqb (number_of b index) n) index (find_below b n index)
  unfolding find_below
  below = ap (find_below b n) (l ∙ add-one index)

  sought-past : {seen : List ℕ} (found : Option RecordIndex) → is_user b index ≡ false → Sought b n left found seen → Sought b n index found seen
  sought-past None other s = record { same = sym (below ∙ rw other) ∙ s.same; held = tt }
  sought-past (Some i) other s = record { same = s.same; held = s.held }

  module _ (user : is_user b index ≡ true) (some : 1 ≤ index) {number : ℕ} (is : number ≡ number_of b index) {seen seen' : List ℕ} (ins : Inserted seen number seen') where
    by_number : {t : Bool} → eqb number n ≡ t → find_below b n left ≡ cond t index (find_below b n index)
    by_number e = below ∙ rw (user, ← is, e)

    -- no other user that was met has the number
    met-with : (t : Bool) (found : Option RecordIndex) → eqb number n ≡ t → Sought b n left found seen
        → Sought b n index (cond t (Some (record_index index)) found) seen'
    met-with true None e s =
        record { same = sym (by_number e) ∙ s.same; held = (some, subst (Held seen') (eqb-true number n e) ins.held) }
    met-with true (Some i) e s = absurd (ins.fresh (subst (Held seen) (sym (eqb-true number n e)) s.held.1))
    met-with false None e s = record { same = sym (by_number e) ∙ s.same; held = tt }
    met-with false (Some i) e s = record { same = s.same; held = (s.held.0, ins.kept n s.held.1) }

    sought-at : (found : Option RecordIndex) → Sought b n left found seen → Sought b n index (last_met found (record_index index) number n) seen'
    unfolding last_met
    sought-at found s = met-with (eqb number n) found refl s

-- the records from `left` on are met
pub record Descended (b : List ℕ) (n left expected : ℕ) (found : Option RecordIndex) (dues : List (Option Due)) (seen : List ℕ) : Type 0 where
  pub gone : ℕ
  pub place : left + gone ≡ used b
  pub some : 1 ≤ left
  pub user : expected ≡ due_user b gone
  pub entry : (o : ℕ) → (due_of (record_at b o) (get_or dues o None)).entry.0 ≡ due_entry b o gone
  pub year : (o : ℕ) → (due_of (record_at b o) (get_or dues o None)).year ≡ due_year b o gone
  pub each : (d : ℕ) → d < gone → MetUser b d ⊎ MetEntry b d
  pub held : (d : ℕ) → d < gone → is_user b (met b d) ≡ true → Held seen (number_of b (met b d))
  pub sought : Sought b n left found seen

-- no entry is met at first
pub started : (b : List ℕ) (wanted : ℕ) (dues : List (Option Due)) (seen : List ℕ) → ((o : ℕ) → get_or dues o None ≡ None) → {left expected : ℕ} → left ≡ used b → 1 ≤ used b → expected ≡ first_user b
    → Descended b wanted left expected None dues seen
unfolding due_user due_entry due_year first_entry_of open_year_of
started b wanted dues seen unmet l lo e =
    record {
      gone = 0;
      place = omega arith;
      some = omega arith;
      user = e;
      entry = λ o. rw (unmet o);
      year = λ o. rw (unmet o);
      each = λ d h. let z : ⊥ = omega arith in absurd z;
      held = λ d h. let z : ⊥ = omega arith in absurd z;
      sought = sought-first b wanted l;
    }

-- the record at `index` is met
module _ (b : List ℕ) {wanted left expected : ℕ} {found : Option RecordIndex} {dues : List (Option Due)} {seen : List ℕ}
    (s : Descended b wanted left expected found dues seen) (index : ℕ) (l : left ≡ index + 1) (lo : 1 ≤ index) (own : own_rules_fit b index ≡ true) where
  after : index + suc s.gone ≡ used b
  after = let p = s.place in omega arith

  here : met b s.gone ≡ index
  here = met_at b index s.gone after

  inside : index < used b
  inside = let p = after in omega arith

  ranges-fit : ranges_fit b index ≡ true
  ranges-fit = and_left (ranges_fit b index) (zero_bytes_fit b index) own

  zeros-fit : zero_bytes_fit b index ≡ true
  zeros-fit = and_right (ranges_fit b index) (zero_bytes_fit b index) own

  -- a user
  module _ {r : List ℕ} (k : KeptUser b index r) {due : Due} (known : due ≡ due_of r (get_or dues index None)) (f : UserLeads r index expected due)
      {number : ℕ} (n : number ≡ get number_field r) {seen' : List ℕ} (ins : Inserted seen number seen') where
    due-here : due ≡ due_of (record_at b index) (get_or dues index None)
    due-here = known ∙ ap (λ (x : List ℕ). due_of x (get_or dues index None)) k.bytes

    kind-here : kind_at b index ≡ user_kind
    unfolding kind_at
    kind-here = rw k.bytes at k.user

    user-here : is_user b index ≡ true
    user-here = has-kind b user_kind index lo inside kind-here

    number-here : number ≡ number_of b index
    unfolding number_of
    number-here = rw (n, k.bytes)

    ended_here : due_entry b index s.gone ≡ 0
    ended_here = sym (s.entry index) ∙ ap (λ (d : Due). d.entry.0) (sym due-here) ∙ f.ended

    opened-here : due_year b index s.gone ≡ activation_of b index
    unfolding activation_of
    opened-here = sym (s.year index) ∙ ap (λ (d : Due). d.year) (sym due-here) ∙ f.opened ∙ ap (get activation_year_field) k.bytes

    met-user : MetUser b s.gone
    met-user =
        record {
          user = rw here user-here;
          ranges = rw here ranges-fit;
          zero-bytes = rw here zeros-fit;
          due = sym s.user ∙ f.here ∙ sym here;
          ended = rw here ended_here;
          opened = rw here opened-here;
          unlike = λ e h u same. ins.fresh (subst (Held seen) (same ∙ ap (number_of b) here ∙ sym number-here) (s.held e h u));
        }

    pub user-met : {next : ℕ} → next ≡ get next_field r → Descended b wanted index next (last_met found (record_index index) number wanted) dues seen'
    unfolding next_of
    user-met e =
        record {
          gone = suc s.gone;
          place = after;
          some = lo;
          user = e ∙ ap (get next_field) k.bytes ∙ ap (next_of b) (sym here) ∙ sym (user-moves b s.gone met-user);
          entry = λ o. s.entry o ∙ sym (user-keeps-entry b s.gone met-user o);
          year = λ o. s.year o ∙ sym (user-keeps-year b s.gone met-user o);
          each = below_suc (λ d. MetUser b d ⊎ MetEntry b d) s.gone s.each (inl met-user);
          held =
              below_suc (λ d. is_user b (met b d) ≡ true → Held seen' (number_of b (met b d))) s.gone
              (λ d h u. ins.kept (number_of b (met b d)) (s.held d h u))
              (λ u. subst (Held seen') (number-here ∙ ap (number_of b) (sym here)) ins.held);
          sought = sought-at b wanted left index l user-here lo number-here ins found s.sought;
        }

  -- an entry
  module _ {r : List ℕ} {home : ℕ} {owner : List ℕ} (k : KeptEntry b index r home owner) {due : Due} (known : due ≡ due_of owner (get_or dues home None))
      (f : EntryLeads r owner index due) (room : home < length dues) where
    due-home : due ≡ due_of (record_at b home) (get_or dues home None)
    due-home = known ∙ ap (λ (x : List ℕ). due_of x (get_or dues home None)) k.owner-bytes

    owner_here : owner_of b index ≡ home
    unfolding owner_of
    owner_here = sym (k.owned ∙ ap (get owner_field) k.bytes)

    owner-user : is_user b home ≡ true
    unfolding kind_at
    owner-user = has-kind b user_kind home k.from (let p = inside in let q = k.below in omega arith) (rw k.owner-bytes at f.user)

    level-here : level_in r ≡ level_of b index
    unfolding level_of
    level-here = ap level_in k.bytes

    next_here : get next_field r ≡ next_of b index
    unfolding next_of
    next_here = ap (get next_field) k.bytes

    entry-due : due_entry b (owner_of b index) s.gone ≡ index
    entry-due = rw owner_here (sym (s.entry home) ∙ ap (λ (d : Due). d.entry.0) (sym due-home) ∙ f.here)

    year-due : due.year ≡ due_year b (owner_of b index) s.gone
    year-due = rw owner_here (ap (λ (d : Due). d.year) due-home ∙ s.year home)

    entry-kind-here : get kind_field r ≡ kind_at b index
    unfolding kind_at
    entry-kind-here = ap (get kind_field) k.bytes

    kind-other : kind_at b index ≡ user_kind → ⊥
    kind-other e = k.other (entry-kind-here ∙ e)

    entry-ranges-here : entry_ranges (account_at b (owner_of b index)) (record_at b index) ≡ true
    unfolding ranges_fit
    entry-ranges-here = rw (ne_eqb (kind_at b index) user_kind kind-other) at ranges-fit

    is-entry : is_entry b index ≡ true
    unfolding kind_at
    is-entry = entry-of-kind b index lo inside (ranges-entry (account_at b (owner_of b index)) (record_at b index) entry-ranges-here)

    level-due : level_of b index + years_ended (kind_at b index) ≡ due_year b (owner_of b index) s.gone
    level-due = rw (← level-here, ← entry-kind-here) (f.year ∙ year-due)

    met-entry : MetEntry b s.gone
    met-entry =
        record {
          entry = rw here is-entry;
          ranges = rw here ranges-fit;
          zero-bytes = rw here zeros-fit;
          owner = rw (here, owner_here) owner-user;
          due = rw here entry-due;
          year = rw here level-due;
        }

    owner-met : owner_of b (met b s.gone) ≡ home
    owner-met = ap (owner_of b) here ∙ owner_here

    entry-after : (o : ℕ) → (due_of (record_at b o) (get_or (set dues home (Some (due_behind r))) o None)).entry.0 ≡ due_entry b o (suc s.gone)
    entry-after o = by-owner (ℕ_discrete o home)
      where
        by-owner : Dec (o ≡ home) → (due_of (record_at b o) (get_or (set dues home (Some (due_behind r))) o None)).entry.0 ≡ due_entry b o (suc s.gone)
        by-owner (yes own) =
            let moved : due_entry b home (suc s.gone) ≡ next_of b index = rw (here, owner_here) at (entry-moves b s.gone met-entry) in
            rw (own, get_or-set_same dues home (Some (due_behind r)) None room) (next_here ∙ sym moved)
        by-owner (no other) =
            rw (get_or-set_other dues home o (Some (due_behind r)) None other) (s.entry o ∙ sym (entry-keeps-other b s.gone met-entry o (λ e. other (sym e ∙ owner-met))))

    year-after : (o : ℕ) → (due_of (record_at b o) (get_or (set dues home (Some (due_behind r))) o None)).year ≡ due_year b o (suc s.gone)
    year-after o = by-owner (ℕ_discrete o home)
      where
        by-owner : Dec (o ≡ home) → (due_of (record_at b o) (get_or (set dues home (Some (due_behind r))) o None)).year ≡ due_year b o (suc s.gone)
        by-owner (yes own) =
            let moved : due_year b home (suc s.gone) ≡ level_of b index = rw (here, owner_here) at (entry-moves-year b s.gone met-entry) in
            rw (own, get_or-set_same dues home (Some (due_behind r)) None room) (level-here ∙ sym moved)
        by-owner (no other) =
            rw (get_or-set_other dues home o (Some (due_behind r)) None other) (s.year o ∙ sym (entry-keeps-year b s.gone met-entry o (λ e. other (sym e ∙ owner-met))))

    no-user : is_user b index ≡ false
    no-user = by_value (is_user b index) refl
      where
        by_value : (t : Bool) → is_user b index ≡ t → is_user b index ≡ false
        by_value true u = absurd (not-both b index u is-entry)
        by_value false u = u

    pub entry-met : Descended b wanted index expected found (set dues home (Some (due_behind r))) seen
    entry-met =
        record {
          gone = suc s.gone;
          place = after;
          some = lo;
          user = s.user ∙ sym (entry-keeps-user b s.gone met-entry);
          entry = entry-after;
          year = year-after;
          each = below_suc (λ d. MetUser b d ⊎ MetEntry b d) s.gone s.each (inr met-entry);
          held =
              below_suc (λ d. is_user b (met b d) ≡ true → Held seen (number_of b (met b d))) s.gone s.held
              (λ u. absurd (not-both b (met b s.gone) u met-entry.entry));
          sought = sought-past b wanted left index l found no-user s.sought;
        }

-- all records but the head are met
pub descended : (b : List ℕ) {wanted left expected : ℕ} {found : Option RecordIndex} {dues : List (Option Due)} {seen : List ℕ} → left ≤ 1
    → Descended b wanted left expected found dues seen → expected ≡ 0
    → used_fits b ≡ true → all_zero unnamed_of_head (record_at b 0) ≡ true → sound b ≡ true
descended b l s e fits rest =
    let p = s.place in
    let q = s.some in
    let all : used b - 1 ≡ s.gone = omega arith in
    passed-sound b record { used-fits = fits; rest = rest; each = λ d h. s.each d (omega arith); end = rw all (sym s.user ∙ e) }

-- the head is no user
pub searched : (b : List ℕ) {n left : ℕ} {seen : List ℕ} → left ≤ 1 → (found : Option RecordIndex) → Sought b n left found seen → found ≡ found_user b n
unfolding found_user
searched b {n} {left} l None s = rw (← s.same, found_none b n left l)
searched b l (Some i) s = let lo = s.held.0 in rw (← s.same, ne_eqb i.0 0 (omega arith))
