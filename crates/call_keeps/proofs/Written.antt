-- The records of a book after each of the three ways of writing: a user enrolled, an account set, an entry added.
use Prim.Native.Nat.{ℕ, ◌+◌, ◌*◌, ◌^◌, ◌≤◌, ◌<◌}
use mathlib.Core.Path.{◌≡◌, ap, ◌∙◌}
use mathlib.Core.Bool.{true}
use mathlib.Core.List.{List}
use native.Mathlib.Omega.{arith}
use lib.ListN.{length}
use Rattle.units.specs.Limits.{record_length}
use Rattle.units.specs.Units.{record_index}
use Rattle.account_steps.specs.declared.Account.{Account}
use Rattle.book_layout.specs.Fields.{get, all_zero, unnamed_of_head, record_at, put_record, capacity, used_field, first_user_field, user_kind}
use Rattle.book_layout.proofs.Places.{length-put, record-put-same, record-put-other}
use Rattle.book_layout.proofs.ByteRanges.{Bytes, bytes-put, field_below}
use Rattle.book_records.specs.declared.UserRecord.{UserRecord}
use Rattle.book_records.specs.Records.{head_image, user_image}
use Rattle.book_records.proofs.Heads.{length-head-image, bytes-head-image, head-unnamed, head-used, head_first}
use Rattle.book_records.proofs.Users.{length-user-image, bytes-user-image}
use Rattle.book_rules.specs.Book.{used, first_user, is_user, next_of, first_entry_of}
use Rattle.book_rules.proofs.RecordKinds.{kind-index}
use Rattle.call_rules.specs.Changes.{enrolled_as, with_account, with_entry}
use Rattle.call_keeps.proofs.Good.{Good, sizes}

-- the head of b holds u and the first user, and nothing else
pub record HeadAt (b : List ℕ) (count first : ℕ) : Type 0 where
  pub used-is : used b ≡ count
  pub first-is : first_user b ≡ first
  pub rest : all_zero unnamed_of_head (record_at b 0) ≡ true

head_at : (b : List ℕ) (count first : ℕ) → record_at b 0 ≡ head_image count first → count < 2 ^ 32 → first < 2 ^ 32 → HeadAt b count first
unfolding used first_user
head_at b count first e hc hf =
    record {
      used-is = ap (get used_field) e ∙ head-used count first hc;
      first-is = ap (get first_user_field) e ∙ head_first count first hf;
      rest = ap (all_zero unnamed_of_head) e ∙ head-unnamed count first;
    }

-- the new user, and the user i with another first entry and account
abbrev pub new_user : List ℕ → Account → UserRecord
new_user b a = record { next = record_index (first_user b); first = record_index 0; account = a }

abbrev pub user_with : List ℕ → ℕ → ℕ → Account → UserRecord
user_with b i first a = record { next = record_index (next_of b i); first = record_index first; account = a }

-- the book b' is b with the record r at index i
pub record Put (b b' : List ℕ) (i : ℕ) (r : List ℕ) : Type 0 where
  pub length-same : length b' ≡ length b
  pub bytes : Bytes b'
  pub here : record_at b' i ≡ r
  pub others : (j : ℕ) → (j ≡ i → ⊥) → record_at b' j ≡ record_at b j

put : (b : List ℕ) (i : ℕ) (r : List ℕ) → Bytes b → length r ≡ record_length → Bytes r → record_length * i + record_length ≤ length b → Put b (put_record i r b) i r
put b i r bytes l rs h =
    record {
      length-same = length-put i r b l h;
      bytes = bytes-put i r b rs bytes;
      here = record-put-same i r b l h;
      others = λ j n. record-put-other i j r b n l h;
    }

-- a user enrolled, another account at the user i, an entry of the user i added
pub record UserEnrolled (b b' : List ℕ) (u : UserRecord) : Type 0 where
  pub length-same : length b' ≡ length b
  pub bytes : Bytes b'
  pub head : HeadAt b' (used b + 1) (used b)
  pub new : record_at b' (used b) ≡ user_image u
  pub others : (j : ℕ) → 1 ≤ j → (j ≡ used b → ⊥) → record_at b' j ≡ record_at b j

abbrev pub AccountSet : List ℕ → List ℕ → ℕ → Account → Type 0
AccountSet b b' i a = Put b b' i (user_image (user_with b i (first_entry_of b i) a))

pub record EntryAdded (b b' : List ℕ) (i : ℕ) (a : Account) (entry : List ℕ) : Type 0 where
  pub length-same : length b' ≡ length b
  pub bytes : Bytes b'
  pub head : HeadAt b' (used b + 1) (first_user b)
  pub user : record_at b' i ≡ user_image (user_with b i (used b) a)
  pub new : record_at b' (used b) ≡ entry
  pub others : (j : ℕ) → 1 ≤ j → (j ≡ i → ⊥) → (j ≡ used b → ⊥) → record_at b' j ≡ record_at b j

module _ (b : List ℕ) (g : Good b) where
  pub first_below_lem : first_user b < 2 ^ 32
  unfolding first_user
  first_below_lem = field_below first_user_field b 0 g.bytes

  -- what a new head and one record below it make of the book
  enrolled-by : (b₁ b₂ : List ℕ) (u : UserRecord) → used b < capacity b
      → Put b b₁ (used b) (user_image u) → Put b₁ b₂ 0 (head_image (used b + 1) (used b)) → UserEnrolled b b₂ u
  enrolled-by b₁ b₂ u room p q =
      let s = sizes b g in
      let apart : used b ≡ 0 → ⊥ = omega (arith, s.some) in
      record {
        length-same = q.length-same ∙ p.length-same;
        bytes = q.bytes;
        head = head_at b₂ (used b + 1) (used b) q.here (omega (arith, s.to)) (omega (arith, s.to));
        new = q.others (used b) apart ∙ p.here;
        others = λ j lo n. let front : j ≡ 0 → ⊥ = omega arith in q.others j front ∙ p.others j n;
      }

  pub user-enrolled : (a : Account) → used b < capacity b → UserEnrolled b (enrolled_as a b) (new_user b a)
  unfolding enrolled_as
  user-enrolled a room =
      let s = sizes b g in
      let u = new_user b a in
      let p = put b (used b) (user_image u) g.bytes (length-user-image u) (bytes-user-image u) (omega arith) in
      let q = put (put_record (used b) (user_image u) b) 0 (head_image (used b + 1) (used b)) p.bytes (length-head-image (used b + 1) (used b))
      (bytes-head-image (used b + 1) (used b)) (omega (arith, p.length-same, s.from)) in
      enrolled-by (put_record (used b) (user_image u) b) (enrolled_as a b) u room p q

  pub account-set : (i : ℕ) (a : Account) → is_user b i ≡ true → AccountSet b (with_account i a b) i a
  unfolding with_account
  account-set i a h =
      let s = sizes b g in
      let below = (kind-index b user_kind i h).1.0 in
      let u = user_with b i (first_entry_of b i) a in
      put b i (user_image u) g.bytes (length-user-image u) (bytes-user-image u) (omega (arith, s.most))

  entry-by : (b₁ b₂ b₃ : List ℕ) (i : ℕ) (a : Account) (entry : List ℕ) → is_user b i ≡ true → used b < capacity b
      → Put b b₁ (used b) entry → Put b₁ b₂ i (user_image (user_with b i (used b) a)) → Put b₂ b₃ 0 (head_image (used b + 1) (first_user b))
      → EntryAdded b b₃ i a entry
  entry-by b₁ b₂ b₃ i a entry h room p q r =
      let s = sizes b g in
      let place = kind-index b user_kind i h in
      let front : i ≡ 0 → ⊥ = omega (arith, place.0) in
      let last : used b ≡ 0 → ⊥ = omega (arith, s.some) in
      let other : used b ≡ i → ⊥ = omega (arith, place.1.0) in
      record {
        length-same = r.length-same ∙ q.length-same ∙ p.length-same;
        bytes = r.bytes;
        head = head_at b₃ (used b + 1) (first_user b) r.here (omega (arith, s.to)) first_below_lem;
        user = r.others i front ∙ q.here;
        new = r.others (used b) last ∙ q.others (used b) other ∙ p.here;
        others = λ j lo n m. let low : j ≡ 0 → ⊥ = omega arith in r.others j low ∙ q.others j n ∙ p.others j m;
      }

  pub entry-added : (i : ℕ) (a : Account) (entry : List ℕ) → is_user b i ≡ true → used b < capacity b
      → length entry ≡ record_length → Bytes entry → EntryAdded b (with_entry i a entry b) i a entry
  unfolding with_entry
  entry-added i a entry h room l es =
      let s = sizes b g in
      let below = (kind-index b user_kind i h).1.0 in
      let u = user_with b i (used b) a in
      let b₁ = put_record (used b) entry b in
      let b₂ = put_record i (user_image u) b₁ in
      let p = put b (used b) entry g.bytes l es (omega arith) in
      let q = put b₁ i (user_image u) p.bytes (length-user-image u) (bytes-user-image u) (omega (arith, p.length-same, s.most)) in
      let r = put b₂ 0 (head_image (used b + 1) (first_user b)) q.bytes (length-head-image (used b + 1) (first_user b))
      (bytes-head-image (used b + 1) (first_user b)) (omega (arith, q.length-same, p.length-same, s.from)) in
      entry-by b₁ b₂ (with_entry i a entry b) i a entry h room p q r
