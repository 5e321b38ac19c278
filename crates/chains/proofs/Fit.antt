-- "the sums of a sound book's statement fit 64 bits" (document 01, "Book")
use Prim.Native.Nat.{ℕ, ◌+◌, ◌*◌, ◌^◌, ◌≤◌, ◌<◌}
use mathlib.Core.Path.{◌≡◌, refl}
use mathlib.Core.Bool.{Bool, true, false, ◌&&◌}
use mathlib.Core.Logic.{⊎_elim}
use mathlib.Core.List.{List}
use native.Mathlib.Nat.{mul-add, mul-le-mul_left}
use native.Mathlib.Omega.{arith}
use lib.Dec.{ltb}
use lib.IntN.{nat_abs}
use lib.ListN.{length}
use Rattle.units.specs.Limits.{max_year_ticks, max_flat_rate, max_contribution, most_years, most_records}
use Rattle.units.proofs.Bools.{and_left}
use Rattle.book_layout.specs.Fields.{record_at, advance_kind, closing_kind}
use Rattle.account_steps.specs.declared.ClosingSums.{ClosingSums}
use Rattle.book_records.specs.Records.{account_in, advance_in, closing_in}
use Rattle.book_rules.specs.Book.{length_fits, used, is_user, is_advance, is_closing, next_of, first_entry_of, activation_of, open_year_of, account_at}
use Rattle.book_rules.proofs.Lengths.{capacity-most}
use Rattle.book_rules.proofs.Faults.{used-within}
use Rattle.book_rules.proofs.Faultless.{Faultless}
use Rattle.ledger.specs.Ledger.{Statement}
use Rattle.book_rules.specs.Chains.{entries_of}
use Rattle.chains.specs.Statements.{closing_part, advance_part, balance_part, sum_over, sum_over_ℤ, statement_at}
use Rattle.chains.proofs.Chain.{chain-from-length}
use Rattle.book_rules.proofs.RecordKinds.{kinds-apart, entry-index}
use Rattle.chains.proofs.Links.{Owned, first_entry}
use Rattle.chains.proofs.Entries.{entries-only}
use Rattle.chains.proofs.Order.{chain-ordered}
use Rattle.chains.proofs.Sums.{sum-at-most, closings-at-most, size-of-sum}
use Rattle.chains.proofs.Ranges.{ClosingRanges, user-years, credit-range, closing-ranges, advance-range}

module _ (b : List ℕ) (f : Faultless b) (i : ℕ) (u : is_user b i ≡ true) where
  -- A sum over the closings has at most one term for each closed year.
  module _ (g : ℕ → ℕ) (cap : ℕ) (at-closing : (e : ℕ) → is_closing b e ≡ true → g e ≤ cap) (at-advance : (e : ℕ) → is_advance b e ≡ true → g e ≡ 0) where
    closings-sum : sum_over g (entries_of b i) ≤ cap * most_years
    unfolding account_in activation_of open_year_of
    closings-sum =
        let years = user-years b f i u in
        let a = activation_of b i in
        let whole = closings-at-most b a g cap at-closing at-advance (chain-ordered b f i u) in
        let span : open_year_of b i ≤ a + most_years = omega (arith, years.activation, years.latest) in
        omega (arith, mul-le-mul_left cap span, mul-add cap a most_years, whole)

  closing-sum : (g : ClosingSums → ℕ) (cap : ℕ) → ((c : ClosingSums) → ClosingRanges c → g c ≤ cap) → sum_over (closing_part g b) (entries_of b i) ≤ cap * most_years
  unfolding closing_part
  closing-sum g cap h =
      closings-sum (closing_part g b) cap (λ e c. rw c (h (closing_in (record_at b e)).sums (closing-ranges b f e c)))
      (λ e a. rw (kinds-apart b advance_kind closing_kind e (λ p. omega arith) a))

  pub balance-sizes : sum_over (λ e. nat_abs (balance_part b e)) (entries_of b i) ≤ max_contribution * most_years
  unfolding balance_part
  balance-sizes =
      closings-sum (λ e. nat_abs (balance_part b e)) max_contribution (λ e c. rw c (closing-ranges b f e c).balance)
      (λ e a. rw (kinds-apart b advance_kind closing_kind e (λ p. omega arith) a))

  balance-sum : nat_abs (sum_over_ℤ (balance_part b) (entries_of b i)) ≤ max_contribution * most_years
  balance-sum = omega (arith, balance-sizes, size-of-sum (balance_part b) (entries_of b i))

  -- A sum over all entries has at most a term for each record.
  entries-few : length (entries_of b i) ≤ used b
  unfolding entries_of
  entries-few =
      ⊎_elim (λ (e : first_entry_of b i ≡ 0). omega (arith, chain-from-length (next_of b) (first_entry_of b i)))
      (λ (o : Owned b i (first_entry_of b i)). omega (arith, chain-from-length (next_of b) (first_entry_of b i), entry-index b (first_entry_of b i) o.entry))
      (first_entry b f i u)

  advance-term : (p : ℕ → Bool) (e : ℕ) → advance_part p b e ≤ max_year_ticks
  unfolding advance_part
  advance-term p e = by-test (is_advance b e && p (advance_in (record_at b e)).year) refl
    where
      by-test : (t : Bool) → (is_advance b e && p (advance_in (record_at b e)).year) ≡ t → advance_part p b e ≤ max_year_ticks
      by-test true q = rw q (advance-range b f e (and_left (is_advance b e) (p (advance_in (record_at b e)).year) q))
      by-test false q = rw q (omega arith)

  pub entries-sum : length_fits b ≡ true → (g : ℕ → ℕ) (cap : ℕ) → ((e : ℕ) → g e ≤ cap) → sum_over g (entries_of b i) ≤ cap * most_records
  entries-sum l g cap most =
      let sum = sum-at-most (Owned b i) g cap (λ e o. most e) (entries_of b i) (entries-only b f i u) in
      let few : length (entries_of b i) ≤ most_records = omega (arith, entries-few, used-within b f.used-fits, capacity-most b l) in
      omega (arith, sum, mul-le-mul_left cap few)

  advance-sum : length_fits b ≡ true → (p : ℕ → Bool) → sum_over (advance_part p b) (entries_of b i) ≤ max_year_ticks * most_records
  advance-sum l p = entries-sum l (advance_part p b) max_year_ticks (advance-term p)

-- each sum but the balance's is below 2^63, and that lies from −2^62 to 2^62
pub record SumsFit (s : Statement) : Type 0 where
  pub credit : s.credit < 2 ^ 63
  pub value : s.value < 2 ^ 63
  pub cost : s.cost < 2 ^ 63
  pub flat_rate : s.flat_rate < 2 ^ 63
  pub contribution : s.contribution < 2 ^ 63
  pub liquidation : s.liquidation < 2 ^ 63
  pub lapsed : s.lapsed < 2 ^ 63
  pub balance : nat_abs s.balance ≤ 2 ^ 62
  pub advances : s.advances < 2 ^ 63
  pub closed_advances : s.closed_advances < 2 ^ 63

pub sums-fit : (b : List ℕ) → Faultless b → length_fits b ≡ true → (i : ℕ) → is_user b i ≡ true → SumsFit (statement_at b i)
unfolding statement_at
sums-fit b f l i u =
    record {
      credit = omega (arith, credit-range b f i u);
      value = omega (arith, closing-sum b f i u (λ c. c.value.0) max_year_ticks (λ c r. r.value));
      cost = omega (arith, closing-sum b f i u (λ c. c.cost.0) max_year_ticks (λ c r. r.cost));
      flat_rate = omega (arith, closing-sum b f i u (λ c. c.flat_rate.0) max_flat_rate (λ c r. r.flat_rate));
      contribution = omega (arith, closing-sum b f i u (λ c. c.contribution.0) max_contribution (λ c r. r.contribution));
      liquidation = omega (arith, closing-sum b f i u (λ c. c.liquidation.0) max_year_ticks (λ c r. r.liquidation));
      lapsed = omega (arith, closing-sum b f i u (λ c. c.lapsed.0) (max_year_ticks * most_years) (λ c r. r.lapsed));
      balance = omega (arith, balance-sum b f i u);
      advances = omega (arith, advance-sum b f i u l (λ y. true));
      closed_advances = omega (arith, advance-sum b f i u l (λ y. ltb y (account_at b i).open_year));
    }

-- and the conserved sum of them fits too: lapsed credit is below 2^62, what else it is made of below 2^59
pub record SumsSmall (s : Statement) : Type 0 where
  pub credit : s.credit < 2 ^ 59
  pub value : s.value < 2 ^ 59
  pub flat_rate : s.flat_rate < 2 ^ 59
  pub liquidation : s.liquidation < 2 ^ 59
  pub lapsed : s.lapsed < 2 ^ 62
  pub balance : nat_abs s.balance < 2 ^ 59
  pub closed_advances : s.closed_advances < 2 ^ 59

pub sums-small : (b : List ℕ) → Faultless b → length_fits b ≡ true → (i : ℕ) → is_user b i ≡ true → SumsSmall (statement_at b i)
unfolding statement_at
sums-small b f l i u =
    record {
      credit = omega (arith, credit-range b f i u);
      value = omega (arith, closing-sum b f i u (λ c. c.value.0) max_year_ticks (λ c r. r.value));
      flat_rate = omega (arith, closing-sum b f i u (λ c. c.flat_rate.0) max_flat_rate (λ c r. r.flat_rate));
      liquidation = omega (arith, closing-sum b f i u (λ c. c.liquidation.0) max_year_ticks (λ c r. r.liquidation));
      lapsed = omega (arith, closing-sum b f i u (λ c. c.lapsed.0) (max_year_ticks * most_years) (λ c r. r.lapsed));
      balance = omega (arith, balance-sum b f i u);
      closed_advances = omega (arith, advance-sum b f i u l (λ y. ltb y (account_at b i).open_year));
    }
