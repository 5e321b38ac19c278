-- One sum over the entries of a chain, past the entry that stands first: a closing joins the sums over closings and passes
-- those over advances, an advance the other way round.
use Rattle.std.proofs.Common.{◌≡◌, ℕ, ◌+◌, Bool, true, cond, List, ◌∷◌, ℤ, pos, ◌+ℤ◌, sym, ap, ◌∙◌, arith}
use lib.IntN.{+ℤ_idl}
use Rattle.book_layout.specs.Fields.{record_at, advance_kind, closing_kind}
use Rattle.account_steps.specs.declared.ClosingSums.{ClosingSums}
use Rattle.book_records.specs.Records.{advance_in, closing_in}
use Rattle.book_rules.specs.Book.{is_advance, is_closing}
use Rattle.chains.specs.Statements.{closing_part, advance_part, balance_part, sum_over, sum_over_ℤ}
use Rattle.book_rules.proofs.RecordKinds.{kinds-apart}

module _ (b : List ℕ) (e : ℕ) (es : List ℕ) where
  -- a closing joins the sums over closings and passes those over advances
  module _ (closing : is_closing b e ≡ true) where
    pub closing-joins : (g : ClosingSums → ℕ) (x w : ℕ) → x + sum_over (closing_part g b) (e ∷ es) ≡ w → x + g (closing_in (record_at b e)).sums + sum_over (closing_part g b) es ≡ w
    unfolding sum_over closing_part
    closing-joins g x w h = let t : x + (g (closing_in (record_at b e)).sums + sum_over (closing_part g b) es) ≡ w = rw closing at h in omega arith

    pub closing-passes : (p : ℕ → Bool) (x w : ℕ) → x + sum_over (advance_part p b) (e ∷ es) ≡ w → x + sum_over (advance_part p b) es ≡ w
    unfolding sum_over advance_part
    closing-passes p x w h =
        let t : x + (0 + sum_over (advance_part p b) es) ≡ w = rw (kinds-apart b closing_kind advance_kind e (λ q. omega arith) closing) at h in omega arith

    pub balance-part : balance_part b e ≡ (closing_in (record_at b e)).sums.balance.0
    unfolding balance_part
    balance-part = rw closing

  -- an advance the other way round
  module _ (advance : is_advance b e ≡ true) where
    pub advance-joins : (p : ℕ → Bool) (x w : ℕ) → x + sum_over (advance_part p b) (e ∷ es) ≡ w
        → x + cond (p (advance_in (record_at b e)).year) (advance_in (record_at b e)).ticks.0 0 + sum_over (advance_part p b) es ≡ w
    unfolding sum_over advance_part
    advance-joins p x w h =
        let t : x + (cond (p (advance_in (record_at b e)).year) (advance_in (record_at b e)).ticks.0 0 + sum_over (advance_part p b) es) ≡ w = rw advance at h in omega arith

    pub advance-passes : (g : ClosingSums → ℕ) (x w : ℕ) → x + sum_over (closing_part g b) (e ∷ es) ≡ w → x + sum_over (closing_part g b) es ≡ w
    unfolding sum_over closing_part
    advance-passes g x w h =
        let t : x + (0 + sum_over (closing_part g b) es) ≡ w = rw (kinds-apart b advance_kind closing_kind e (λ q. omega arith) advance) at h in omega arith

    no-balance : balance_part b e ≡ pos 0
    unfolding balance_part
    no-balance = rw (kinds-apart b advance_kind closing_kind e (λ q. omega arith) advance)

    pub advance-keeps-balance : (x w : ℤ) → x +ℤ sum_over_ℤ (balance_part b) (e ∷ es) ≡ w → x +ℤ sum_over_ℤ (balance_part b) es ≡ w
    unfolding sum_over_ℤ
    advance-keeps-balance x w h =
        let rest = sum_over_ℤ (balance_part b) es in
        ap (λ z. x +ℤ z) (sym (ap (λ z. z +ℤ rest) no-balance ∙ +ℤ_idl rest)) ∙ h
