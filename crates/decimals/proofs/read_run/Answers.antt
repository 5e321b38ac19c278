-- A digit more, or the end of the digits.
use Rattle.std.proofs.Common.{ℕ, ◌+◌, ◌-◌, ◌*◌, ◌≡◌, ◌≤◌, List, false, length, get_or, drop, ap, sym, ◌∙◌, arith}
use Rattle.std.specs.Prelude.{min}
use Rattle.std.proofs.lemmas.List.{get_or_past}
use Rattle.decimals.specs.Decimals.{is_digit, value_after, RunRead}
use Rattle.decimals.proofs.Digits.{digit-bounds, digits_more, value-more, digits-none, value_none, value-capped}
use Rattle.decimals.proofs.read_run.Invariants.{Reading}
use Rattle.decimals.proofs.read_run.Goals as goal

pub overflow_sub-b : goal.overflow_sub-b
overflow_sub-b c =
    let d = sym c.is_digit.ensures ∙ c.if-not-is_digit.false in
    (digit-bounds (get_or c.args.s.now c.loop-b.b-index 0) d).0

pub loop-b-preserved : goal.loop-b-preserved
loop-b-preserved c =
    let s = c.args.s.now in
    let most = c.args.most in
    let k = c.loop-b.b-index in
    let r = c.loop-b.invariant.1 in
    let d = sym c.is_digit.ensures ∙ c.if-not-is_digit.false in
    let more = c.loop-b.value * 10 + (get_or s k 0 - 48) in (
      omega (arith, c.loop-b.invariant.0),
      record {
        inside = omega (arith, c.loop-b-test.true);
        capped = omega (arith, c.with_digit-value.ensures);
        all = omega (arith, r.all, digits_more s k d);
        number = ap (λ (v : ℕ). min (value_after v (drop (k + 1) s)) most) c.with_digit-value.ensures
            ∙ value-capped most more (drop (k + 1) s)
            ∙ ap (λ (v : ℕ). min v most) (sym (value-more c.loop-b.value s k d))
            ∙ r.number;
      },
    )

-- where the digits end
ended : {s : List ℕ} {most value passed count : ℕ} → count ≡ passed → Reading s most value passed → is_digit (get_or s passed 0) ≡ false
    → RunRead s most (record { count = count; value = value })
ended {s} {most} {value} {passed} {count} e r d =
    let whole = value_none value s passed d in
    record {
      count = omega (arith, e, r.all, digits-none s passed d);
      within = omega (arith, e, r.inside);
      value = sym (ap (λ (v : ℕ). min v most) whole ∙ omega (arith, r.capped)) ∙ r.number;
    }

-- at the end of the text no digit stands
past-no-digit : (s : List ℕ) (k : ℕ) → length s ≤ k → is_digit (get_or s k 0) ≡ false
unfolding is_digit
past-no-digit s k h = rw (get_or_past s k 0 h)

pub returns-then-not-is_digit : goal.returns-then-not-is_digit
returns-then-not-is_digit c = ended c.loop-b.invariant.0 c.loop-b.invariant.1 (sym c.is_digit.ensures ∙ c.if-not-is_digit.true)

pub returns : goal.returns
returns c = ended c.loop-b.invariant.0 c.loop-b.invariant.1 (past-no-digit c.args.s.now c.loop-b.b-index c.loop-b-test.false)
