-- The way of a number through the runs: what is known before a run, and at each of its steps. The table stays as it was.
use Prim.Native.Nat.{ℕ, ◌+◌, ◌*◌, ◌%◌, ◌≤◌, ◌<◌}
use mathlib.Core.Path.{◌≡◌, refl, ap, ◌∙◌, subst}
use mathlib.Core.List.{List}
use native.Mathlib.Nat.{add-zero, add_assoc}
use native.Mathlib.Omega.{arith}
use lib.ListN.{length, get_or, set}
use Rattle.check_numbers.specs.InnerHeld.{run_length, remixed, mixed, start_of, place, probe, Inserted}
use Rattle.check_numbers.proofs.Places.{mixed-next, first-place, next_place, place-tried}
use Rattle.check_numbers.proofs.Tables.{Passed, passed_none, passed-next, inserted}

pub record BeforeRun (t₀ t : List ℕ) (n m r : ℕ) : Type 0 where
  pub same : t ≡ t₀
  pub mix : m ≡ mixed n r
  pub passed : Passed t n (r * run_length)

pub record AtStep (t₀ t : List ℕ) (n r at step : ℕ) : Type 0 where
  pub same : t ≡ t₀
  pub here : at ≡ place (length t) n r step
  pub inside : at < length t
  pub steps : step ≤ run_length
  pub passed : Passed t n (r * run_length + step)

pub first_run : (t : List ℕ) (n : ℕ) → BeforeRun t t n n 0
unfolding mixed
first_run t n = record { same = refl; mix = refl; passed = passed_none t n }

module _ {t₀ t : List ℕ} {n r at step : ℕ} (s : AtStep t₀ t n r at step) (more : step < run_length) where
  tried : at ≡ probe (length t) n (r * run_length + step)
  tried = s.here ∙ place-tried (length t) n r step more

  put-at-place : 0 < n → get_or t at 0 ≡ 0 → Inserted t n (set t at n)
  put-at-place some = inserted t n (r * run_length + step) s.passed tried some s.inside

  pub next-step : {after : ℕ} → after ≡ (at + 1) % length t → after < length t → (get_or t at 0 ≡ 0 → ⊥) → (get_or t at 0 ≡ n → ⊥)
      → AtStep t₀ t n r after (step + 1)
  next-step e inside full other =
      record {
        same = s.same;
        here = e ∙ rw s.here (next_place (length t) n r step);
        inside = inside;
        steps = omega arith;
        passed = rw (← add_assoc) (passed-next t n (r * run_length + step) s.passed tried full other);
      }

module _ {t₀ t : List ℕ} {n m r : ℕ} (b : BeforeRun t₀ t n m r) where
  mixed-again : {after : ℕ} → after ≡ remixed m → after ≡ mixed n (r + 1)
  mixed-again e = rw (mixed-next, ← b.mix) e

  pub first_step : {after at : ℕ} → after ≡ remixed m → at ≡ start_of (length t) after → at < length t → AtStep t t n r at 0
  first_step e s inside =
      record {
        same = refl;
        here = first-place (length t) n r (s ∙ ap (start_of (length t)) (mixed-again e)) inside;
        inside = inside;
        steps = omega arith;
        passed = rw add-zero b.passed;
      }

  module _ {t' : List ℕ} {at step : ℕ} (s : AtStep t t' n r at step) where
    pub length-kept : length t' ≡ length t₀
    length-kept = ap length (s.same ∙ b.same)

    pub put-at-step : step < run_length → 0 < n → get_or t' at 0 ≡ 0 → Inserted t₀ n (set t' at n)
    put-at-step more some empty = subst (λ (x : List ℕ). Inserted x n (set t' at n)) (s.same ∙ b.same) (put-at-place s more some empty)

    pub next-run : {after : ℕ} → after ≡ remixed m → run_length ≤ step → BeforeRun t₀ t' n after (r + 1)
    next-run e end =
        let all : r * run_length + step ≡ (r + 1) * run_length = omega arith in
        record { same = s.same ∙ b.same; mix = mixed-again e; passed = rw all at s.passed }
