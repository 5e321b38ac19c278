-- No list of calls from a good book meets a refusal 1 or 2.
use Prim.Native.Nat.{ℕ}
use mathlib.Core.Path.{◌≡◌}
use mathlib.Core.List.{List, [], ◌∷◌}
use native.Mathlib.Omega.{arith}
use Rattle.call_rules.specs.Rules.{refused_by}
use Rattle.call_rules.specs.Refusals.{look_at}
use Rattle.call_rules.specs.Calls.{Call, named_by, rules_of, refusal_of, book_after, AllTyped}
use Rattle.call_rules.proofs.Rules.{never-answered}
use Rattle.call_rules.proofs.Orders.{reserved}
use Rattle.call_keeps.proofs.EveryCall.{call-good}
use Rattle.ledger_agrees.specs.Lists.{made_of}
use Rattle.ledger_agrees.specs.Fed.{NoneDamaged}
use Rattle.call_keeps.proofs.Good.{Good, good-sound}

-- neither 1 nor 2
record Undamaged (n : ℕ) : Type 0 where
  pub not_length : n ≡ 1 → ⊥
  pub not_faulty : n ≡ 2 → ⊥

-- a good book passes 1 and 2
good-refusal : (b : List ℕ) → Good b → (c : Call) → Undamaged (refusal_of b c)
unfolding refusal_of refused_by
good-refusal b g c =
    let v = look_at b (named_by c) in
    let own = reserved v c in
    rw (g.length, good-sound b g)
    (record { not_length = never-answered 1 (rules_of v c) own.one (omega arith); not_faulty = never-answered 2 (rules_of v c) own.two (omega arith) })

-- along a list every book is good
pub never-damaged : (cs : List Call) (b : List ℕ) → Good b → AllTyped cs → NoneDamaged (made_of b cs)
unfolding made_of NoneDamaged AllTyped
never-damaged [] b g t = tt
never-damaged (c ∷ cs) b g t =
    let here = good-refusal b g c in
    (here.not_length, here.not_faulty, never-damaged cs (book_after b c) (call-good b g c t.0) t.1)
