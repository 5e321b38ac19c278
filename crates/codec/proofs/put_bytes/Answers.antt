-- What is left to store, stored into the string as it stands, always gives the same: the whole number stored into the string as it
-- came.
use Prim.Native.Nat.{ℕ, suc, ◌+◌, ◌-◌, ◌≤◌, ◌%◌, ◌/◌}
use mathlib.Core.Path.{◌≡◌, ap, sym, ◌∙◌}
use mathlib.Core.List.{List}
use native.Mathlib.Omega.{arith}
use lib.ListN.{set, length-set}
use Rattle.codec.specs.Bytes.{bytes_of}
use Rattle.codec.proofs.Numbers.{length-bytes}
use Rattle.codec.proofs.Stores.{sets-stored}
use Rattle.codec.proofs.put_bytes.Invariants.{left}
use Rattle.std.proofs.Common.{rules}
use Rattle.codec.proofs.put_bytes.Goals as goal

left_step : (at width rest k : ℕ) (s : List ℕ) → k + 1 ≤ width
    → left at width (rest / 256) (k + 1) (set s (at + k) (rest % 256)) ≡ left at width rest k s
unfolding bytes_of
left_step at width rest k s h =
    let more : width - k ≡ suc (width - (k + 1)) = omega arith in
    let next : at + (k + 1) ≡ suc (at + k) = omega arith in
    rw (more, next)

left-none : (at width rest : ℕ) (s : List ℕ) → left at width rest width s ≡ s
unfolding bytes_of
left-none at width rest s = let none : width - width ≡ 0 = omega arith in rw none

pub loop-k-preserved : goal.loop-k-preserved
loop-k-preserved c =
    let l = c.loop-k in
    let a = c.args in
    record {
      within = search rules;
      long = simp length-set l.invariant.long;
      whole = left_step a.at a.width l.rest l.k l.s (search rules) ∙ l.invariant.whole;
    }

pub returns : goal.returns
returns c =
    let l = c.loop-k in
    let a = c.args in
    let end : a.width ≡ l.k = omega arith in
    sym (left-none a.at a.width l.rest l.s)
    ∙ ap (λ (k : ℕ). left a.at a.width l.rest k l.s) end
    ∙ l.invariant.whole
    ∙ sets-stored a.at (bytes_of a.width a.n) a.s.now (rw length-bytes (omega arith))
