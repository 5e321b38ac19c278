-- `domestic_excess` is held to `refused14`: the months by a running test.
use mathlib.Core.Path.{◌≡◌, ap, sym, ◌∙◌}
use native.Mathlib.Decide.{dec_lt}
use borrow.Author.Tests.{lt-ltb, le-ltb}
use Rattle.units.specs.declared.Kwh.{Kwh}
use Rattle.units.specs.Units.{kwh}
use native.Mathlib.Omega.{arith}
use Prim.Native.Nat.{ℕ, ◌-◌, ◌^◌, ◌<◌, min}
use lib.Dec.{ltb}
use Rattle.units.proofs.Folds.{any-zero, any_next}
use Rattle.tariff.specs.Tariff.{monthly_threshold}
use Rattle.sheet.specs.YearSheet.{refused14, month_withdrawn}
use Rattle.std.proofs.Common.{rules}
use Rattle.sheet.proofs.domestic_excess.Goals as goal

-- what 32 bits hold of a sum is above the threshold where the sum is
tested : (n : ℕ) (k : Kwh) → k ≡ kwh (min n (2 ^ 32 - 1)) → ltb monthly_threshold k.0 ≡ ltb monthly_threshold n
tested n k e = by-test (dec_lt monthly_threshold n)
  where
    held : k.0 ≡ min n 4294967295
    held = ap (λ (x : Kwh). x.0) e

    by-test : Dec (monthly_threshold < n) → ltb monthly_threshold k.0 ≡ ltb monthly_threshold n
    by-test (yes l) = lt-ltb monthly_threshold k.0 (omega (arith, held, l)) ∙ sym (lt-ltb monthly_threshold n l)
    by-test (no g) = le-ltb monthly_threshold k.0 (omega (arith, held, g)) ∙ sym (le-ltb monthly_threshold n (omega (arith, g)))

pub loop-month-init : goal.loop-month-init
loop-month-init c = (search rules, sym (any-zero (λ m. ltb monthly_threshold (month_withdrawn c.args.s.now m))))

pub loop-month-preserved : goal.loop-month-preserved
loop-month-preserved c =
    let l = c.loop-month in
    let s = c.args.s.now in (
      search rules,
      any_next l.month (λ m. ltb monthly_threshold (month_withdrawn s m)) l.invariant.1 (tested (month_withdrawn s l.month)
          c.month_withdrawn.result c.month_withdrawn.ensures),
    )

pub returns : goal.returns
unfolding refused14
returns c =
    let end : c.loop-month.month ≡ 12 = omega arith in
    cc
