-- The places of the runs, one after the other, are the places that are tried.
use Prim.Native.Nat.{ℕ, ◌+◌, ◌*◌, ◌/◌, ◌%◌, ◌<◌, min}
use mathlib.Core.Path.{◌≡◌, sym}
use native.Mathlib.Nat.{mod-eq_of_lt, mod-add-mod, add-zero, add_assoc, mul-lt-mul_of_pos_right}
use native.Mathlib.Numerals.{add-one}
use native.Mathlib.Omega.{arith}
use Rattle.check_numbers.specs.InnerHeld.{word_size, run_length, remixed, mixed, start_of, place, probe}

pub mixed-next : (n r : ℕ) → mixed n (r + 1) ≡ remixed (mixed n r)
unfolding mixed
mixed-next n r = rw add-one

pub start_inside : (places : ℕ) {m : ℕ} → 0 < places → m < word_size → start_of places m < places
unfolding start_of
start_inside places some small =
    let starts : 0 < min places word_size = omega arith in
    omega (arith, mul-lt-mul_of_pos_right small starts)

module _ (places n r : ℕ) where
  pub first-place : {at : ℕ} → at ≡ start_of places (mixed n (r + 1)) → at < places → at ≡ place places n r 0
  unfolding place
  first-place e h = rw (add-zero, ← e) (sym (mod-eq_of_lt h))

  pub next_place : (step : ℕ) → (place places n r step + 1) % places ≡ place places n r (step + 1)
  unfolding place
  next_place step = rw (mod-add-mod, add_assoc)

  pub place-tried : (step : ℕ) → step < run_length → place places n r step ≡ probe places n (r * run_length + step)
  unfolding probe
  place-tried step h =
      let quotient : (r * run_length + step) / run_length ≡ r = omega arith in
      let remainder : (r * run_length + step) % run_length ≡ step = omega arith in
      rw (quotient, remainder)
