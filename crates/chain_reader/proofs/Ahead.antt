-- Where the chains of a sound book begin and go on.
use Rattle.std.proofs.Common.{◌≡◌, ℕ, ◌+◌, ◌*◌, ◌≤◌, ◌<◌, true, List, length}
use mathlib.Core.Logic.{◌≢◌, inr, ⊎_elim}
use Rattle.units.specs.Limits.{record_length}
use Rattle.book_rules.specs.Book.{length_fits, sound, is_user, is_entry, first_user, first_entry_of, next_of}
use Rattle.book_rules.proofs.Faultless.{sound-faultless}
use Rattle.chains.proofs.Chain.{On}
use Rattle.chains.proofs.Links.{first-user, users-fall}
use Rattle.chains.proofs.Walks.{Ahead, begins, entry_whole, ahead-next, next-falls, walk-falls, walk-on}

-- an index of a set, or the end
some : (P : ℕ → Type 0) (at : ℕ) → On P at → at ≢ 0 → P at
some P at on more = ⊎_elim (λ (e : at ≡ 0). absurd (more e)) (λ (p : P at). p) on

module _ (b : List ℕ) (long : length_fits b ≡ true) (good : sound b ≡ true) where
  pub first_is_entry : (i : ℕ) → is_user b i ≡ true → first_entry_of b i ≢ 0 → is_entry b (first_entry_of b i) ≡ true
  first_is_entry i user more = some (λ e. is_entry b e ≡ true) (first_entry_of b i) (begins b i long good user).on more

  module _ (at : ℕ) (entry : is_entry b at ≡ true) (more : at ≢ 0) where
    ahead : Ahead b at
    ahead = record { faultless = sound-faultless b long good; on = inr entry }

    pub entry_stands : record_length * at + record_length ≤ length b
    entry_stands = entry_whole b at ahead more

    pub entry_less : next_of b at < at
    entry_less = next-falls b at ahead more

    pub entry_leads : next_of b at ≢ 0 → is_entry b (next_of b at) ≡ true
    entry_leads = some (λ e. is_entry b e ≡ true) (next_of b at) (ahead-next b at ahead more).on

  pub first_is_user : first_user b ≢ 0 → is_user b (first_user b) ≡ true
  first_is_user = some (λ i. is_user b i ≡ true) (first_user b) (first-user b (sound-faultless b long good))

  module _ (at : ℕ) (user : is_user b at ≡ true) (more : at ≢ 0) where
    pub user_less : next_of b at < at
    user_less = walk-falls (λ i. is_user b i ≡ true) (next_of b) (users-fall b (sound-faultless b long good)) at (inr user) more

    pub user_leads : next_of b at ≢ 0 → is_user b (next_of b at) ≡ true
    user_leads = some (λ i. is_user b i ≡ true) (next_of b at) (walk-on (λ i. is_user b i ≡ true) (next_of b) (users-fall b (sound-faultless b long good)) at (inr user) more)
