-- What is no text is none of the words.
use Rattle.std.proofs.Common.{◌≡◌, ℕ, List, Bool, true, false, refl, sym, rules, subst}
use Rattle.std.specs.Prelude.{None, codes}
use Rattle.std.specs.Str.{IsUtf8, bytes_eq}
use Rattle.std.proofs.lemmas.Str.{IsUtf8-from_ascii}
use Rattle.std.proofs.lemmas.Slice.Eq.{bytes_eq-Decides}
use Rattle.replay_script.specs.Requests.{request_of_word}

differs : (w p : List ℕ) → (IsUtf8 w → ⊥) → IsUtf8 p → bytes_eq w p ≡ false
differs w p h text = by_test (bytes_eq w p) (bytes_eq-Decides w p).0
  where
    by_test : (t : Bool) → (t ≡ true → w ≡ p) → t ≡ false
    by_test true same = absurd (h (subst IsUtf8 (sym (same refl)) text))
    by_test false same = refl

pub no_word : (w rest : List ℕ) → (IsUtf8 w → ⊥) → request_of_word w rest ≡ None
unfolding request_of_word
no_word w rest h = rw (
  differs w (codes "new") h (IsUtf8-from_ascii (codes "new") (search rules)),
  differs w (codes "load") h (IsUtf8-from_ascii (codes "load") (search rules)),
  differs w (codes "fresh") h (IsUtf8-from_ascii (codes "fresh") (search rules)),
  differs w (codes "dump") h (IsUtf8-from_ascii (codes "dump") (search rules)),
  differs w (codes "list") h (IsUtf8-from_ascii (codes "list") (search rules)),
  differs w (codes "enrol") h (IsUtf8-from_ascii (codes "enrol") (search rules)),
  differs w (codes "elect") h (IsUtf8-from_ascii (codes "elect") (search rules)),
  differs w (codes "advance") h (IsUtf8-from_ascii (codes "advance") (search rules)),
  differs w (codes "close") h (IsUtf8-from_ascii (codes "close") (search rules)),
  differs w (codes "charge") h (IsUtf8-from_ascii (codes "charge") (search rules)),
  differs w (codes "statement") h (IsUtf8-from_ascii (codes "statement") (search rules)),
  differs w (codes "moresun") h (IsUtf8-from_ascii (codes "moresun") (search rules)),
  differs w (codes "raise") h (IsUtf8-from_ascii (codes "raise") (search rules)),
  differs w (codes "archive") h (IsUtf8-from_ascii (codes "archive") (search rules)),
  differs w (codes "restore") h (IsUtf8-from_ascii (codes "restore") (search rules)),
  differs w (codes "readmeasures") h (IsUtf8-from_ascii (codes "readmeasures") (search rules)),
  differs w (codes "writemeasures") h (IsUtf8-from_ascii (codes "writemeasures") (search rules)),
) refl
