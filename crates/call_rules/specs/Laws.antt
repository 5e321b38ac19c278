-- "Every accepted call leaves a sound book sound.": over any sound book of bytes, and any call with arguments as its types hold
-- them.
use Rattle.std.specs.Prelude.{ℕ, ◌<◌, ◌≡◌, true, List, get_or}
use Rattle.book_rules.specs.Book.{sound}
use Rattle.call_rules.specs.Calls.{Call, refusal_of, book_after, Typed}

abbrev pub KeepsSound : Type 0
KeepsSound =
    (b : List ℕ) → ((k : ℕ) → get_or b k 0 < 256) → sound b ≡ true → (c : Call) → Typed c → refusal_of b c ≡ 0
    → sound (book_after b c) ≡ true
