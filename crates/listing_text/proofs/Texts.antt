-- The text of a refused book, which text a book has, and that none is longer than `longest_text`.
use Prim.Native.Nat.{ℕ, ◌+◌, ◌≤◌}
use mathlib.Core.Path.{◌≡◌, refl, ap, ◌∙◌}
use mathlib.Core.Bool.{Bool, true, false, cond}
use mathlib.Core.List.{List, [], ◌∷◌}
use native.Mathlib.Omega.{arith}
use lib.ListN.{length}
use lib.Seq.{sets}
use Rattle.decimals.specs.Decimals.{line_feed}
use Rattle.codec.specs.Bytes.{stored}
use Rattle.codec.proofs.Stores.{sets-stored, length-stored}
use Rattle.book_rules.specs.Book.{length_fits, sound}
use Rattle.book_rules.specs.Chains.{users_of}
use Rattle.refusals.specs.declared.Refusal.{Refusal}
use Rattle.refusals.specs.declared.Refusal.TheVariants.{BookLength, FaultyRecord}
use Rattle.refusals.specs.Refusals.{number_of}
use Rattle.check_book.specs.Verdicts.{BookRefused, Accepted}
use Rattle.listing_text.specs.Listing.{blank, user_lines, refused, listing}
use Rattle.listing_text.specs.InnerWritten.{longest_refusal, longest_text, field, AllWritten, TextFirst}
use Rattle.codec.proofs.Pieces.{stored-then}
use Rattle.listing_text.proofs.Walk.{text-short}
use Rattle.listing_text.proofs.Fields.{field-short}

-- "refused "
abbrev pub word : List ℕ
word = 114 ∷ 101 ∷ 102 ∷ 117 ∷ 115 ∷ 101 ∷ 100 ∷ blank ∷ []

pub refusal-written : (n r : ℕ) (s l : List ℕ) → longest_refusal ≤ length s → r ≡ 8 + length (field n line_feed)
    → l ≡ stored 8 (field n line_feed) (sets s 0 word) → TextFirst (refused n) s l r
unfolding refused field
refusal-written n r s l room e w =
    record {
      end = omega arith;
      stands = w
          ∙ ap (stored 8 (field n line_feed)) (sets-stored 0 word s (omega arith))
          ∙ stored-then 0 word (field n line_feed) s (omega (arith, field-short n line_feed));
    }

refused-short : (n : ℕ) → length (refused n) ≤ longest_refusal
unfolding refused field
refused-short n = omega (arith, field-short n line_feed)

module _ (b : List ℕ) where
  pub listed : Accepted b → listing b ≡ user_lines b (users_of b)
  unfolding listing
  listed a = let long : length_fits b ≡ true = a.fits in let good : sound b ≡ true = a.is_sound in rw (long, good)

  -- "A book refused with 1 or 2 prints only `refused 1` or `refused 2`."
  pub refused-listed : (e : Refusal) → BookRefused b e → listing b ≡ refused (number_of e)
  unfolding listing
  refused-listed BookLength short = rw short
  refused-listed (FaultyRecord i) o = rw (o.fits, o.unsound)
  refused-listed other z = absurd z

  -- the text written is the listing
  pub answered : (t s l : List ℕ) (r : ℕ) → listing b ≡ t → TextFirst t s l r → TextFirst (listing b) s l r
  answered t s l r e h = rw e h

  listing-short : length (listing b) ≤ longest_text
  unfolding listing
  listing-short = by_tests (length_fits b) (sound b) refl refl
    where
      by_tests : (long good : Bool) → length_fits b ≡ long → sound b ≡ good
          → length (cond long (cond good (user_lines b (users_of b)) (refused 2)) (refused 1)) ≤ longest_text
      by_tests true true l g = text-short b l g
      by_tests true false l g = omega (arith, refused-short 2)
      by_tests false good l g = omega (arith, refused-short 1)

  -- the text is written where there is room for the longest
  pub all-written : (before after : List ℕ) (n : ℕ) → longest_text ≤ length before → n ≡ length (listing b)
      → after ≡ stored 0 (listing b) before → AllWritten b before after n
  all-written before after n room count text =
      let same : length after ≡ length before = ap length text ∙ length-stored 0 (listing b) before (omega (arith, listing-short)) in
      record { room = room; count = count; text = text; within = omega (arith, listing-short) }
