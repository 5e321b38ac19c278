-- What was passed over of a line that is too long.
use Rattle.std.proofs.Common.{◌≡◌, ◌≢◌, ℕ, ◌+◌, ◌<◌, ◌≤◌, List, [], ◌∷◌, ◌++◌, Option, Some, Result, Ok}
use Rattle.std.proofs.Common.{Err, IsErrAnd, length, take, drop, sym, ap, subst, ◌∙◌, arith, append_assoc, append-nil, length-append}
use Rattle.std.proofs.lemmas.List.Elements.{All-append}
use Rattle.std.proofs.KnownBytes.{Consumes-trans}
use Rattle.std.specs.Io.KnownBytes.{Consumes, IsAtEnd}
use Rattle.std.specs.IoError.{error_kind}
use Rattle.std.specs.declared.io.Error.{Error}
use Rattle.std.specs.declared.io.ErrorKind.TheVariants.{Interrupted}
use Rattle.input.specs.declared.Held.{Held}
use Rattle.input.specs.declared.Found.{Found}
use Rattle.input.specs.declared.Found.TheVariants.{Long, Half}
use Rattle.input.specs.Input.{Unfed, FirstFeed}
use Rattle.input.specs.LentLines.{nothing_held, HeldWithin, lent_bytes, FeedBefore, LentFinds}
use Rattle.input.proofs.FeedLemmas.{at_feed}

-- no line feed is among the bytes that were held and those that the reader gave since, of which the last are held now
pub record PassedOver (held : List ℕ) (before after : Option (List ℕ)) (now : List ℕ) : Type 0 where
  pub given : List ℕ
  pub taken : Consumes before after given
  pub unfed : Unfed (held ++ given)
  pub lost : List ℕ
  pub parts : held ++ given ≡ lost ++ now

-- it cannot be read on
pub passed_given_up : (held : List ℕ) (left after : Option (List ℕ)) (bytes : List ℕ) (places : Held) (now : List ℕ) (e : Error)
    → PassedOver held left after now → now ≡ lent_bytes bytes places → HeldWithin bytes places → Unfed held → error_kind e ≢ Interrupted
    → LentFinds held left (Err e) bytes places after
passed_given_up held left after bytes places now e p is within none retried =
    record {
      given = p.given;
      taken = p.taken;
      within = within;
      parts = (p.unfed, (p.lost, p.parts ∙ ap (λ (l : List ℕ). p.lost ++ l) is));
      ended = tt;
      failed = record { retried = retried; late = none };
    }

-- what was passed over, and behind it what was read at once
module _ (held : List ℕ) (left between after : Option (List ℕ)) (now : List ℕ) (p : PassedOver held left between now) (piece : List ℕ)
    (taken : Consumes between after piece) where
  abbrev all : List ℕ
  all = p.given ++ piece

  all_taken : Consumes left after all
  all_taken = Consumes-trans left between after p.given piece p.taken taken

  joined : (held ++ p.given) ++ piece ≡ held ++ all
  joined = append_assoc held p.given piece

  -- nothing was read
  still : piece ≡ [] → Unfed (held ++ all)
  still nothing = subst Unfed (sym (append-nil (held ++ p.given)) ∙ ap (λ (l : List ℕ). (held ++ p.given) ++ l) (sym nothing) ∙ joined) p.unfed

  -- nothing of it ends a line
  pub passed_more : Unfed piece → PassedOver held left after piece
  passed_more unfed =
      record {
        given = all;
        taken = all_taken;
        unfed = subst Unfed joined (All-append (λ b. b ≢ 10) (held ++ p.given) piece p.unfed unfed);
        lost = held ++ p.given;
        parts = sym joined;
      }

  module _ (bytes : List ℕ) (places : Held) (within : HeldWithin bytes places) where
    -- a line ends in it
    pub passed_line : (at : ℕ) → length bytes ≤ length held → FirstFeed piece at → lent_bytes bytes places ≡ drop (at + 1) piece
        → FeedBefore bytes places → LentFinds held left (Ok (Some Long)) bytes places after
    passed_line at fits f is before =
        let line = (held ++ p.given) ++ take at piece in
        let behind = append_assoc (held ++ p.given) (take at piece) (10 ∷ drop (at + 1) piece) in
        record {
          given = all;
          taken = all_taken;
          within = within;
          parts = (
            line,
            All-append (λ b. b ≢ 10) (held ++ p.given) (take at piece) p.unfed f.before,
            omega (arith, fits, length-append (held ++ p.given) (take at piece), length-append held p.given),
            sym joined ∙ ap (λ (l : List ℕ). (held ++ p.given) ++ l) (at_feed piece at f) ∙ sym behind ∙ ap (λ (l : List ℕ). line ++ 10 ∷ l) (sym is),
            before,
          );
          ended = tt;
          failed = tt;
        }

    -- the input ended
    pub passed_end : length bytes ≤ length held → places ≡ nothing_held → piece ≡ [] → (0 < length bytes → IsAtEnd after)
        → LentFinds held left (Ok (Some Half)) bytes places after
    passed_end fits is nothing end =
        record {
          given = all;
          taken = all_taken;
          within = within;
          parts = (
            still nothing,
            λ some. omega (arith, some, fits, length-append held all),
            is,
          );
          ended = end;
          failed = tt;
        }

    -- the read fails
    pub passed_failed : (r : Result (Option Found) Error) → IsErrAnd r (λ e. error_kind e ≢ Interrupted) → Unfed held → piece ≡ []
        → lent_bytes bytes places ≡ piece → LentFinds held left r bytes places after
    passed_failed (Ok found) retried none nothing same = absurd retried
    passed_failed (Err e) retried none nothing same =
        record {
          given = all;
          taken = all_taken;
          within = within;
          parts = (still nothing, (held ++ p.given, sym joined ∙ ap (λ (l : List ℕ). (held ++ p.given) ++ l) (sym same)));
          ended = tt;
          failed = record { retried = retried; late = none };
        }
