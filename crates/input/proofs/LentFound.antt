-- What is found in lent bytes: those that were held, and behind them those that were read.
use Rattle.std.proofs.Common.{◌≡◌, ◌≢◌, ℕ, ◌+◌, ◌-◌, ◌≤◌, ◌<◌, List, [], ◌∷◌, ◌++◌, Option, None, Some, Result, Ok, Err, IfErr}
use Rattle.std.proofs.Common.{Bool, true, false, cond, eqb, length, get_or, take, drop, refl, sym, ap, subst, ◌∙◌, arith, append_assoc, append-nil, take_all, length-take-le, length-drop, take-take}
use Rattle.std.proofs.lemmas.List.{nil_from_length, drop-take, drop-drop, drop_at, get_or-drop, get_or-take}
use Rattle.std.proofs.lemmas.Slice.{between_is}
use Rattle.std.proofs.lemmas.Bool.{eqb-true, eqb-false}
use Rattle.std.proofs.KnownBytes.{Consumes-nil, Consumes-trans, starts_with_rest}
use Rattle.std.specs.Prelude.{slice_range}
use borrow.Rule.Slice.PartMut.{put_mid}
use Rattle.std.specs.Io.{StartsWith, appended_bytes}
use Rattle.std.specs.Io.KnownBytes.{Consumes, IsAtEnd}
use Rattle.std.specs.IoError.{error_kind}
use Rattle.std.specs.declared.io.Error.{Error}
use Rattle.std.specs.declared.io.ErrorKind.TheVariants.{Interrupted}
use Rattle.input.specs.declared.Held.{Held}
use Rattle.input.specs.declared.Found.{Found}
use Rattle.input.specs.declared.Found.TheVariants as found
use Rattle.input.specs.Input.{Unfed, FirstFeed}
use Rattle.input.specs.LentLines.{nothing_held, HeldWithin, lent_bytes, LineStands, FeedBefore, LentParts, LentEndsAt, LentFailsAt, LentFinds}
use Rattle.input.proofs.FeedLemmas.{at_feed}

-- the bytes up to a place
pub front_is : (n : ℕ) (bytes : List ℕ) → slice_range bytes 0 n ≡ take n bytes
front_is n bytes = ap (λ (k : ℕ). take k bytes) (omega arith)

-- the places of what stands at the front
abbrev pub in_front : ℕ → Held
in_front n = record { next = 0; filled = n }

pub front_held : (bytes : List ℕ) (held : Held) → held.next ≡ 0 → lent_bytes bytes held ≡ take held.filled bytes
front_held bytes held next = ap (λ (k : ℕ). slice_range bytes k held.filled) next ∙ front_is held.filled bytes

pub none_in_front : (n : ℕ) → n ≡ 0 → in_front n ≡ nothing_held
none_in_front n is = ap in_front is

pub nothing_front : (n : ℕ) (bytes : List ℕ) → n ≡ 0 → take n bytes ≡ []
nothing_front n bytes is = ap (λ (k : ℕ). take k bytes) is

-- what one read brought stands behind what was held
pub behind_is : (filled count : ℕ) (bytes read : List ℕ) → filled ≤ length bytes
    → appended_bytes (take filled bytes) (take (filled + count) (put_mid filled (length bytes - filled) bytes read)) ≡ take count read
behind_is filled count bytes read size =
    let now = put_mid filled (length bytes - filled) bytes read in
    let rest = drop (length bytes - filled) (drop filled bytes) in
    let front = length-take-le filled bytes size in
    let none = nil_from_length rest (omega (arith, length-drop (length bytes - filled) (drop filled bytes), length-drop filled bytes)) in
    ap (λ (k : ℕ). drop k (take (filled + count) now)) front ∙ drop-take filled count now
    ∙ ap (take count) (drop_at (take filled bytes) (read ++ rest) filled front ∙ ap (λ (l : List ℕ). read ++ l) none ∙ append-nil read)

-- what stands behind a line feed at the front
pub behind_feed : (bytes : List ℕ) (at n : ℕ) → slice_range bytes (at + 1) n ≡ drop (at + 1) (take n bytes)
behind_feed bytes at n = between_is bytes (at + 1) n

-- what stands behind a line feed at the front comes right behind it
pub feed_before : (n at : ℕ) (bytes : List ℕ) → n ≤ length bytes → FirstFeed (take n bytes) at
    → FeedBefore bytes (record { next = at + 1; filled = n })
feed_before n at bytes size f =
    let inside : at < n = omega (arith, f.within, length-take-le n bytes size) in
    (at, refl, sym (get_or-take n bytes at 0 inside) ∙ f.feed)

-- a line ends at the first line feed
pub line_stands : (all bytes : List ℕ) (from at to : ℕ) (held : Held) → all ≡ slice_range bytes from held.filled → held.filled ≤ length bytes
    → FirstFeed all at → to ≡ from + at → held.next ≡ to + 1 → LineStands all bytes from to held
line_stands all bytes from at to held is size f place next =
    let rest = drop from bytes in
    let long = length-drop from bytes in
    let count = held.filled - from in
    let whole = length-take-le count rest (omega arith) in
    let inside : at < count = omega (arith, f.within, ap length is, whole) in
    let line : slice_range bytes from to ≡ take at all =
    ap (λ (k : ℕ). take k rest) (omega arith) ∙ sym (take-take at count rest (omega arith)) ∙ ap (take at) (sym is) in
    let split : count ≡ (at + 1) + (held.filled - held.next) = omega arith in
    let behind : drop (at + 1) all ≡ lent_bytes bytes held =
    ap (drop (at + 1)) (is ∙ ap (λ (k : ℕ). take k rest) split) ∙ drop-take (at + 1) (held.filled - held.next) rest
    ∙ ap (take (held.filled - held.next)) (drop-drop (at + 1) from bytes ∙ ap (λ (k : ℕ). drop k bytes) (omega arith)) in
    let feed : get_or bytes to 0 ≡ get_or all at 0 =
    ap (λ (k : ℕ). get_or bytes k 0) place ∙ sym (get_or-drop from bytes at 0) ∙ sym (get_or-take count rest at 0 inside)
    ∙ ap (λ (l : List ℕ). get_or l at 0) (sym is) in
    record {
      order = omega arith;
      next = next;
      feed = feed ∙ f.feed;
      unfed = subst Unfed (sym line) f.before;
      stands = is;
      parts = at_feed all at f ∙ ap (λ (l : List ℕ). l ++ 10 ∷ drop (at + 1) all) (sym line)
          ∙ ap (λ (l : List ℕ). slice_range bytes from to ++ 10 ∷ l) behind;
    }

-- no line ends in what was searched, where more stands behind it
unfed_front : (n : ℕ) (held now : List ℕ) → n ≡ length held → StartsWith now held → Unfed held → Unfed (take n now)
unfed_front n held now size appends unfed = rw size (subst Unfed (sym appends) unfed)

-- nor where nothing does
pub unfed_still : (held now : List ℕ) → length now ≡ length held → StartsWith now held → Unfed held → Unfed now
unfed_still held now size appends unfed = subst Unfed (take_all (length held) now (omega arith)) (unfed_front (length held) held now refl appends unfed)

-- a line that stands in what is held
pub found_held : (held : List ℕ) (left : Option (List ℕ)) (bytes : List ℕ) (from to : ℕ) (places : Held) → HeldWithin bytes places
    → LineStands held bytes from to places → LentFinds held left (Ok (Some (found.Whole from to))) bytes places left
found_held held left bytes from to places within line =
    record {
      given = [];
      taken = Consumes-nil left;
      within = within;
      parts = subst (λ (l : List ℕ). LineStands l bytes from to places) (sym (append-nil held)) line;
      ended = tt;
      failed = tt;
    }

module _ (held now : List ℕ) (left between : Option (List ℕ)) (appends : StartsWith now held)
    (taken : Consumes left between (appended_bytes held now)) where
  joined : held ++ appended_bytes held now ≡ now
  joined = sym (starts_with_rest now held appends)

  pub found_in : (r : Result (Option Found) Error) (bytes : List ℕ) (places : Held) → HeldWithin bytes places → LentParts now r bytes places
      → LentEndsAt (length bytes) r between → IfErr r (LentFailsAt held) → LentFinds held left r bytes places between
  found_in r bytes places within parts ended failed =
      record {
        given = appended_bytes held now;
        taken = taken;
        within = within;
        parts = subst (λ (l : List ℕ). LentParts l r bytes places) (sym joined) parts;
        ended = ended;
        failed = failed;
      }

  -- nothing is lost of what was read before a failure
  pub failed_at : (r : Result (Option Found) Error) (bytes : List ℕ) (places : Held) (e : Error) → r ≡ Err e → HeldWithin bytes places
      → Unfed now → now ≡ lent_bytes bytes places → error_kind e ≢ Interrupted → Unfed held → LentFinds held left r bytes places between
  failed_at r bytes places e is within unfed same retried late =
      rw is (found_in (Err e) bytes places within (unfed, ([], same)) tt (record { retried = retried; late = late }))

  -- the input ended
  pub found_last : (end_found : Option Found) (n : ℕ) (bytes : List ℕ) (places : Held) → end_found ≡ cond (eqb n 0) None (Some found.Half) → n ≡ length now
      → places ≡ nothing_held → Unfed now → IsAtEnd between → LentFinds held left (Ok end_found) bytes places between
  found_last end_found n bytes places is size none unfed end = rw (is, none) (last (eqb n 0) refl)
    where
      nothing : HeldWithin bytes nothing_held
      nothing = record { next = omega arith; filled = omega arith }

      last : (b : Bool) → eqb n 0 ≡ b → LentFinds held left (Ok (cond b None (Some found.Half))) bytes nothing_held between
      last true e = found_in (Ok None) bytes nothing_held nothing (nil_from_length now (sym size ∙ eqb-true n 0 e), refl) end tt
      last false e =
          found_in (Ok (Some found.Half)) bytes nothing_held nothing (unfed, λ some. omega (arith, size, eqb-false n 0 e), refl) (λ some. end) tt

  -- what is found behind bytes in which no line ends
  pub found_behind : (after : Option (List ℕ)) (r : Result (Option Found) Error) (bytes : List ℕ) (places : Held) → Unfed held
      → LentFinds now between r bytes places after → LentFinds held left r bytes places after
  found_behind after r bytes places unfed f =
      record {
        given = appended_bytes held now ++ f.given;
        taken = Consumes-trans left between after (appended_bytes held now) f.given taken f.taken;
        within = f.within;
        parts = subst (λ (l : List ℕ). LentParts l r bytes places)
            (ap (λ (l : List ℕ). l ++ f.given) (sym joined) ∙ append_assoc held (appended_bytes held now) f.given) f.parts;
        ended = f.ended;
        failed = late r f.failed;
      }
    where
      late : (s : Result (Option Found) Error) → IfErr s (LentFailsAt now) → IfErr s (LentFailsAt held)
      late (Ok x) p = tt
      late (Err e) p = record { retried = p.retried; late = unfed }

-- after a failure nothing is held, where what was is let go
pub let_go : (held : List ℕ) (left after : Option (List ℕ)) (bytes : List ℕ) (places now : Held) (r : Result (Option Found) Error) (e : Error)
    → r ≡ Err e → LentFinds held left r bytes places after → now ≡ nothing_held → LentFinds held left (Err e) bytes now after
let_go held left after bytes places now r e is finds none =
    let f = subst (λ (x : Result (Option Found) Error). LentFinds held left x bytes places after) is finds in
    rw none
    (record {
      given = f.given;
      taken = f.taken;
      within = record { next = omega arith; filled = omega arith };
      parts = (f.parts.0, (held ++ f.given, sym (append-nil (held ++ f.given))));
      ended = tt;
      failed = f.failed;
    })
