-- What an `InlineText` holds after a formatter wrote on it: all that was written.
use Rattle.std.proofs.Common.{◌≡◌, ℕ, List, [], ◌∷◌, ◌++◌, ap, sym, subst, ◌∙◌, append_assoc, append-nil}
use Rattle.std.specs.List.{FoldsTo, concat}
use Rattle.std.specs.Fmt.{WritesInCalls}
use Rattle.std.specs.Fmt.InlineText.{IsIntact, inline_text, AppendsIfIntact}
use Rattle.std.specs.declared.fmt.InlineText.{InlineText}

module _ {n : ℕ} where
  after_calls : (s : InlineText n) (parts : List (List ℕ)) (t : InlineText n) → FoldsTo AppendsIfIntact s parts t → AppendsIfIntact s (concat parts) t
  after_calls s [] t p intact = (subst IsIntact p intact, ap inline_text (sym p) ∙ sym (append-nil (inline_text s)))
  after_calls s (x ∷ xs) t p intact =
      let first = p.1 intact in
      let rest = after_calls p.0 xs t p.2 first.0 in
      (rest.0, rest.1 ∙ ap (λ l. l ++ concat xs) first.1 ∙ append_assoc (inline_text s) x (concat xs))

  pub all_written : (s : InlineText n) (bytes : List ℕ) (t : InlineText n) → IsIntact s → inline_text s ≡ [] → WritesInCalls AppendsIfIntact s bytes t
      → inline_text t ≡ bytes
  all_written s bytes t intact empty wrote =
      (after_calls s wrote.parts t wrote.calls intact).1 ∙ ap (λ l. l ++ concat wrote.parts) empty ∙ wrote.whole
